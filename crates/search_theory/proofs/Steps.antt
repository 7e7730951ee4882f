-- What a step does, from the laws of its choices: the open satisfying assignments stay, the number falls, and an answer is right. Assumes nothing.
use Prim.Native.Nat.{ℕ, suc, ◌<◌}
use native.Mathlib.Omega.{arith}
use lib.IntN.{ℤ, pos, negsuc, nat_abs}
use lib.ListN.{get_or}
use borrow.Author.Tests.{le-ltb}
use mathlib.Core.Path.{◌≡◌, refl, sym, ◌∙◌, ap}
use mathlib.Core.Bool.{Bool, true, false}
use mathlib.Core.Logic.{◌⊎◌, inl, inr, ◌↔◌, ⊎_elim}
use Rattle.std.specs.Prelude.{Option, None as none, Some as some}
use mathlib.Core.List.{List, ◌∷◌}
use Rattle.answers.specs.Lists.{All, Some}
use Rattle.answers.proofs.Bools.{clash}
use Rattle.answers.proofs.Elements.{all_at}
use Rattle.cnf.specs.Clauses.{split, clause_number, value, Satisfies}
use Rattle.search.specs.Trail.{Entry, entry, Trail, Value, True, False, Unassigned, opposite, is_false, is_unassigned, variable_value, literal_value}
use Rattle.search.specs.Trail.{Agrees, Open, values_of}
use Rattle.search.specs.Step.{failed_clause, forced_place, lowest_unassigned, undo, Next, Moved, AnsweredFound, AnsweredNone, undone, on_failed, on_forced}
use Rattle.search.specs.Step.{fails, on_unassigned, step}
use Rattle.search_theory.specs.Legal.{Proper, LegalEntry, Legal}
use Rattle.search_theory.proofs.Lists.{all_zip, some_zip, meet}
use Rattle.search_theory.proofs.Values.{literal_false}
use Rattle.search_theory.proofs.Legal.{AllAssigned}
use Rattle.search_theory.specs.Choices.{Forces}
use Rattle.search_theory.proofs.Choices.{Laws, failed_some, none_failed_each, forcing_some, others_false, all_assigned}
use Rattle.search_theory.proofs.Full.{legal_length, literal_true}
use Rattle.search_theory.proofs.Measure.{number, number_more, number_append}
use Rattle.search_theory.proofs.Undo.{undo_some, undo_none}

-- a step's outcome
pub data StepKeeps (v : ℕ) (ls : List ℤ) (t : Trail) : Next → Type 0 where
  moved : {u : Trail} → Legal v u → number v u < number v t → ((a : List Bool) → Satisfies a ls → Open a t ↔ Open a u) → StepKeeps v ls t (Moved u)
  exhausted : ((a : List Bool) → Satisfies a ls → Open a t → ⊥) → StepKeeps v ls t AnsweredNone
  full : AllAssigned v (variable_value t) → Satisfies (values_of v t) ls → StepKeeps v ls t AnsweredFound

-- an entry more: nothing is lost if it is marked 1, or if no assignment that agrees so far differs at it
opened : (a : List Bool) (e : Entry) (t : Trail) → (Agrees a t → value a e.literal ≡ false → e.mark ≡ 1) → Open a t ↔ Open a (e ∷ t)
opened a e t h = (⊎_elim (λ g. by (value a e.literal) refl g) (λ o. inr (inr o)), back)
  where
    by : (b : Bool) → value a e.literal ≡ b → Agrees a t → Open a (e ∷ t)
    by true q g = inl (q, g)
    by false q g = inr (inl (h g q, q, g))

    back : Open a (e ∷ t) → Open a t
    back (inl o) = inl o.1
    back (inr (inl o)) = inl o.2
    back (inr (inr o)) = inr o

variable_free : (t : Trail) (l : ℤ) → literal_value (variable_value t) l ≡ Unassigned → variable_value t (nat_abs l) ≡ Unassigned
variable_free t (pos n) h = h
variable_free t (negsuc n) h = by (variable_value t (suc n)) h
  where
    by : (w : Value) → opposite w ≡ Unassigned → w ≡ Unassigned
    by True h = clash refl (ap is_unassigned (sym h))
    by False h = clash refl (ap is_unassigned (sym h))
    by Unassigned h = refl

module _ {v : ℕ} {ls : List ℤ} (t : Trail) (law : Laws v ls (variable_value t)) (proper : All (All (Proper v)) (split ls)) (legal : Legal v t) where
  -- the trail goes on by an entry
  append : (e : Entry) → LegalEntry v t e → ((a : List Bool) → Satisfies a ls → Agrees a t → value a e.literal ≡ false → e.mark ≡ 1)
      → StepKeeps v ls t (Moved (e ∷ t))
  append e r h = moved {u = e ∷ t} (r, legal) (number_append v e t (legal_length v (e ∷ t) (r, legal))) (λ a s. opened a e t (h a s))

  -- a literal that a clause forces is true wherever the rest agrees
  forced_true : (l : ℤ) → Some (Forces (variable_value t) l) (split ls) → (a : List Bool) → Satisfies a ls → Agrees a t → value a l ≡ true
  forced_true l f a s g = meet (λ c k o. meet at c o (others_false (variable_value t) c k)) (split ls) f s
    where
      at : (x : ℤ) → value a x ≡ true → (x ≡ l) ⊎ (fails (variable_value t) x ≡ true) → value a l ≡ true
      at x q (inl e) = ap (value a) (sym e) ∙ q
      at x q (inr h) = clash q (literal_false a t g x h)

  -- none that satisfies the list agrees with a trail under which a clause fails
  pub refuted : {i : ℕ} → failed_clause (variable_value t) ls ≡ some i → (a : List Bool) → Satisfies a ls → Agrees a t → ⊥
  refuted h a s g =
      meet (λ c k o. meet (λ x q w. clash q (literal_false a t g x (ap is_false w))) c o k) (split ls) (failed_some (variable_value t) (law.failed h).1) s

  -- a trail under which every variable is assigned and no clause fails satisfies the list
  pub satisfied : AllAssigned v (variable_value t) → failed_clause (variable_value t) ls ≡ none → Satisfies (values_of v t) ls
  satisfied all f = all_zip (some_zip (literal_true v t all)) (split ls) (none_failed_each (variable_value t) ls (law.none_failed f)) proper

  on-forced : (l : ℤ) (n : ℕ) → Some (Forces (variable_value t) l) (split ls) → StepKeeps v ls t (Moved (entry l 0 n ∷ t))
  on-forced l n f = append (entry l 0 n) (meet is_legal (split ls) f proper) (λ a s g w. clash (forced_true l f a s g) w)
    where
      is_legal : (c : List ℤ) → Forces (variable_value t) l c → All (Proper v) c → LegalEntry v t (entry l 0 n)
      is_legal c k ps =
          record {
            proper = all_at (Proper v) ps k.holds;
            free = variable_free t l k.unassigned;
            mark_small = omega arith;
          }

  on-unassigned : (o : Option ℕ) → lowest_unassigned v (variable_value t) ≡ o → failed_clause (variable_value t) ls ≡ none → StepKeeps v ls t (on_unassigned o t)
  on-unassigned none h f = let all = all_assigned (variable_value t) v (law.none_free h) in full all (satisfied all f)
  on-unassigned (some n) h f = append (entry (negsuc n) 1 0) is_legal (λ a s g w. refl)
    where
      is_legal : LegalEntry v t (entry (negsuc n) 1 0)
      is_legal =
          record {
            proper = record { nonzero = refl; within = le-ltb v (suc n) (law.free h).to_V };
            free = (law.free h).unassigned;
            mark_small = omega arith;
          }

  on-failed : {i : ℕ} → failed_clause (variable_value t) ls ≡ some i → (o : Option Trail) → undo t ≡ o → StepKeeps v ls t (undone o)
  on-failed f none h = exhausted (λ a s. ⊎_elim (refuted f a s) (undo_none a t h))
  on-failed f (some u) h =
      let r = undo_some v t u legal h in
      let m = number_more v t in
      let w = r.falls in
      moved {u = u} r.legal (omega arith) (λ a s. (⊎_elim (λ g. absurd (refuted f a s g)) (r.opens a), λ o. inr (r.was_open a o)))

  pub step_keeps : StepKeeps v ls t (step v ls t)
  unfolding step
  step_keeps = by (failed_clause (variable_value t) ls) refl
    where
      on : (o : Option ℕ) → forced_place (variable_value t) ls ≡ o → failed_clause (variable_value t) ls ≡ none
          → StepKeeps v ls t (on_forced o ls t (on_unassigned (lowest_unassigned v (variable_value t)) t))
      on (some i) h f = on-forced (get_or ls i (pos 0)) (clause_number ls i) (forcing_some (variable_value t) (law.forced h))
      on none h f = on-unassigned (lowest_unassigned v (variable_value t)) refl f

      by : (o : Option ℕ) → failed_clause (variable_value t) ls ≡ o
          → StepKeeps v ls t (on_failed o t (on_forced (forced_place (variable_value t) ls) ls t (on_unassigned (lowest_unassigned v (variable_value t)) t)))
      by (some i) f = on-failed f (undo t) refl
      by none f = on (forced_place (variable_value t) ls) refl f
