-- A step in code makes the choices of the step as it is defined. Assumes nothing.
use Prim.Native.Nat.{ℕ}
use native.Mathlib.Omega.{arith}
use lib.IntN.{ℤ, pos, negsuc}
use lib.ListN.{length, get_or}
use mathlib.Core.Path.{◌≡◌, refl, sym, ◌∙◌, ap, subst, fun_ext}
use Rattle.std.specs.Prelude.{Option, None, Some}
use mathlib.Core.List.{List}
use Rattle.cnf.specs.Clauses.{clause_number}
use Rattle.search.specs.Trail.{Entry, entry, Trail, Slices, Values, variable_value}
use Rattle.search.specs.Step.{failed_clause, forced_place, lowest_unassigned, Next, Moved, undoes, step}
use Rattle.search_theory.proofs.Lists.{proper_clauses}
use Rattle.search_theory.specs.Legal.{Legal}
use Rattle.search_theory.proofs.Choices.{choice_laws}
use Rattle.search_theory.proofs.Steps.{StepKeeps, moved, exhausted, full, step_keeps}
use Rattle.search_scan.specs.PackedValues.{packed_values}
use Rattle.search_trail.specs.Packed.{running_trail, Running}
use Rattle.search_trail.proofs.WithTrail.{packed-values, running_values, running_legal}
use Rattle.search_step.specs.declared.Stepped.TheVariants.{Found}
use Rattle.search_step.specs.Steps.{ListFits, Allows, appends, StepHanded, step_handed, answer_of, leaves, hands_next}

-- a trail that a step moves to is legal
moved_legal : {v : ℕ} {ls : List ℤ} {t u : Trail} {x : Next} → StepKeeps v ls t x → x ≡ Moved u → Legal v u
moved_legal {v = v} {u = u} (moved {u = w} l f o) e = let q : w ≡ u = cc in subst (Legal v) q l
moved_legal (exhausted h) e = let z : ◌≡◌ {A = ℕ} 0 1 = cc in absurd (omega arith)
moved_legal (full h s) e = let z : ◌≡◌ {A = ℕ} 0 1 = cc in absurd (omega arith)

pub step_legal : {v : ℕ} {ls : List ℤ} {u : Trail} (t : Trail) → ListFits v ls → Legal v t → step v ls t ≡ Moved u → Legal v u
step_legal {v} {ls} t fits legal q =
    moved_legal (step_keeps t (choice_laws v ls (variable_value t) fits.closed) (proper_clauses v ls fits.within.each) legal) q

-- where a step stands
pub record Standing (ls : List ℤ) (s : Slices) (used : ℕ) : Type 0 where
  pub running : Running (length s.marks) s used
  pub listed : ListFits (length s.marks) ls

module _ {ls : List ℤ} {s : Slices} {used : ℕ} (at : Standing ls s used) where
  abbrev v : ℕ
  v = length s.marks

  abbrev t : Trail
  t = running_trail s used

  same : packed_values s.marks ≡ variable_value t
  same = fun_ext (packed-values at.running.packed) ∙ sym (running_values s used)

  pub choice_allowed : {e : Entry} → step (length s.marks) ls t ≡ appends e t → Allows s used e
  choice_allowed q = step_legal t at.listed (running_legal v s used at.running.packed.legal) q

  -- what comes of an answer to a choice
  pub by_choice : {x : Next} {h : StepHanded} → step (length s.marks) ls t ≡ x → h ≡ record { answer = answer_of x; slices = leaves x s }
      → h ≡ hands_next (step (length s.marks) ls) s used
  by_choice q e = e ∙ (λ j. record { answer = answer_of (sym q j); slices = leaves (sym q j) s })

  -- the choices, by the values above the marks
  module _ {o : Option ℕ} where
    failed_as : o ≡ failed_clause (packed_values s.marks) ls → failed_clause (variable_value t) ls ≡ o
    failed_as f = sym (f ∙ ap (λ (w : Values). failed_clause w ls) same)

    forced_as : o ≡ forced_place (packed_values s.marks) ls → forced_place (variable_value t) ls ≡ o
    forced_as f = sym (f ∙ ap (λ (w : Values). forced_place w ls) same)

    free_as : o ≡ lowest_unassigned (length s.marks) (packed_values s.marks) → lowest_unassigned v (variable_value t) ≡ o
    free_as f = sym (f ∙ ap (λ (w : Values). lowest_unassigned v w) same)

  pub on-failed : {i : ℕ} → Some i ≡ failed_clause (packed_values s.marks) ls → step (length s.marks) ls t ≡ undoes t
  unfolding step
  on-failed f = rw (failed_as f)

  module _ (f : None ≡ failed_clause (packed_values s.marks) ls) where
    pub on-forced : {p : ℕ} → Some p ≡ forced_place (packed_values s.marks) ls
        → step (length s.marks) ls t ≡ appends (entry (get_or ls p (pos 0)) 0 (clause_number ls p)) t
    unfolding step
    on-forced g = rw (failed_as f, forced_as g)

    module _ (g : None ≡ forced_place (packed_values s.marks) ls) where
      pub on_free : {n : ℕ} → Some n ≡ lowest_unassigned (length s.marks) (packed_values s.marks)
          → step (length s.marks) ls t ≡ appends (entry (negsuc n) 1 0) t
      unfolding step
      on_free h = rw (failed_as f, forced_as g, free_as h)

      pub on_full : None ≡ lowest_unassigned (length s.marks) (packed_values s.marks)
          → step_handed Found s.trail s.marks s.numbers ≡ hands_next (step (length s.marks) ls) s used
      unfolding step
      on_full h = rw (failed_as f, forced_as g, free_as h) refl
