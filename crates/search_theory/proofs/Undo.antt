-- Undoing is back to the last entry marked 1; and it keeps the assignments open at a trail that do not agree with all of it. Assumes nothing.
use Prim.Native.Nat.{ℕ, zero, suc, ◌≤◌}
use native.Mathlib.Omega.{arith}
use lib.Dec.{eqb, ltb}
use lib.IntN.{ℤ, pos, negsuc, neg_ℤ, nat_abs}
use lib.ListN.{get_or, drop}
use borrow.Author.Tests.{eqb-true, eqb-false, not-true}
use mathlib.Core.Path.{◌≡◌, refl, sym, ◌∙◌, ap, subst}
use mathlib.Core.Bool.{Bool, true, false, not, cond}
use mathlib.Core.Logic.{inl, inr, ⊎_elim}
use Rattle.std.specs.Prelude.{Option, None, Some}
use Rattle.std.proofs.lemmas.Option.{same_Some}
use Rattle.answers.proofs.Options.{some-none}
use mathlib.Core.List.{List, [], ◌∷◌}
use Rattle.answers.specs.First.{NoneIn, here, later}
use Rattle.answers.proofs.Bools.{clash}
use Rattle.answers.proofs.First.{not_none, only_first}
use Rattle.cnf.specs.Literals.{closes}
use Rattle.cnf.specs.Clauses.{value}
use Rattle.search.specs.Trail.{Entry, Trail, variable_value, Turned, Open}
use Rattle.search.specs.Step.{negated, undo, Next, Moved, AnsweredNone, undone}
use Rattle.search_theory.specs.Legal.{LegalEntry, Legal}
use Rattle.search_theory.specs.ListedSteps.{MarkedOne, Undoes, negates, none_marked}
use Rattle.search_theory.proofs.Full.{legal_length}
use Rattle.search_theory.proofs.Measure.{choice_sum, number, number-undo, choices_more}

-- 1. What undoing leads to

pub undoing : (t : Trail) → Undoes t (undone (undo t))
unfolding undo
undoing [] = none_marked tt
undoing (e ∷ t) = by (eqb e.mark 1) refl (undoing t)
  where
    back : {x : Next} → (e.mark ≡ 1 → ⊥) → Undoes t x → Undoes (e ∷ t) x
    back n (negates f) = negates (later n f)
    back n (none_marked h) = none_marked (n, h)

    by : (b : Bool) → eqb e.mark 1 ≡ b → Undoes t (undone (undo t)) → Undoes (e ∷ t) (undone (cond b (Some (negated e ∷ t)) (undo t)))
    by true q go = negates (here (eqb-true e.mark 1 q))
    by false q go = back (eqb-false e.mark 1 q) go

pub only_undoing : {t : Trail} {x y : Next} → Undoes t x → Undoes t y → x ≡ y
only_undoing {t} (negates f) (negates g) = let r = only_first f g in (λ i. Moved (negated (r.1 i) ∷ drop (suc (r.0 i)) t))
only_undoing (negates f) (none_marked h) = absurd (not_none f h)
only_undoing (none_marked h) (negates f) = absurd (not_none f h)
only_undoing (none_marked h) (none_marked k) = refl

-- by the definition
pub undoes_to : {t u : Trail} → Undoes t (Moved u) → undo t ≡ Some u
undoes_to {t} {u} h = by (undo t) refl (only_undoing h (undoing t))
  where
    by : (o : Option Trail) → undo t ≡ o → Moved u ≡ undone o → undo t ≡ Some u
    by (Some x) e q = let r : x ≡ u = cc in e ∙ ap Some r
    by None e q = let z : ◌≡◌ {A = ℕ} 0 1 = cc in absurd (omega arith)

pub undoes_nothing : (t : Trail) → NoneIn MarkedOne t → undo t ≡ None
undoes_nothing t h = by (undo t) refl (only_undoing (none_marked h) (undoing t))
  where
    by : (o : Option Trail) → undo t ≡ o → AnsweredNone ≡ undone o → undo t ≡ None
    by (Some x) e q = let z : ◌≡◌ {A = ℕ} 0 1 = cc in absurd (omega arith)
    by None e q = e

-- 2. What it keeps

same_variable : (l : ℤ) → nat_abs (neg_ℤ l) ≡ nat_abs l
same_variable (pos zero) = refl
same_variable (pos (suc n)) = refl
same_variable (negsuc n) = refl

same_closes : (l : ℤ) → closes (neg_ℤ l) ≡ closes l
same_closes (pos zero) = refl
same_closes (pos (suc n)) = refl
same_closes (negsuc n) = refl

value-negated : (a : List Bool) (l : ℤ) → closes l ≡ false → value a (neg_ℤ l) ≡ not (value a l)
value-negated a (pos zero) z = clash refl z
value-negated a (pos (suc n)) z = refl
value-negated a (negsuc n) z = twice (get_or a n false)
  where
    twice : (b : Bool) → b ≡ not (not b)
    twice true = refl
    twice false = refl

-- u is what undoing makes of t
pub record Undone (v : ℕ) (t u : Trail) : Type 0 where
  pub legal : Legal v u
  pub opens : (a : List Bool) → Turned a t → Open a u
  pub was_open : (a : List Bool) → Open a u → Turned a t
  pub falls : number v u ≤ choice_sum v t

module _ (v : ℕ) where
  undone_here : (e : Entry) (t : Trail) → Legal v (e ∷ t) → e.mark ≡ 1 → Undone v (e ∷ t) (negated e ∷ t)
  undone_here e t l m =
      record { legal = (is_legal, l.1); opens = opens; was_open = was_open; falls = number-undo v e (negated e) t (legal_length v (e ∷ t) l) m refl }
    where
      is_legal : LegalEntry v t (negated e)
      is_legal =
          let r = l.0 in
          let n = same_variable e.literal in
          record {
            proper = record { nonzero = same_closes e.literal ∙ r.proper.nonzero; within = ap (ltb v) n ∙ r.proper.within };
            free = ap (variable_value t) n ∙ r.free;
            mark_small = omega arith;
          }

      turned : (a : List Bool) → value a (neg_ℤ e.literal) ≡ not (value a e.literal)
      turned a = value-negated a e.literal l.0.proper.nonzero

      opens : (a : List Bool) → Turned a (e ∷ t) → Open a (negated e ∷ t)
      opens a (inl o) = inl (turned a ∙ ap not o.1, o.2)
      opens a (inr o) = inr (inr o)

      was_open : (a : List Bool) → Open a (negated e ∷ t) → Turned a (e ∷ t)
      was_open a (inl o) = inl (m, not-true (value a e.literal) (sym (turned a) ∙ o.0), o.1)
      was_open a (inr (inl o)) = let z = o.0 in absurd (omega arith)
      was_open a (inr (inr o)) = inr o

  pub undo_some : (t u : Trail) → Legal v t → undo t ≡ Some u → Undone v t u
  unfolding undo
  undo_some [] u l h = absurd (some-none u (sym h))
  undo_some (e ∷ t) u l h = by (eqb e.mark 1) refl (undo_some t u l.1) h
    where
      by : (b : Bool) → eqb e.mark 1 ≡ b → (undo t ≡ Some u → Undone v t u) → cond b (Some (negated e ∷ t)) (undo t) ≡ Some u → Undone v (e ∷ t) u
      by true q go h = subst (Undone v (e ∷ t)) (same_Some _ u h) (undone_here e t l (eqb-true e.mark 1 q))
      by false q go h =
          let r = go h in
          let m = choices_more v e t in
          let f = r.falls in
          record {
            legal = r.legal;
            opens = λ a. ⊎_elim (λ o. absurd (eqb-false e.mark 1 q o.0)) (r.opens a);
            was_open = λ a o. inr (r.was_open a o);
            falls = omega arith;
          }

pub undo_none : (a : List Bool) (t : Trail) → undo t ≡ None → Turned a t → ⊥
unfolding undo
undo_none a [] h o = o
undo_none a (e ∷ t) h o = by (eqb e.mark 1) refl (undo_none a t) h o
  where
    by : (b : Bool) → eqb e.mark 1 ≡ b → (undo t ≡ None → Turned a t → ⊥) → cond b (Some (negated e ∷ t)) (undo t) ≡ None → Turned a (e ∷ t) → ⊥
    by true q go h o = some-none _ h
    by false q go h (inl o) = eqb-false e.mark 1 q o.0
    by false q go h (inr o) = go h o
