-- A property of each entry, given those before it, that every entry which a step appends or negates has too, holds after a step and after a run. Assumes
-- nothing.
use Prim.Native.Nat.{ℕ, zero, suc}
use lib.Dec.{eqb}
use lib.IntN.{ℤ, pos, negsuc}
use lib.ListN.{get_or}
use mathlib.Core.Path.{◌≡◌, refl, sym, subst}
use mathlib.Core.Bool.{Bool, true, false, cond}
use Rattle.std.specs.Prelude.{Option, None, Some}
use Rattle.std.proofs.lemmas.Option.{same_Some}
use Rattle.answers.proofs.Options.{some-none}
use mathlib.Core.List.{List, [], ◌∷◌}
use Rattle.cnf.specs.Clauses.{clause_number}
use Rattle.search.specs.Trail.{Entry, entry, Trail, variable_value}
use Rattle.search.specs.Step.{negated, undo, Next, Moved, AnsweredFound, AnsweredNone, undone, failed_clause, forced_place, lowest_unassigned, on_failed, on_forced}
use Rattle.search.specs.Step.{on_unassigned, step}
use Rattle.search.specs.Run.{after, run}
use Rattle.search_theory.specs.Legal.{EachEntry}

-- of each entry of the trail that a step moves to
abbrev pub KeptNext : (Trail → Entry → Type 0) → Next → Type 0
KeptNext P (Moved u) = EachEntry P u
KeptNext P AnsweredFound = Unit
KeptNext P AnsweredNone = Unit

module _ (P : Trail → Entry → Type 0) (negates : (t : Trail) (e : Entry) → P t (negated e)) where
  pub kept_undo : (t u : Trail) → undo t ≡ Some u → EachEntry P t → EachEntry P u
  unfolding undo
  kept_undo [] u h c = absurd (some-none u (sym h))
  kept_undo (e ∷ t) u h c = by (eqb e.mark 1) h (kept_undo t u)
    where
      by : (b : Bool) → cond b (Some (negated e ∷ t)) (undo t) ≡ Some u → (undo t ≡ Some u → EachEntry P t → EachEntry P u) → EachEntry P u
      by true h go = subst (EachEntry P) (same_Some _ u h) (negates t e, c.1)
      by false h go = go h c.1

  module _ (v : ℕ) (ls : List ℤ)
      (forces : (t : Trail) (i : ℕ) → forced_place (variable_value t) ls ≡ Some i → P t (entry (get_or ls i (pos 0)) 0 (clause_number ls i)))
      (chooses : (t : Trail) (n : ℕ) → lowest_unassigned v (variable_value t) ≡ Some n → P t (entry (negsuc n) 1 0)) where
    pub kept_step : (t : Trail) → EachEntry P t → KeptNext P (step v ls t)
    unfolding step
    kept_step t c = by (failed_clause (variable_value t) ls)
      where
        undoing : (o : Option Trail) → undo t ≡ o → KeptNext P (undone o)
        undoing None e = tt
        undoing (Some u) e = kept_undo t u e c

        last : (o : Option ℕ) → lowest_unassigned v (variable_value t) ≡ o → KeptNext P (on_unassigned o t)
        last None e = tt
        last (Some n) e = (chooses t n e, c)

        on : (o : Option ℕ) → forced_place (variable_value t) ls ≡ o → KeptNext P (on_forced o ls t (on_unassigned (lowest_unassigned v (variable_value t)) t))
        on (Some i) e = (forces t i e, c)
        on None e = last (lowest_unassigned v (variable_value t)) refl

        by : (o : Option ℕ)
            → KeptNext P (on_failed o t (on_forced (forced_place (variable_value t) ls) ls t (on_unassigned (lowest_unassigned v (variable_value t)) t)))
        by (Some i) = undoing (undo t) refl
        by None = on (forced_place (variable_value t) ls) refl

    pub kept_run : (b : ℕ) (t : Trail) → EachEntry P t → EachEntry P (run v ls b t).trail
    unfolding run
    kept_run zero t c = c
    kept_run (suc b) t c = by (step v ls t) (kept_step t c) (kept_run b)
      where
        by : (x : Next) → KeptNext P x → ((u : Trail) → EachEntry P u → EachEntry P (run v ls b u).trail) → EachEntry P (after x t (λ u. run v ls b u)).trail
        by (Moved u) h go = go u h
        by AnsweredFound h go = c
        by AnsweredNone h go = c
