-- A call makes the listed steps, no others. Assumes nothing.
use Prim.Native.Nat.{ℕ, zero, suc}
use native.Mathlib.Omega.{arith}
use lib.IntN.{ℤ, pos, neg_ℤ}
use mathlib.Core.Path.{◌≡◌, refl, sym, ◌∙◌, ap}
use mathlib.Core.Bool.{false}
use Rattle.std.specs.Prelude.{Option, None, Some}
use mathlib.Core.List.{List, ◌∷◌}
use Rattle.cnf.specs.Literals.{unclosed}
use Rattle.search.specs.Trail.{entry, Trail, variable_value}
use Rattle.search.specs.Step.{failed_clause, forced_place, lowest_unassigned, undo, Next, Moved, AnsweredFound, AnsweredNone, undone, on_failed, on_forced}
use Rattle.search.specs.Step.{on_unassigned, step}
use Rattle.search.specs.Run.{Done, one_more, after, run, following}
use Rattle.search.specs.Call.{Search, Handed, Call, Searching, Following, begins, comes_to, IsTaken, runs, hands, hands_done}
use Rattle.search_theory.specs.Choices.{NoneFailed, NoneForcing}
use Rattle.search_theory.specs.ListedSteps.{Undoes, ListedStep, undoes, forces, chooses, finds, stays, moves}
use Rattle.search_theory.specs.ListedSteps.{SearchComesTo, found, none_left, halted, NextComesTo, keeps, drops_last, drops, ComesTo, ByListedSteps}
use Rattle.search_theory.proofs.Accepted.{taken_closed}
use Rattle.search_theory.proofs.Choices.{Laws, choice_laws, failed_none, forced_none, free_none, failed_found, forced_found, free_found}
use Rattle.search_theory.proofs.Undo.{undoing, only_undoing}
use Rattle.search_theory.proofs.Handed.{hands-done}

-- 1. One step

module _ (v : ℕ) (ls : List ℤ) (closed : unclosed ls ≡ false) where
  module _ (t : Trail) where
    law : Laws v ls (variable_value t)
    law = choice_laws v ls (variable_value t) closed

    -- a step is listed,
    pub listed : ListedStep v ls t (step v ls t)
    unfolding step
    listed = by (failed_clause (variable_value t) ls) refl
      where
        last : NoneFailed (variable_value t) ls → NoneForcing (variable_value t) ls
            → (o : Option ℕ) → lowest_unassigned v (variable_value t) ≡ o → ListedStep v ls t (on_unassigned o t)
        last f g (Some n) e = chooses f g (law.free e)
        last f g None e = finds f g (law.none_free e)

        rest : NoneFailed (variable_value t) ls → (o : Option ℕ) → forced_place (variable_value t) ls ≡ o
            → ListedStep v ls t (on_forced o ls t (on_unassigned (lowest_unassigned v (variable_value t)) t))
        rest f (Some i) e = forces f (law.forced e)
        rest f None e = last f (law.none_forced e) (lowest_unassigned v (variable_value t)) refl

        by : (o : Option ℕ) → failed_clause (variable_value t) ls ≡ o
            → ListedStep v ls t (on_failed o t (on_forced (forced_place (variable_value t) ls) ls t (on_unassigned (lowest_unassigned v (variable_value t)) t)))
        by (Some i) e = undoes (law.failed e).1 (undoing t)
        by None e = rest (law.none_failed e) (forced_place (variable_value t) ls) refl

    -- and no other
    pub only_step : {x : Next} → ListedStep v ls t x → x ≡ step v ls t
    unfolding step
    only_step (undoes f u) = rw (failed_found law f).1 (only_undoing u (undoing t))
    only_step (forces n f) = let (i, e, clause, same) = forced_found law f in rw ((failed_none law).1 n, e) (λ j. Moved (entry (same j) 0 (clause j) ∷ t))
    only_step (chooses n m f) =
        let (i, e, same) = free_found law f in
        rw ((failed_none law).1 n, (forced_none law).1 m, e) (ap (λ k. Moved (entry (neg_ℤ (pos k)) 1 0 ∷ t)) same)
    only_step (finds n m f) = rw ((failed_none law).1 n, (forced_none law).1 m, (free_none law).1 f) refl

-- 2. A call

module _ (v : ℕ) (ls : List ℤ) (closed : unclosed ls ≡ false) where
  -- a step, and what a search with the rest of the budget comes to
  one_more_lem : {t u : Trail} {b : ℕ} {d : Done} → ListedStep v ls t (Moved u) → SearchComesTo v ls u b d → SearchComesTo v ls t (suc b) (one_more d)
  one_more_lem m (found l h a) = found (moves m l) (omega arith) a
  one_more_lem m (none_left l h a) = none_left (moves m l) (omega arith) a
  one_more_lem m (halted l) = halted (moves m l)

  search_comes : (b : ℕ) (t : Trail) → SearchComesTo v ls t b (run v ls b t)
  unfolding run
  search_comes zero t = halted stays
  search_comes (suc b) t = by (step v ls t) (listed v ls closed t) (search_comes b)
    where
      by : (x : Next) → ListedStep v ls t x → ((u : Trail) → SearchComesTo v ls u b (run v ls b u))
          → SearchComesTo v ls t (suc b) (after x t (λ u. run v ls b u))
      by (Moved u) m go = one_more_lem m (go u)
      by AnsweredFound m go = found stays (omega arith) m
      by AnsweredNone m go = none_left stays (omega arith) m

  next_comes : (b : ℕ) (t : Trail) → NextComesTo v ls t b (following v ls b t)
  unfolding following
  next_comes zero t = keeps
  next_comes (suc b) t = by (undone (undo t)) (undoing t)
    where
      by : (x : Next) → Undoes t x → NextComesTo v ls t (suc b) (after x t (λ u. run v ls b u))
      by (Moved u) h = drops h (search_comes b u)
      by AnsweredNone h = drops_last h
      by AnsweredFound h = elim h [ ]

  comes-to : (x : Call) (b : ℕ) (t : Trail) → ComesTo x v ls t b (comes_to x v ls b t)
  comes-to Searching b t = search_comes b t
  comes-to Following b t = next_comes b t

  -- by the listed steps it comes to nothing else
  goes_on : (t : Trail) (b : ℕ) {x y : Next} → x ≡ y → after x t (λ u. run v ls b u) ≡ after y t (λ u. run v ls b u)
  goes_on t b e = ap (λ (x : Next). after x t (λ u. run v ls b u)) e

  search_only : (b : ℕ) {t : Trail} {d : Done} → SearchComesTo v ls t b d → d ≡ run v ls b t
  unfolding run
  search_only zero (found l h a) = absurd (omega arith)
  search_only zero (none_left l h a) = absurd (omega arith)
  search_only zero (halted stays) = refl
  search_only (suc b) {t} (found stays h a) = goes_on t b (only_step v ls closed t a)
  search_only (suc b) {t} (found (moves m l) h a) = ap one_more (search_only b (found l (omega arith) a)) ∙ goes_on t b (only_step v ls closed t m)
  search_only (suc b) {t} (none_left stays h a) = goes_on t b (only_step v ls closed t a)
  search_only (suc b) {t} (none_left (moves m l) h a) = ap one_more (search_only b (none_left l (omega arith) a)) ∙ goes_on t b (only_step v ls closed t m)
  search_only (suc b) {t} (halted (moves m l)) = ap one_more (search_only b (halted l)) ∙ goes_on t b (only_step v ls closed t m)

  next_only : (b : ℕ) {t : Trail} {d : Done} → NextComesTo v ls t b d → d ≡ following v ls b t
  unfolding following
  next_only zero keeps = refl
  next_only (suc b) {t} (drops_last u) = goes_on t b (only_undoing u (undoing t))
  next_only (suc b) {t} (drops u c) = ap one_more (search_only b c) ∙ goes_on t b (only_undoing u (undoing t))

  comes_only : (x : Call) (b : ℕ) (t : Trail) {d : Done} → ComesTo x v ls t b d → d ≡ comes_to x v ls b t
  comes_only Searching b t c = search_only b c
  comes_only Following b t c = next_only b c

pub stepped : {x : Call} {s : Search} → IsTaken x s → (budget : ℕ) → ByListedSteps x s budget (hands x s budget)
stepped {x} {s} ok budget =
    record { done = runs x s budget; comes = comes-to s.variables s.list (taken_closed ok) x budget (begins s); hands = hands-done ok budget }

pub only_stepped : {x : Call} {s : Search} → IsTaken x s → (budget : ℕ) (h : Handed) → ByListedSteps x s budget h → h ≡ hands x s budget
only_stepped {x} {s} ok budget h c =
    c.hands ∙ ap (hands_done s.variables) (comes_only s.variables s.list (taken_closed ok) x budget (begins s) c.comes) ∙ sym (hands-done ok budget)
