-- What a call takes, and what it hands out then. Assumes nothing.
use Prim.Native.Nat.{ℕ}
use lib.Dec.{eqb}
use borrow.Author.Tests.{eqb-true, eq-eqb, not-false}
use mathlib.Core.Path.{◌≡◌, refl, sym, ◌∙◌, ap, subst}
use mathlib.Core.Bool.{false, not}
use mathlib.Core.Logic.{◌↔◌}
use Rattle.std.specs.Prelude.{Option, None, Some}
use Rattle.answers.specs.declared.Outcome.{Outcome}
use Rattle.answers.specs.Outcome.{cause}
use Rattle.answers.specs.Lent.{unless_refused}
use Rattle.answers.proofs.Bools.{clash, or_neither}
use Rattle.answers.proofs.Rows.{Clear, answered_clear, clear_answered, no-cause}
use Rattle.cnf.specs.Clauses.{Satisfies}
use Rattle.search.specs.Trail.{image, variable_value}
use Rattle.search.specs.Step.{failed_clause}
use Rattle.search.specs.Run.{Ending, Done, ending_number, done_outcome}
use Rattle.search.specs.Call.{Search, Handed, is_found, Call, Searching, Following, rows_of, begins, IsTaken, runs, outcome_of, hands, hands_done, Says, ends_at}
use Rattle.search.specs.Call.{resumed, given}
use Rattle.search.proofs.Trails.{length_trail, read_image}
use Rattle.search.proofs.Endings.{same_ending}
use Rattle.search_theory.specs.Openings.{OneAssignment}
use Rattle.search_theory.proofs.Legal.{AllAssigned}
use Rattle.search_theory.proofs.Choices.{choice_laws}
use Rattle.search_theory.proofs.Full.{length_full, one_assignment}
use Rattle.search_theory.proofs.Steps.{refuted, satisfied}
use Rattle.search_theory.proofs.Accepted.{taken_search, taken_closed, taken_proper, taken_legal, taken_explained, taken_image}
use Rattle.search_theory.proofs.Calls.{Came, came}

-- 1. Which calls are taken

-- no row has the number 0
answered_rows : (x : Call) (s : Search) (budget : ℕ) → (outcome_of x s budget).number ≡ 0 → Clear (rows_of s x)
answered_rows Searching s budget e = answered_clear (rows_of s Searching) (done_outcome (runs Searching s budget)) refl e
answered_rows Following s budget e = answered_clear (rows_of s Following) (done_outcome (runs Following s budget)) refl e

-- What a call gets is taken exactly if the call is not turned down.
pub taken_answered : (x : Call) (s : Search) (budget : ℕ) → IsTaken x s ↔ (hands x s budget).outcome.number ≡ 0
taken_answered x s budget = (
  λ ok. ap (λ (t : Outcome). t.number) (clear_answered (rows_of s x) (done_outcome (runs x s budget)) ok.clear),
  λ e. record { clear = answered_rows x s budget e },
)

none_found : (o : Option ℕ) → is_found o ≡ false → o ≡ None
none_found None h = refl
none_found (Some i) h = clash refl h

module _ {s : Search} where
  -- an accepted trail with all V entries used is one assignment
  module _ (ok : IsTaken Searching s) (full : s.used ≡ s.variables) where
    all_assigned : AllAssigned s.variables (variable_value (begins s))
    all_assigned = length_full s.variables (begins s) (taken_legal ok) (length_trail s.slices s.used ∙ full)

    pub full_trail : OneAssignment s.variables (begins s)
    full_trail = one_assignment s.variables (begins s) all_assigned (taken_legal ok)

  module _ (ok : IsTaken Following s) where
    true_under : (not (eqb s.used s.variables) ≡ false) × (is_found (failed_clause (variable_value (begins s)) s.list) ≡ false)
    true_under = or_neither (not (eqb s.used s.variables)) _ (no-cause _ ok.clear.1.1.1.1.0)

    pub next_full : s.used ≡ s.variables
    next_full = eqb-true s.used s.variables (not-false (eqb s.used s.variables) true_under.0)

    pub given_one : OneAssignment s.variables (begins s)
    given_one = full_trail (taken_search ok) next_full

    pub given-satisfies : Satisfies (given s) s.list
    given-satisfies =
        satisfied (begins s) (choice_laws s.variables s.list (variable_value (begins s)) (taken_closed ok)) (taken_proper ok) (taken_legal ok)
        (all_assigned (taken_search ok) next_full) (none_found _ true_under.1)

  -- `next` takes what the search would take with a full trail that satisfies the list, and nothing else.
  pub next_exactly : IsTaken Following s ↔ (IsTaken Searching s × (s.used ≡ s.variables) × Satisfies (given s) s.list)
  next_exactly = (λ ok. (taken_search ok, next_full ok, given-satisfies ok), λ h. takes h.0 h.1 h.2)
    where
      takes : IsTaken Searching s → s.used ≡ s.variables → Satisfies (given s) s.list → IsTaken Following s
      takes ok e h =
          let (c17, (c16, (c18, (c22, c)))) = ok.clear in
          let untrue = ap cause (by (failed_clause (variable_value (begins s)) s.list) refl) in
          record { clear = (c17, (c16, (c18, (c22, (rw (eq-eqb s.used s.variables e) untrue, tt))))) }
        where
          by : (o : Option ℕ) → failed_clause (variable_value (begins s)) s.list ≡ o → is_found o ≡ false
          by None q = refl
          by (Some i) q =
              absurd (refuted (begins s) (choice_laws s.variables s.list (variable_value (begins s)) (taken_closed ok)) (taken_proper ok) (taken_legal ok)
              q (given s) h (full_trail ok e).agrees)

-- 2. What is handed out

module _ {x : Call} {s : Search} (ok : IsTaken x s) (budget : ℕ) where
  abbrev done : Done
  done = runs x s budget

  pub comes : Came s.variables s.list x (begins s) budget done
  comes = came (taken_closed ok) (taken_proper ok) x (begins s) budget (taken_legal ok)

  -- Answer, steps and used count are told, and the trail's image is left in the slices:
  pub hands-done : hands x s budget ≡ hands_done s.variables done
  hands-done =
      ap (λ (t : Outcome). record { outcome = t; slices = unless_refused t s.slices (image s.variables done.trail) })
      (clear_answered (rows_of s x) (done_outcome done) ok.clear)

  -- read back, it is the trail at which the call ends,
  pub ends-at : ends_at (hands x s budget) ≡ done.trail
  ends-at = ap (λ (h : Handed). ends_at h) hands-done ∙ read_image s.variables done.trail

  -- and it is taken by the search.
  pub left_taken : IsTaken Searching (resumed s (hands_done s.variables done))
  left_taken = taken_image ok done.trail comes.legal (comes.explained (taken_explained ok))

  pub resumed_taken : IsTaken Searching (resumed s (hands x s budget))
  resumed_taken = subst (λ (h : Handed). IsTaken Searching (resumed s h)) (sym hands-done) left_taken

  pub said : (y : Ending) → done.ending ≡ y → Says (hands x s budget) y
  said y e = ap (λ (h : Handed). h.outcome.first) hands-done ∙ ap ending_number e

  pub ending : (y : Ending) → Says (hands x s budget) y → done.ending ≡ y
  ending y e = same_ending done.ending y (sym (ap (λ (h : Handed). h.outcome.first) hands-done) ∙ e)
