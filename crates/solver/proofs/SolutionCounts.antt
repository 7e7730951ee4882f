-- The count of a grid's solutions is right: none, one, or several. Read `count_exactly`. Assumes nothing.
use Prim.Native.Nat.{ℕ, ◌-◌}
use mathlib.Core.Path.{◌≡◌, refl, sym, ◌∙◌, ap, subst}
use mathlib.Core.Bool.{Bool, true, false}
use mathlib.Core.Logic.{◌↔◌}
use mathlib.Core.List.{List}
use Rattle.answers.proofs.Bools.{clash}
use Rattle.rules.specs.Record.{IsAccepted}
use Rattle.rules.specs.Board.{board_of}
use Rattle.rules.specs.Drawing.{SolutionBytes}
use Rattle.rules.specs.Solutions.{OneSolution as HasOne, SeveralSolutions as HasSeveral}
use Rattle.encoder.specs.Variables.{variable_count}
use Rattle.encoder.specs.Clauses.{clause_list}
use Rattle.search.specs.Run.{Ending, Found, None, Halted, Done, ending_number, following}
use Rattle.search.specs.Call.{Search, Handed, by_search, by_next, Says, resumed}
use Rattle.search.proofs.Endings.{same_ending, other_ending}
use Rattle.solver.specs.SolverCall.{solved}
use Rattle.solver.specs.SolutionCount.{SolutionCount, NoSolution, OneSolution, SeveralSolutions, Unknown, second, after_first, solution_count_of}
use Rattle.solver.proofs.Begun as begun

abbrev HasNone : List ℕ → Type 0
HasNone s = (ds : List ℕ) → SolutionBytes (board_of s) ds → ⊥

-- what is told of the grid
abbrev Tells : List ℕ → SolutionCount → Type 0
Tells s NoSolution = HasNone s
Tells s OneSolution = HasOne s
Tells s SeveralSolutions = HasSeveral s
Tells s Unknown = Unit

module _ (s : List ℕ) (acc : IsAccepted s) (budget : ℕ) where
  abbrev v : ℕ
  v = variable_count (board_of s)

  abbrev done : Done
  done = solved (board_of s) budget

  -- after "found", which the call in zeros says too
  outcome_next : done.ending ≡ Found → (b : ℕ) → Tells s (second (following v (clause_list (board_of s)) b done.trail).ending)
  outcome_next found b = by (following v (clause_list (board_of s)) b done.trail).ending refl
    where
      c : Search
      c = begun.zeros s acc

      first : Says (by_search c budget) Found
      first = ap (λ (h : Handed). h.outcome.first) (begun.zeros_hand s acc budget) ∙ ap ending_number found

      said : (x : Ending) → (following v (clause_list (board_of s)) b done.trail).ending ≡ x → Says (by_next (resumed c (by_search c budget)) b) x
      said x e =
          ap (λ (h : Handed). h.outcome.first) (begun.next_hands s c (begun.zeros_begun s acc) budget first b)
          ∙ ap ending_number (ap (λ t. (following v (clause_list (board_of s)) b t).ending) (begun.zeros_end s acc budget) ∙ e)

      by : (x : Ending) → (following v (clause_list (board_of s)) b done.trail).ending ≡ x → Tells s (second x)
      by None e = begun.then_none s c (begun.zeros_begun s acc) budget first b (said None e)
      by Found e = begun.then_found s c (begun.zeros_begun s acc) budget first b (said Found e)
      by Halted e = tt

  outcome_many : Tells s (solution_count_of (board_of s) budget)
  outcome_many = by done.ending refl
    where
      by : (x : Ending) → done.ending ≡ x → Tells s (after_first x (following v (clause_list (board_of s)) (budget - done.steps) done.trail).ending)
      by Found e = outcome_next e (budget - done.steps)
      by None e = (begun.solved_none s acc budget (λ h. other_ending (sym e ∙ same_ending done.ending Halted h) refl)).0 (ap ending_number e)
      by Halted e = tt

-- two things told of one grid are the same, if both are settled
abbrev is_settled : SolutionCount → Bool
is_settled NoSolution = true
is_settled OneSolution = true
is_settled SeveralSolutions = true
is_settled Unknown = false

agree : (s : List ℕ) (m x : SolutionCount) → Tells s m → Tells s x → (m ≡ Unknown → ⊥) → is_settled x ≡ true → m ≡ x
agree s NoSolution NoSolution h k u w = refl
agree s NoSolution OneSolution h k u w = absurd (h k.drawing k.is_solution)
agree s NoSolution SeveralSolutions h k u w = absurd (h k.one k.one_solution)
agree s NoSolution Unknown h k u w = clash w refl
agree s OneSolution NoSolution h k u w = absurd (k h.drawing h.is_solution)
agree s OneSolution OneSolution h k u w = refl
agree s OneSolution SeveralSolutions h k u w = absurd (k.differ (h.only k.one k.one_solution ∙ sym (h.only k.other k.other_solution)))
agree s OneSolution Unknown h k u w = clash w refl
agree s SeveralSolutions NoSolution h k u w = absurd (k h.one h.one_solution)
agree s SeveralSolutions OneSolution h k u w = absurd (h.differ (k.only h.one h.one_solution ∙ sym (k.only h.other h.other_solution)))
agree s SeveralSolutions SeveralSolutions h k u w = refl
agree s SeveralSolutions Unknown h k u w = clash w refl
agree s Unknown x h k u w = absurd (u refl)

module _ (s : List ℕ) (acc : IsAccepted s) (budget : ℕ) (settled : solution_count_of (board_of s) budget ≡ Unknown → ⊥) where
  outcome_exactly : (x : SolutionCount) → is_settled x ≡ true → solution_count_of (board_of s) budget ≡ x ↔ Tells s x
  outcome_exactly x w =
      (λ e. subst (Tells s) e (outcome_many s acc budget), λ h. agree s (solution_count_of (board_of s) budget) x (outcome_many s acc budget) h settled w)

  -- Unless halted, "none" is told exactly if the grid has no solution, "one" exactly if it has one, "several" exactly if it has two that differ.
  pub count_exactly : (solution_count_of (board_of s) budget ≡ NoSolution ↔ ((ds : List ℕ) → SolutionBytes (board_of s) ds → ⊥))
      × (solution_count_of (board_of s) budget ≡ OneSolution ↔ HasOne s)
      × (solution_count_of (board_of s) budget ≡ SeveralSolutions ↔ HasSeveral s)
  count_exactly = (outcome_exactly NoSolution refl, outcome_exactly OneSolution refl, outcome_exactly SeveralSolutions refl)
