-- Document 02, E9, "Forced cells in board order", as one statement, in its order and words; what is in quotation marks is the request's.
-- A step of `search`, and of `next` after its drop, is `step`, of V, a clause list and a trail. A clause forces a literal if it has no true literal and its
-- unassigned literals are all that one: `Forces` of search_theory/specs/Choices.antt. Where a step alone is spoken of, it is asked of the list only that its
-- last clause is closed, as it is in each that is accepted.
use Rattle.std.specs.Prelude.{ℕ, suc, ℤ, ◌≡◌, Bool, false, List, [], ◌∷◌, None as none, Some as some}
use Rattle.answers.specs.Lists.{All, Some}
use Rattle.answers.specs.Outcome.{answer}
use Rattle.cnf.specs.Literals.{unclosed}
use Rattle.cnf.specs.Clauses.{split}
use Rattle.dimacs.specs.Sample.{one_cell_text}
use Rattle.search.specs.Trail.{Trail, entry, variable_value}
use Rattle.search.specs.Step.{Moved, undoes, step}
use Rattle.search.specs.Call.{Search, Handed, Call, Searching, IsTaken, hands}
use Rattle.search.specs.Cases.{ForcedCase, forced_cases, searches}
use Rattle.search_theory.specs.Choices.{ForcesOne, NoneFailed, FailedClause, ForcingClause}
use Rattle.search_theory.specs.ListedSteps.{ByListedSteps}
use Rattle.search_theory.specs.Listing.{Lists, ListsAll}
use Rattle.demands.specs.Stars.{GridStar, GridHolds, grid_case}

-- two grids: the 1×1 case of document 01, and the 1×3 grid `21 10 00`, which ended at step 10 before E9
abbrev pub order_grids : List GridStar
order_grids =
    record { grid = grid_case 0; solutions = []; says = answer 2 3 2; text = some one_cell_text } ∷
    record { grid = grid_case 5; solutions = []; says = answer 2 3 2; text = none } ∷
    []

pub record RequestE9 : Type 0 where
  -- "Editors who follow a trail on the board find the forced entries jumping about. Where several clauses force a literal, the step now takes the lowest
  -- variable; if several clauses force that variable, to the same value or to different ones, the earliest clause."
  -- (`ForcingClause` says this of the index k of a clause and of the literal l that it forces. There is exactly one, wherever some clause forces a literal;
  -- and unless a clause has failed, the step appends that literal, marked 0 and, by E10, with the number of the clause, from 1.)
  pub one_forcing : (ls : List ℤ) → unclosed ls ≡ false → (t : Trail) → Some (ForcesOne (variable_value t)) (split ls)
      → (k : ℕ) × (l : ℤ) × ForcingClause (variable_value t) ls k l
  pub no_other_forcing : (ls : List ℤ) (t : Trail) (i j : ℕ) (k l : ℤ) → ForcingClause (variable_value t) ls i k → ForcingClause (variable_value t) ls j l
      → (i ≡ j) × (k ≡ l)
  pub takes : (v : ℕ) (ls : List ℤ) → unclosed ls ≡ false → (t : Trail) → NoneFailed (variable_value t) ls
      → (k : ℕ) (l : ℤ) → ForcingClause (variable_value t) ls k l → step v ls t ≡ Moved (entry l 0 (suc k) ∷ t)
  -- "Falsified clauses keep list order."
  -- (`FailedClause` is the first in list order. Whatever other clauses force, the step undoes.)
  pub undoes_first : (v : ℕ) (ls : List ℤ) → unclosed ls ≡ false → (t : Trail) (k : ℕ) → FailedClause (variable_value t) ls k → step v ls t ≡ undoes t
  -- "The listed steps are compared with this order from here on;"
  -- (Both calls hand out what the listed steps come to, and these come to nothing else. That of a forced literal has `ForcingClause`.)
  pub stepped : (x : Call) (c : Search) → IsTaken x c → (budget : ℕ) → ByListedSteps x c budget (hands x c budget)
  pub no_others : (x : Call) (c : Search) → IsTaken x c → (budget : ℕ) (h : Handed) → ByListedSteps x c budget h → h ≡ hands x c budget
  -- "the 1×1 case still ends at step 3,"
  pub grids : All GridHolds order_grids
  -- "and E1's order of solutions is unchanged."
  -- (It is false before true at the lowest variable where two differ; and no other list has every satisfying assignment in that order.)
  pub same_order : (c : Search) → IsTaken Searching c → c.used ≡ 0 → (found : List (List Bool)) → Lists Searching c found
      → ListsAll c.variables c.list found
  pub one_order : (v : ℕ) (ls : List ℤ) (found others : List (List Bool)) → ListsAll v ls found → ListsAll v ls others → found ≡ others
  -- (Calls, computed: what a search begun empty tells, and the trail that it leaves.)
  pub samples : All (λ (c : ForcedCase). searches c ≡ c) forced_cases
