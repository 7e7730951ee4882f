-- Document 02, E1, "Go on to the following solution", as one statement, in its order and words; what is in quotation marks is the request's.
-- The call `next` gets what a search call gets; `by_next` is carried to the code by the contract of `search_next::next`.
use Rattle.std.specs.Prelude.{ℕ, ◌+◌, ◌-◌, ◌≤◌, ◌<◌, ◌^◌, length, ◌≡◌, Bool, ◌↔◌, ◌⊎◌, List, [], ◌∷◌, map}
use Rattle.answers.specs.First.{NoneIn}
use Rattle.answers.specs.ByRows.{ByRows}
use Rattle.rules.specs.Board.{board_of}
use Rattle.rules.specs.Solutions.{Solutions, OneSolution}
use Rattle.cnf.specs.Clauses.{Assignment, Satisfies}
use Rattle.encoder.specs.Decoding.{decoded, bytes_of}
use Rattle.search.specs.Trail.{Trail, Open}
use Rattle.search.specs.Step.{Moved}
use Rattle.search.specs.Run.{Found, None, Halted}
use Rattle.search.specs.Call.{Search, Handed, Searching, Following, rows_of, begins, IsTaken, by_search, by_next, Says, steps, ends_at, resumed, given}
use Rattle.search_theory.specs.Openings.{Sought, FoundOne}
use Rattle.search_theory.specs.Listing.{Lists, ListsAll}
use Rattle.search_theory.specs.ListedSteps.{MarkedOne, Undoes, ByListedSteps}
use Rattle.solver.specs.Begun.{BegunOn}

pub record RequestE1 : Type 0 where
  -- "A new call takes a full trail, drops just that assignment as a failed clause would, and searches on under the same rules; dropping is a step."
  pub stepped : (c : Search) → IsTaken Following c → (budget : ℕ) → ByListedSteps Following c budget (by_next c budget)
  pub no_others : (c : Search) → IsTaken Following c → (budget : ℕ) (h : Handed) → ByListedSteps Following c budget h → h ≡ by_next c budget
  -- "Where no mark is 1, that one is the only one open: the drop answers "none" and changes no used entry." (`ByListedSteps` has what the drop answers.)
  pub only_open : (c : Search) → IsTaken Following c → NoneIn MarkedOne (begins c) → (a : List Bool) → Assignment c.variables a
      → Open a (begins c) ↔ a ≡ given c
  -- "Otherwise those open after it are those open before without that one."
  pub drop-opens : (c : Search) → IsTaken Following c → (u : Trail) → Undoes (begins c) (Moved u) → (a : List Bool) → Assignment c.variables a
      → Open a u ↔ (Open a (begins c) × (a ≡ given c → ⊥))
  -- "For such a call demand 3 is taken, before and after, over the satisfying assignments other than the one on the trail it was given."
  pub same_others : (c : Search) → IsTaken Following c → (budget : ℕ) (a : List Bool)
      → Sought Following c (begins c) a ↔ Sought Following c (ends_at (by_next c budget)) a
  pub unless_halted : (c : Search) → IsTaken Following c → (budget : ℕ) → (Says (by_next c budget) Halted → ⊥)
      → (Says (by_next c budget) None × ((a : List Bool) → Sought Following c (begins c) a → ⊥))
      ⊎ (Says (by_next c budget) Found × FoundOne Following c (ends_at (by_next c budget)))
  pub few_steps : (c : Search) → IsTaken Following c → (budget : ℕ)
      → (steps (by_next c budget) ≤ budget) × (steps (by_next c budget) ≤ 2 ^ (c.variables + 1) - 1)
  pub halted_steps : (c : Search) → IsTaken Following c → (budget : ℕ) → Says (by_next c budget) Halted
      → (steps (by_next c budget) ≡ budget) × (steps (by_next c budget) < 2 ^ (c.variables + 1) - 1)
  -- "With budget 0 it is halted with nothing dropped and is called again; halted later, it goes on by the ordinary search. Begun empty and carried on until
  -- "none", it lists every satisfying assignment once, false before true at the lowest variable where two differ,"
  -- (`Lists` has the calls one after another, with whatever budgets; they can be carried on to the end.)
  pub lists_all : (c : Search) → IsTaken Searching c → c.used ≡ 0 → (found : List (List Bool)) → Lists Searching c found
      → ListsAll c.variables c.list found
  pub carried_on : (c : Search) → IsTaken Searching c → (found : List (List Bool)) × Lists Searching c found
  -- "and so every solution of a grid once."
  pub lists_solutions : (s : List ℕ) (c : Search) → BegunOn s c → (found : List (List Bool)) → Lists Searching c found
      → Solutions (board_of s) (map (λ a. decoded (board_of s) (bytes_of a)) found)
  -- (So a grid has exactly one solution exactly if "found" is followed by "none": in the next call, or in a listing.)
  pub one_exactly : (s : List ℕ) (c : Search) → BegunOn s c → (first : ℕ) → Says (by_search c first) Found
      → (budget : ℕ) → (Says (by_next (resumed c (by_search c first)) budget) Halted → ⊥)
      → Says (by_next (resumed c (by_search c first)) budget) None ↔ OneSolution s
  pub one_listed : (s : List ℕ) (c : Search) → BegunOn s c → (found : List (List Bool)) → Lists Searching c found → length found ≡ 1 ↔ OneSolution s
  -- "Errors: 20, trail not full or some clause untrue under it, beside it 0, after 18." (By E10 22 stands between them.)
  pub turned_down : (c : Search) (budget : ℕ)
      → ByRows (17 ∷ 16 ∷ 18 ∷ 22 ∷ 20 ∷ []) (rows_of c Following) (by_next c budget).outcome ((by_next c budget).slices ≡ c.slices)
  pub taken_exactly : (c : Search) → IsTaken Following c ↔ (IsTaken Searching c × (c.used ≡ c.variables) × Satisfies (given c) c.list)
