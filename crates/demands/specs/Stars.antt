-- The starred cases of document 01's "Grids to try": what is said of each, over a list of them.
use Rattle.std.specs.Prelude.{ℕ, ℤ, get_or, ◌≡◌, List, [], ◌∷◌, ◌++◌, map, Option, None, Some}
use Rattle.answers.specs.declared.Outcome.{Outcome}
use Rattle.answers.specs.Outcome.{answer}
use Rattle.rules.specs.Record.{record_answer, IsAccepted}
use Rattle.rules.specs.Board.{board_of}
use Rattle.rules.specs.Solutions.{Solutions}
use Rattle.rules_theory.specs.Cases as records
use Rattle.dimacs.specs.Text.{text_of}
use Rattle.dimacs.specs.Sample.{one_cell_text}
use Rattle.encoder.specs.Cases as grids
use Rattle.search.specs.Cases as lists

-- a grid: its record, what the encoder tells (elements, V, clauses) and writes; its solutions; what the search begun empty tells (1 found or 2 none,
-- the steps, the used count); its DIMACS text, where document 01 prints it
pub record GridStar : Type 0 where
  pub grid : grids.Case
  pub solutions : List (List ℕ)
  pub says : Outcome
  pub text : Option (List ℕ)

-- the text of V and a list, where one is given
abbrev pub TextIs : ℕ → List ℤ → Option (List ℕ) → Type 0
TextIs v ls None = Unit
TextIs v ls (Some text) = text_of v ls ≡ text

-- V and the list, searched
abbrev pub search_of : GridStar → lists.Case
search_of g = record { v = g.grid.outcome.second; list = g.grid.list; says = g.says }

pub record GridHolds (g : GridStar) : Type 0 where
  pub accepted : IsAccepted g.grid.bytes
  pub encoded : grids.encodes g.grid ≡ g.grid
  pub solutions : Solutions (board_of g.grid.bytes) g.solutions
  pub searched : lists.from_empty (search_of g) ≡ g.says
  pub printed : TextIs g.grid.outcome.second g.grid.list g.text

-- a starred case: a grid, a record that is refused, or a list that is searched
pub data Star : Type 0 where
  grid : GridStar → Star
  refused : records.ReaderCase → Star
  list : lists.Case → Star

abbrev pub Holds : Star → Type 0
Holds (grid g) = GridHolds g
Holds (refused c) = record_answer c.bytes ≡ c.says
Holds (list c) = lists.from_empty c ≡ c.says

-- the k-th grid of the encoder's cases
abbrev pub grid_case : ℕ → grids.Case
grid_case k = get_or grids.cases k (record { bytes = []; outcome = answer 0 0 0; list = [] })

abbrev pub grid_stars : List GridStar
grid_stars =
    -- 1×1 open, record `07 00 01 00 01 01 00`: no solution. Search from empty: "none" at step 3.
    record { grid = grid_case 0; solutions = []; says = answer 2 3 2; text = Some one_cell_text } ∷
    -- 1×1 with 0x10 (V = 1) and with 0x11: none; F = 0 gives an empty clause.
    record { grid = grid_case 1; solutions = []; says = answer 2 1 0; text = None } ∷
    record { grid = grid_case 2; solutions = []; says = answer 2 1 0; text = None } ∷
    -- 1×2 open: none.
    record { grid = grid_case 3; solutions = []; says = answer 2 7 6; text = None } ∷
    -- 2×2 open: one.
    record { grid = grid_case 4; solutions = (0x06 ∷ 0x0C ∷ 0x03 ∷ 0x09 ∷ []) ∷ []; says = answer 1 33 32; text = None } ∷
    []

-- the starred cases: these grids; cells 0x0F and 0x51 refused (document 01 has 0x50), sides 0 and 25 refused, and beside them 0 and 46 of kind 2; the lists
-- `1 1 0`, V = 1: found at step 2, `1 -1 0`, V = 1: found at step 2, `0`, V = 0: none at step 1, and the empty list, V = 0: found at step 1
abbrev pub stars : List Star
stars = map grid grid_stars ++ (map refused records.reader_cases ++ map list lists.cases)
