-- The tests of a cell by name, and row 12 asked of one cell.
use Rattle.std.specs.Prelude.{ℕ, eqb, get_or, Bool, false, not, List, Option}
use Rattle.answers.specs.First.{first_where}
use Rattle.answers.specs.Lists.{how_many}
use Rattle.rules.specs.declared.Cell.{Cell}
use Rattle.rules.specs.declared.Cell.TheVariants.{Open, Clue, Shaded}
use Rattle.rules.specs.Record.{Puzzle}
use Rattle.rules.specs.Board.{Board, line, board}
use Rattle.rules.specs.Drawing.{black_at}
use Rattle.rules.specs.Judge.{bad_byte_at, touches_at, unmatched_link_at, white_at, not_two_at, wrong_byte, touching, clue_not_met, link_unmatched, not_two_links}
use Rattle.judge_cells.specs.declared.Test.{Test}
use Rattle.judge_cells.specs.declared.Test.TheVariants.{DrawingByte, Touching, ClueNotMet, LinkUnmatched, NotTwoLinks, White}

-- 12, asked of one cell: it is a clue whose line has not its number of black cells
abbrev pub unmet_cell : Puzzle → (ℕ → Bool) → ℕ → Cell → Bool
unmet_cell p black x Open = false
unmet_cell p black x (Clue d n) = not (eqb (how_many black (line p d x)) n)
unmet_cell p black x Shaded = false

abbrev pub unmet_at : Puzzle → List ℕ → ℕ → Bool
unmet_at p ds x = unmet_cell p (black_at ds) x (get_or p.cells x Open)

-- what is sought cell by cell
abbrev pub test_at : Test → Puzzle → List ℕ → ℕ → Bool
test_at DrawingByte p ds = bad_byte_at (board p) ds
test_at Touching p ds = touches_at (board p) ds
test_at ClueNotMet p ds = unmet_at p ds
test_at LinkUnmatched p ds = unmatched_link_at (board p) ds
test_at NotTwoLinks p ds = not_two_at (board p) ds
test_at White p ds = white_at (board p) ds

-- the first cell at which it is found: the causes of rows 10 to 14, and the first white cell
abbrev pub first_of : Test → Board → List ℕ → Option ℕ
first_of DrawingByte b ds = wrong_byte b ds
first_of Touching b ds = touching b ds
first_of ClueNotMet b ds = clue_not_met b ds
first_of LinkUnmatched b ds = link_unmatched b ds
first_of NotTwoLinks b ds = not_two_links b ds
first_of White b ds = first_where (white_at b ds) b.size
