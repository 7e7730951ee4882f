-- Programs 1 and 2 of "Grids to try": what each prints for the bytes on its standard input.
use Rattle.std.specs.Prelude.{ℕ, eqb, ltb, length, Bool, ◌||◌, cond, List, [], ◌∷◌, ◌++◌}
use Rattle.answers.specs.Outcome.{answer, Row, row, cause, first_refusal}
use Rattle.rules.specs.Record.{record_rows, grid_of}
use Rattle.rules.specs.Board.{Board, board_of}
use Rattle.dimacs.specs.Text.{text_of}
use Rattle.encoder.specs.Variables.{variable_count}
use Rattle.encoder.specs.Clauses.{clause_list}
use Rattle.encoder.specs.Decoding.{decoded, bytes_of}
use Rattle.search.specs.Trail.{values_of}
use Rattle.search.specs.Run.{Ending, Found, None, Halted, Done, run}
use Rattle.program_text.specs.Lines.{refused_line, none_line, halted_line, drawing_text}

-- they hold at most 8,192 list elements and 4,096 variables
abbrev pub element_limit : ℕ
element_limit = 8192

abbrev pub variable_limit : ℕ
variable_limit = 4096

-- a grid that needs more
abbrev pub needs_more : Board → Bool
needs_more b = ltb element_limit (length (clause_list b)) || ltb variable_limit (variable_count b)

-- programs 1-5, 6
abbrev pub program_rows : List ℕ → List Row
program_rows s = record_rows s ++ (row 6 (cause (needs_more (board_of s))) ∷ [])

-- the number of the refusal, 0 if there is none
abbrev pub program_number : List ℕ → ℕ
program_number s = (first_refusal (program_rows s) (answer 0 0 0)).number

-- on a refusal a program prints one line such as `refused 3`
abbrev pub printed : ℕ → List ℕ → List ℕ
printed number text = cond (eqb number 0) text (refused_line number)

-- program 1: the header, then one clause a line
abbrev pub printed_clauses : List ℕ → List ℕ
printed_clauses s = printed (program_number s) (text_of (variable_count (board_of s)) (clause_list (board_of s)))

-- searches with budget 1,000,000, begun empty on the grid's clauses
abbrev pub budget : ℕ
budget = 1000000

abbrev pub searched : Board → Done
searched b = run (variable_count b) (clause_list b) budget []

-- prints the drawing; or `none` or `halted`
abbrev pub end_text : Ending → List ℕ → List ℕ
end_text Found drawing = drawing
end_text None drawing = none_line
end_text Halted drawing = halted_line

-- the drawing that the trail's assignment gives
abbrev pub drawing_at : Board → Done → List ℕ
drawing_at b d = decoded b (bytes_of (values_of (variable_count b) d.trail))

-- what is printed of a record, given the text of that drawing
abbrev pub solution_text : List ℕ → List ℕ → List ℕ
solution_text s text = printed (program_number s) (end_text (searched (board_of s)).ending text)

-- program 2
abbrev pub printed_solution : List ℕ → List ℕ
printed_solution s = solution_text s (drawing_text (grid_of s).columns (drawing_at (board_of s) (searched (board_of s))))
