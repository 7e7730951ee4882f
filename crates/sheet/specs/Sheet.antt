-- Document 02's E7, "The proof sheet": a drawing as plain text with exact widths.
use Rattle.std.specs.Prelude.{ℕ, ◌+◌, ◌-◌, ◌*◌, ◌/◌, ◌%◌, ◌<◌, eqb, length, get_or, replicate, cond, List, [], ◌∷◌, ◌++◌}
use Rattle.answers.specs.Lists.{from, up_to, each}
use Rattle.text.specs.Decimal.{line_feed, space, decimal}
use Rattle.rules.specs.declared.Direction.{Direction}
use Rattle.rules.specs.declared.Direction.TheVariants.{North as north, East as east, South as south, West as west}
use Rattle.rules.specs.declared.Cell.{Cell}
use Rattle.rules.specs.declared.Cell.TheVariants.{Open, Clue, Shaded}
use Rattle.rules.specs.declared.Grid.{Grid}
use Rattle.rules.specs.Record.{Puzzle, puzzle, grid_of}
use Rattle.rules.specs.Drawing.{byte_link}

-- `.`, `#`, `+`, `-` and `|`
abbrev pub dot : ℕ
dot = 46

abbrev pub hash : ℕ
hash = 35

abbrev pub plus : ℕ
plus = 43

abbrev pub dash : ℕ
dash = 45

abbrev pub bar : ℕ
bar = 124

-- N, E, S or W
abbrev pub letter : Direction → ℕ
letter north = 78
letter east = 69
letter south = 83
letter west = 87

-- right-aligned in so many characters
abbrev pub right_aligned : ℕ → List ℕ → List ℕ
right_aligned width text = replicate (width - length text) space ++ text

-- `-` on each side that has a link, else a space
abbrev pub side : ℕ → Direction → ℕ
side v d = cond (byte_link v d) dash space

-- a clue as its letter and the number right-aligned in two
abbrev pub clue_text : Direction → ℕ → List ℕ
clue_text d n = letter d ∷ right_aligned 2 (decimal n)

-- a shaded cell as `...`
abbrev pub shaded_text : List ℕ
shaded_text = dot ∷ dot ∷ dot ∷ []

-- a black cell as ` # `
abbrev pub black_text : List ℕ
black_text = space ∷ hash ∷ space ∷ []

-- a white cell as `+` with its sides
abbrev pub white_text : ℕ → List ℕ
white_text v = side v west ∷ plus ∷ side v east ∷ []

-- an open cell, by its byte in the drawing
abbrev pub open_text : ℕ → List ℕ
open_text v = cond (eqb v 0x10) black_text (white_text v)

-- the three characters of a cell in a cell row, by its cell and its byte
abbrev pub cell_text : Cell → ℕ → List ℕ
cell_text Open v = open_text v
cell_text (Clue d n) v = clue_text d n
cell_text Shaded v = shaded_text

-- they are three where the number of a clue has one digit or two, as every number of a record has
abbrev pub TwoDigits : Cell → Type 0
TwoDigits Open = Unit
TwoDigits (Clue d n) = n < 100
TwoDigits Shaded = Unit

-- the three characters under a cell in a line between rows: `|` under the middle of a cell with a south link, spaces elsewhere
abbrev pub under_text : ℕ → List ℕ
under_text v = space ∷ cond (byte_link v south) bar space ∷ space ∷ []

-- the cell in row r and column c, both counted from 0
abbrev pub cell_number : Grid → ℕ → ℕ → ℕ
cell_number g r c = r * g.columns + c

-- the cells of a row
abbrev pub row_cells : Grid → ℕ → List ℕ
row_cells g r = from (r * g.columns) g.columns

-- a line and its LF
abbrev pub with_line_feed : List ℕ → List ℕ
with_line_feed line = line ++ (line_feed ∷ [])

module _ (p : Puzzle) (ds : List ℕ) where
  -- what line i, counted from 0, shows at cell x: the even lines are the cell rows, the odd ones the lines between rows
  abbrev pub shown_at : ℕ → ℕ → List ℕ
  shown_at i x = cond (eqb (i % 2) 0) (cell_text (get_or p.cells x Open) (get_or ds x 0)) (under_text (get_or ds x 0))

  -- line i: the cell row i/2, or what stands under it
  abbrev pub line_text : ℕ → List ℕ
  line_text i = each (row_cells p.grid (i / 2)) (shown_at i)

  -- 2 times rows − 1 lines, each with its LF
  unfoldable pub sheet_text : List ℕ
  sheet_text = each (up_to (2 * p.grid.rows - 1)) (λ i. with_line_feed (line_text i))

-- its bytes (`sheet_length`)
abbrev pub sheet_bytes : Grid → ℕ
sheet_bytes g = (2 * g.rows - 1) * (3 * g.columns + 1)

-- the sheet of a record and a drawing
abbrev pub sheet_of : List ℕ → List ℕ → List ℕ
sheet_of s ds = sheet_text (puzzle (grid_of s) s) ds
