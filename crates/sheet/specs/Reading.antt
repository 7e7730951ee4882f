-- Document 02's E7: "Grid and drawing can be got back from the sheet, save for the record's kind." Sides, cells and drawing that a text shows.
use Rattle.std.specs.Prelude.{ℕ, zero, suc, ◌+◌, ◌-◌, ◌*◌, ◌/◌, ◌%◌, eqb, length, get_or, take, drop, Bool, false, cond, List, [], ◌∷◌, map}
use Rattle.answers.specs.Lists.{up_to}
use Rattle.text.specs.Decimal.{line_feed, space}
use Rattle.rules.specs.declared.Direction.{Direction}
use Rattle.rules.specs.declared.Direction.TheVariants.{North as north, East as east, South as south, West as west}
use Rattle.rules.specs.declared.Cell.{Cell}
use Rattle.rules.specs.declared.Cell.TheVariants.{Open, Clue, Shaded}
use Rattle.rules.specs.Record.{grid_of, puzzle}
use Rattle.rules.specs.Drawing.{link_sum}
use Rattle.sheet.specs.Sheet.{dot, hash, dash, bar, letter}

-- a byte in front of the first line
abbrev pub in_front : ℕ → List (List ℕ) → List (List ℕ)
in_front b [] = (b ∷ []) ∷ []
in_front b (line ∷ lines) = (b ∷ line) ∷ lines

-- the lines of a text, without their LF
unfoldable pub lines_of : List ℕ → List (List ℕ)
lines_of [] = []
lines_of (b ∷ bs) = cond (eqb b line_feed) ([] ∷ lines_of bs) (in_front b (lines_of bs))

-- the three characters of column c in line i of a text
abbrev pub column_text : List ℕ → ℕ → ℕ → List ℕ
column_text text i c = take 3 (drop (3 * c) (get_or (lines_of text) i []))

-- a digit, or a space in its place
abbrev pub digit_value : ℕ → ℕ
digit_value b = cond (eqb b space) 0 (b - 48)

-- the cell that three characters show: a clue by its letter, a shaded cell by its dot, and all others are open
abbrev pub cell_of_text : ℕ → ℕ → ℕ → Cell
cell_of_text a b c =
    let n = digit_value b * 10 + digit_value c in
    cond (eqb a (letter north)) (Clue north n)
    (cond (eqb a (letter east)) (Clue east n)
    (cond (eqb a (letter south)) (Clue south n)
    (cond (eqb a (letter west)) (Clue west n)
    (cond (eqb a dot) Shaded Open))))

-- the byte of a cell: 0x20 if it is not open; 0x10 with `#` in the middle; else the sum of its links
abbrev pub byte_of_text : Cell → ℕ → (Direction → Bool) → ℕ
byte_of_text Open b link = cond (eqb b hash) 0x10 (link_sum link)
byte_of_text (Clue d n) b link = 0x20
byte_of_text Shaded b link = 0x20

-- what is read
pub record Shown : Type 0 where
  pub rows : ℕ
  pub columns : ℕ
  pub cells : List Cell
  pub drawing : List ℕ

-- of the lines of a text
module _ (lines : List (List ℕ)) where
  -- character j of line i
  abbrev pub character : ℕ → ℕ → ℕ
  character i j = get_or (get_or lines i []) j 0

  -- under the middle of the cell in row r and column c is a `|`
  abbrev pub bar_under : ℕ → ℕ → Bool
  bar_under r c = eqb (character (2 * r + 1) (3 * c + 1)) bar

  -- and over it
  abbrev pub bar_over : ℕ → ℕ → Bool
  bar_over zero c = false
  bar_over (suc r) c = bar_under r c

  abbrev pub cell_shown : ℕ → ℕ → Cell
  cell_shown r c = cell_of_text (character (2 * r) (3 * c)) (character (2 * r) (3 * c + 1)) (character (2 * r) (3 * c + 2))

  abbrev pub link_shown : ℕ → ℕ → Direction → Bool
  link_shown r c north = bar_over r c
  link_shown r c east = eqb (character (2 * r) (3 * c + 2)) dash
  link_shown r c south = bar_under r c
  link_shown r c west = eqb (character (2 * r) (3 * c)) dash

  abbrev pub byte_shown : ℕ → ℕ → ℕ
  byte_shown r c = byte_of_text (cell_shown r c) (character (2 * r) (3 * c + 1)) (link_shown r c)

  -- a cell row and the line under it for each row but the last; three characters for each column
  abbrev pub rows_shown : ℕ
  rows_shown = (length lines + 1) / 2

  abbrev pub columns_shown : ℕ
  columns_shown = length (get_or lines 0 []) / 3

  -- cell by cell: the cell numbered x is in row x / columns and column x % columns
  abbrev pub by_cell : {A : Type 0} → (ℕ → ℕ → A) → List A
  by_cell f = map (λ x. f (x / columns_shown) (x % columns_shown)) (up_to (rows_shown * columns_shown))

  abbrev pub shown : Shown
  shown = record { rows = rows_shown; columns = columns_shown; cells = by_cell cell_shown; drawing = by_cell byte_shown }

-- what is read from a text
abbrev pub read_sheet : List ℕ → Shown
read_sheet text = shown (lines_of text)

-- the sides and cells of a record's grid, with a drawing
abbrev pub grid_and_drawing : List ℕ → List ℕ → Shown
grid_and_drawing s ds = record { rows = (grid_of s).rows; columns = (grid_of s).columns; cells = (puzzle (grid_of s) s).cells; drawing = ds }
