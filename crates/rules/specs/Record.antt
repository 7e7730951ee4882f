-- "The grid record" of document 01, with kind 2, shaded cells and kind 3 of document 02's E4, E5 and E12, and rows 1 to 5 of "Turned down".
use Rattle.std.specs.Prelude.{ℕ, ◌+◌, ◌*◌, ◌/◌, ◌%◌, ◌≤◌, ◌<◌, ◌≡◌, eqb, leb, ltb, length, get_or, Bool, false, not, ◌&&◌, ◌||◌, cond, List, [], ◌∷◌, map, Option, Some, None, is_none, Result, Ok, Err}
use Rattle.answers.specs.declared.Outcome.{Outcome}
use Rattle.answers.specs.First.{first_where}
use Rattle.answers.specs.Lists.{up_to}
use Rattle.answers.specs.Outcome.{refusal, answer, Row, row, cause, first_refusal}
use Rattle.rules.specs.declared.Direction.{Direction}
use Rattle.rules.specs.declared.Direction.TheVariants.{North as north, East as east, South as south, West as west}
use Rattle.rules.specs.declared.Cell.{Cell}
use Rattle.rules.specs.declared.Cell.TheVariants.{Open, Clue, Shaded}
use Rattle.rules.specs.declared.Layout.{Layout}
use Rattle.rules.specs.declared.Layout.TheVariants.{Byte, Word}
use Rattle.rules.specs.declared.Kind.{Kind}
use Rattle.rules.specs.declared.Kind.TheVariants.{One, Two, Three}
use Rattle.rules.specs.declared.Grid.{Grid}
use Rattle.rules.specs.declared.RecordRefusal.{RecordRefusal}
use Rattle.rules.specs.declared.RecordRefusal.TheVariants.{Length, Kind as OtherKind, Side, Size, NotACell}

-- the inner form of a grid: its kind and sides, and its cells row by row from the top left
pub record Puzzle : Type 0 where
  pub grid : Grid
  pub cells : List Cell

-- the number of a kind
abbrev pub kind_number : Kind → ℕ
kind_number One = 1
kind_number Two = 2
kind_number Three = 3

abbrev pub read_kind : ℕ → Option Kind
read_kind n = cond (eqb n 1) (Some One) (cond (eqb n 2) (Some Two) (cond (eqb n 3) (Some Three) None))

-- (a kind that is not allowed stands in no accepted record)
abbrev pub kind_of : Option Kind → Kind
kind_of (Some k) = k
kind_of None = One

abbrev pub kind_not_allowed : Option Kind → Bool
kind_not_allowed k = is_none k

-- the layout and limits of a kind: kind 3 has kind 1's
abbrev pub layout_of : Kind → Layout
layout_of One = Byte
layout_of Two = Word
layout_of Three = Byte

-- what a layout sets: the largest side,
abbrev pub most_side : Layout → ℕ
most_side Byte = 24
most_side Word = 45

-- the bytes of a cell,
abbrev pub cell_bytes : Layout → ℕ
cell_bytes Byte = 1
cell_bytes Word = 2

-- the largest number of a clue,
abbrev pub most_number : Layout → ℕ
most_number Byte = 15
most_number Word = 44

-- and what a direction is multiplied by in a code: the number has the lower four bits, or the lower twelve
abbrev pub direction_unit : Layout → ℕ
direction_unit Byte = 0x10
direction_unit Word = 0x1000

-- 1 north, 2 east, 3 south, 4 west
abbrev pub direction_of : ℕ → Direction
direction_of n = cond (eqb n 1) north (cond (eqb n 2) east (cond (eqb n 3) south west))

abbrev pub is_direction : ℕ → Bool
is_direction n = leb 1 n && leb n 4

-- a clue's upper four bits are the direction, its lower ones the number
abbrev pub is_clue : Layout → ℕ → Bool
is_clue l c = is_direction (c / direction_unit l) && leb (c % direction_unit l) (most_number l)

-- the code of a shaded cell
abbrev pub shaded_code : Layout → ℕ
shaded_code Byte = 0x50
shaded_code Word = 0x5000

-- 0 is open; else it is a clue's code, or that of a shaded cell; no other is allowed
abbrev pub read_cell : Layout → ℕ → Option Cell
read_cell l c =
    cond (eqb c 0) (Some Open)
    (cond (is_clue l c) (Some (Clue (direction_of (c / direction_unit l)) (c % direction_unit l)))
    (cond (eqb c (shaded_code l)) (Some Shaded) None))

-- (a code that is not allowed stands in no accepted record)
abbrev pub cell_of : Option Cell → Cell
cell_of (Some c) = c
cell_of None = Open

abbrev pub not_allowed : Option Cell → Bool
not_allowed c = is_none c

-- a number of two bytes, little-endian
abbrev pub word : List ℕ → ℕ → ℕ
word s i = get_or s i 0 + 256 * get_or s (i + 1) 0

-- what a record says of its grid: bytes 2 and 3 the kind, byte 4 the rows, byte 5 the columns
abbrev pub grid_of : List ℕ → Grid
grid_of s = record { kind = kind_of (read_kind (word s 2)); rows = get_or s 4 0; columns = get_or s 5 0 }

-- N, the number of cells
abbrev pub size : Grid → ℕ
size g = g.rows * g.columns

-- the code of the cell numbered x: its byte, or its two bytes
abbrev pub cell_code : Layout → List ℕ → ℕ → ℕ
cell_code Byte s x = get_or s (6 + x) 0
cell_code Word s x = word s (6 + 2 * x)

abbrev pub cell_at : Layout → List ℕ → ℕ → Cell
cell_at l s x = cell_of (read_cell l (cell_code l s x))

-- 5: cell code not allowed
abbrev pub wrong_cell : Grid → List ℕ → ℕ → Bool
wrong_cell g s x = not_allowed (read_cell (layout_of g.kind) (cell_code (layout_of g.kind) s x))

abbrev pub puzzle : Grid → List ℕ → Puzzle
puzzle g s = record { grid = g; cells = map (cell_at (layout_of g.kind) s) (up_to (size g)) }

-- the cell numbered x of a record's grid
abbrev pub grid_cell : List ℕ → ℕ → Cell
grid_cell s x = get_or (puzzle (grid_of s) s).cells x Open

-- a side is 1 to the largest
abbrev pub is_side : Layout → ℕ → Bool
is_side l n = leb 1 n && leb n (most_side l)

-- the most cells that a grid has: 45 times 45
abbrev pub most_cells : ℕ
most_cells = 2025

-- what the functions over a grid ask of it, and the reader sees to: the sides of an accepted grid,
pub record Sides (g : Grid) : Type 0 where
  pub wide : 0 < g.columns
  pub narrow : g.columns ≤ most_cells
  pub few : size g ≤ most_cells

-- with a cell of it,
pub record OnBoard (g : Grid) (x : ℕ) : Type 0 where
  pub sides : Sides g
  pub inside : x < size g

-- with a record of its length,
pub record RecordSized (g : Grid) (s : List ℕ) : Type 0 where
  pub sides : Sides g
  pub long : length s ≡ 6 + cell_bytes (layout_of g.kind) * size g

-- and whose codes are allowed as well, which is what all code above the reader asks for,
pub record RecordFits (g : Grid) (s : List ℕ) : Type 0 where
  pub sides : Sides g
  pub long : length s ≡ 6 + cell_bytes (layout_of g.kind) * size g
  pub allowed : (x : ℕ) → x < size g → wrong_cell g s x ≡ false

-- and with a drawing of its size
pub record DrawingFits (g : Grid) (s ds : List ℕ) : Type 0 where
  pub record_fits : RecordFits g s
  pub drawn : length ds ≡ size g

-- 1: record under 6 bytes, or length field not the slice's
abbrev pub wrong_length : List ℕ → Bool
wrong_length s = ltb (length s) 6 || not (eqb (word s 0) (length s))

-- 2: kind not 1, 2 or 3
abbrev pub wrong_kind : List ℕ → Bool
wrong_kind s = kind_not_allowed (read_kind (word s 2))

module _ (g : Grid) where
  -- 3: a side not 1 to 24, or in kind 2 not 1 to 45
  abbrev pub wrong_side : Bool
  wrong_side = not (is_side (layout_of g.kind) g.rows) || not (is_side (layout_of g.kind) g.columns)

  -- 4: length not 6 + N, or in kind 2 not 6 + 2N
  abbrev pub wrong_size : List ℕ → Bool
  wrong_size s = not (eqb (length s) (6 + cell_bytes (layout_of g.kind) * size g))

abbrev pub record_rows : List ℕ → List Row
record_rows s =
    row 1 (cause (wrong_length s)) ∷
    row 2 (cause (wrong_kind s)) ∷
    row 3 (cause (wrong_side (grid_of s))) ∷
    row 4 (cause (wrong_size (grid_of s) s)) ∷
    row 5 (first_where (wrong_cell (grid_of s) s) (size (grid_of s))) ∷
    []

-- what the record reader tells of an accepted record: rows, columns and kind
abbrev pub grid_answer : Grid → Outcome
grid_answer g = answer g.rows g.columns (kind_number g.kind)

abbrev pub record_answer : List ℕ → Outcome
record_answer s = first_refusal (record_rows s) (grid_answer (grid_of s))

-- a grid is accepted if the record reader doesn't refuse it
abbrev pub IsAccepted : List ℕ → Type 0
IsAccepted s = (record_answer s).number ≡ 0

abbrev pub record_refusal_outcome : RecordRefusal → Outcome
record_refusal_outcome Length = refusal 1 0
record_refusal_outcome OtherKind = refusal 2 0
record_refusal_outcome Side = refusal 3 0
record_refusal_outcome Size = refusal 4 0
record_refusal_outcome (NotACell x) = refusal 5 x

abbrev pub parsed_outcome : Result Grid RecordRefusal → Outcome
parsed_outcome (Ok g) = grid_answer g
parsed_outcome (Err r) = record_refusal_outcome r
