-- The board of a grid: all that the rules (and what stands on them) know of it.
use Rattle.std.specs.Prelude.{ℕ, zero, suc, ◌+◌, ◌-◌, ◌%◌, leb, ltb, get_or, Bool, true, false, not, ◌&&◌, List, [], ◌∷◌, ◌++◌, Option, None, Some}
use Rattle.rules.specs.declared.Direction.{Direction}
use Rattle.rules.specs.declared.Direction.TheVariants.{North as north, East as east, South as south, West as west}
use Rattle.rules.specs.declared.Cell.{Cell}
use Rattle.rules.specs.declared.Cell.TheVariants.{Open, Clue as Clued, Shaded}
use Rattle.rules.specs.declared.Kind.{Kind}
use Rattle.rules.specs.declared.Kind.TheVariants.{One, Two, Three}
use Rattle.rules.specs.declared.Grid.{Grid}
use Rattle.rules.specs.Record.{Puzzle, puzzle, grid_of, size}

-- a clue on the board: its cell, its number, and its line, the far end first
pub record Clue : Type 0 where
  pub cell : ℕ
  pub number : ℕ
  pub line : List ℕ

-- the number of cells, which are open, the neighbour in a direction, and the clues in cell order
pub record Board : Type 0 where
  pub size : ℕ
  pub is_open : ℕ → Bool
  pub next : Direction → ℕ → Option ℕ
  pub clues : List Clue

abbrev pub when : Bool → ℕ → Option ℕ
when true x = Some x
when false x = None

-- is there a cell in that direction
abbrev pub inside : Grid → Direction → ℕ → Bool
inside g north x = leb g.columns x
inside g east x = ltb (x % g.columns + 1) g.columns
inside g south x = ltb (x + g.columns) (size g)
inside g west x = ltb 0 (x % g.columns)

abbrev pub target : Grid → Direction → ℕ → ℕ
target g north x = x - g.columns
target g east x = x + 1
target g south x = x + g.columns
target g west x = x - 1

-- a cell's neighbour in a direction, if any
abbrev pub neighbour : Grid → Direction → ℕ → Option ℕ
neighbour g d x = when (ltb x (size g) && inside g d x) (target g d x)

-- clues and shaded cells are not open
abbrev pub open_cell : Cell → Bool
open_cell Open = true
open_cell (Clued d n) = false
open_cell Shaded = false

-- no cell beyond the list is open
abbrev pub open_at : List Cell → ℕ → Bool
open_at [] x = false
open_at (c ∷ cs) zero = open_cell c
open_at (c ∷ cs) (suc x) = open_at cs x

abbrev pub beyond : Option ℕ → List ℕ → (ℕ → List ℕ) → List ℕ
beyond None seen go = seen
beyond (Some y) seen go = go y

-- the cells met from x on, the last met first; at most `fuel` of them
unfoldable pub outward : (ℕ → Option ℕ) → ℕ → ℕ → List ℕ → List ℕ
outward next zero x seen = seen
outward next (suc fuel) x seen = beyond (next x) seen (λ y. outward next fuel y (y ∷ seen))

-- a clue, not an open or a shaded cell
abbrev pub clue_cell : Cell → Bool
clue_cell Open = false
clue_cell (Clued d n) = true
clue_cell Shaded = false

-- the lines of kind 3 stop before the first clue cell
abbrev pub stops_before_clues : Kind → Bool
stops_before_clues One = false
stops_before_clues Two = false
stops_before_clues Three = true

-- does a line of p stop before the cell y
abbrev pub stops_before : Puzzle → ℕ → Bool
stops_before p y = stops_before_clues p.grid.kind && clue_cell (get_or p.cells y Open)

-- none where the line stops before it
abbrev pub unless_stopped : (ℕ → Bool) → Option ℕ → Option ℕ
unless_stopped stops None = None
unless_stopped stops (Some y) = when (not (stops y)) y

-- the cell after x on a line in a direction, if any: the neighbour, unless the line stops before it
abbrev pub line_next : Puzzle → Direction → ℕ → Option ℕ
line_next p d x = unless_stopped (stops_before p) (neighbour p.grid d x)

-- the line of a clue: every cell from its neighbour in that direction to where the line ends, at the board's edge or, in kind 3, before a clue cell;
-- as many steps as cells are enough (`line-ends`)
abbrev pub line : Puzzle → Direction → ℕ → List ℕ
line p d x = outward (line_next p d) (size p.grid) x []

-- the clue in cell x with that direction and number
abbrev pub clue_in : Puzzle → ℕ → Direction → ℕ → Clue
clue_in p x d n = record { cell = x; number = n; line = line p d x }

-- the clue of a cell, if it is one
abbrev pub clue_of : Puzzle → ℕ → Cell → List Clue
clue_of p x Open = []
clue_of p x (Clued d n) = clue_in p x d n ∷ []
clue_of p x Shaded = []

-- the clues among the cells from x on, in cell order
abbrev pub clues_from : Puzzle → ℕ → List Cell → List Clue
clues_from p x [] = []
clues_from p x (c ∷ cs) = clue_of p x c ++ clues_from p (suc x) cs

abbrev pub board : Puzzle → Board
board p = record { size = size p.grid; is_open = open_at p.cells; next = neighbour p.grid; clues = clues_from p 0 p.cells }

-- the board of a grid that was read, and of a record
abbrev pub grid_board : Grid → List ℕ → Board
grid_board g s = board (puzzle g s)

abbrev pub board_of : List ℕ → Board
board_of s = grid_board (grid_of s) s
