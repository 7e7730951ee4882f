-- What the numbers of a cell's variables go by: how many open cells, E variables and T variables the cells before it have.
use Rattle.std.specs.Prelude.{ℕ, ◌+◌, ◌*◌, ◌≤◌, ◌<◌, length, get_or, take, ◌≡◌, true, cond, List, [], ◌∷◌, Option, None, Some}
use Rattle.rules.specs.declared.Direction.{Direction}
use Rattle.rules.specs.declared.Cell.TheVariants.{Open}
use Rattle.rules.specs.declared.Grid.{Grid}
use Rattle.rules.specs.Record.{Puzzle, size, puzzle, most_cells, RecordFits}
use Rattle.rules.specs.Directions.{bit}
use Rattle.rules.specs.Board.{Board, clue_of, clues_from, grid_board}
use Rattle.answers.specs.Lists.{up_to, each}
use Rattle.encoder.specs.Variables.{open_count, outgoing, link_variables, clue_counts, rank, links_below, at_cell}
use Rattle.encoder_numbers.specs.declared.Sizes.{Sizes}

-- the number of T variables of cell x, and of the first x cells
abbrev pub cell_counts : Puzzle → ℕ → ℕ
cell_counts p x = length (each (clue_of p x (get_or p.cells x Open)) clue_counts)

abbrev pub counts_below : Puzzle → ℕ → ℕ
counts_below p x = length (each (clues_from p 0 (take x p.cells)) clue_counts)

-- the sizes of cell x
abbrev pub sizes_at : Grid → List ℕ → ℕ → Sizes
sizes_at g s x =
    let b = grid_board g s in record { opens = bit (b.is_open x); links = length (at_cell b (outgoing b) x); counts = cell_counts (puzzle g s) x }

-- the sizes of the cells before x: the number of open cells is the rank of x, if it is open
abbrev pub sizes_below : Grid → List ℕ → ℕ → Sizes
sizes_below g s x = record { opens = rank (grid_board g s) x; links = links_below (grid_board g s) x; counts = counts_below (puzzle g s) x }

-- of all cells: F, A and the number of T variables
abbrev pub sizes_of : Grid → List ℕ → Sizes
sizes_of g s = sizes_below g s (size g)

-- the table: three numbers for each cell
abbrev pub row_of : Sizes → List ℕ
row_of z = z.opens ∷ z.links ∷ z.counts ∷ []

abbrev pub table_of : Grid → List ℕ → List ℕ
table_of g s = each (up_to (size g)) (λ x. row_of (sizes_below g s x))

-- as long as the largest grid's (`TABLE`)
abbrev pub table_length : ℕ
table_length = 3 * most_cells

-- a grid's record, its sizes and its table
pub record Tables (g : Grid) (s : List ℕ) (sizes : Sizes) (table : List ℕ) : Type 0 where
  pub record_fits : RecordFits g s
  pub sized : sizes ≡ sizes_of g s
  pub long : 3 * size g ≤ length table
  pub rows : (x k : ℕ) → x < size g → k < 3 → get_or table (3 * x + k) 0 ≡ get_or (row_of (sizes_below g s x)) k 0

-- an open cell of a grid
pub record OpenCell (g : Grid) (s : List ℕ) (x : ℕ) : Type 0 where
  pub inside : x < size g
  pub opened : (grid_board g s).is_open x ≡ true

-- two open cells: y is the neighbour of x in direction d
pub record OpenPair (g : Grid) (s : List ℕ) (x : ℕ) (d : Direction) (y : ℕ) : Type 0 where
  pub here : OpenCell g s x
  pub leads : (grid_board g s).next d x ≡ Some y
  pub there : OpenCell g s y

-- the neighbour in a direction, if it is open
abbrev pub if_open_cell : Board → Option ℕ → Option ℕ
if_open_cell b None = None
if_open_cell b (Some y) = cond (b.is_open y) (Some y) None

abbrev pub open_neighbour : Board → Direction → ℕ → Option ℕ
open_neighbour b d x = if_open_cell b (b.next d x)

-- the number of the first T variable of the clues from cell x on
abbrev pub first_count : Grid → List ℕ → ℕ → ℕ
first_count g s x =
    open_count (grid_board g s) + open_count (grid_board g s) + length (link_variables (grid_board g s)) + open_count (grid_board g s) * open_count (grid_board g s)
    + counts_below (puzzle g s) x + 1
