-- What the counting pass answers, and what it adds up: of each cell the clauses of all families, counted by products.
use Rattle.std.specs.Prelude.{ℕ, ◌+◌, ◌*◌, ◌-◌, ◌<◌, ◌^◌, length, List, ◌++◌}
use Rattle.rules.specs.declared.Grid.{Grid}
use Rattle.rules.specs.Record.{puzzle}
use Rattle.rules.specs.Board.{Board, grid_board}
use Rattle.encoder.specs.Variables.{variable_count, at_cell}
use Rattle.encoder.specs.Clauses.{Clause, touching_at, links_at, start_at, distance_at, clauses, clause_list, pair_count, Sized}
use Rattle.encoder_lines.specs.Line.{clue_at}
use Rattle.encoder_size.specs.declared.Amount.{Amount}
use Rattle.encoder_size.specs.declared.Counts.{Counts}

-- the elements of the list, V, the number of clauses
abbrev pub counts_of : Board → Counts
counts_of b = record { elements = length (clause_list b); variables = variable_count b; clauses = length (clauses b) }

-- clauses of one, two and three literals, with a closing 0 each, and further literals in them
abbrev pub amount_of : ℕ → ℕ → ℕ → ℕ → Amount
amount_of ones twos threes more = record { clauses = ones + twos + threes; elements = ones * 2 + twos * 3 + threes * 4 + more }

-- an open cell, with F, its rank, the number of its open neighbours, of those to the east and south, and of that to the east
abbrev pub open_amount : ℕ → ℕ → ℕ → ℕ → ℕ → Amount
open_amount f rank around after east = amount_of 4 ((after + around + pair_count around + f + 1) * 2 + rank) (around * (f - 1)) (around * 2 + east + f)

-- a clue with number n, with the cells on its line that are open and those that are not
abbrev pub clue_amount : ℕ → ℕ → ℕ → Amount
clue_amount n opens shut = amount_of (n + 2) ((opens + shut) * pair_count (n + 1) + shut * (n + 1) + opens) (opens * (n * 2 + 1)) 0

-- what the families say of a cell: family 2 of a clue, the others of an open cell
abbrev pub cell_families : Grid → List ℕ → ℕ → List Clause
cell_families g s x =
    at_cell (grid_board g s) (touching_at (grid_board g s)) x
    ++ (clue_at (puzzle g s) x
    ++ (at_cell (grid_board g s) (links_at (grid_board g s)) x
    ++ (at_cell (grid_board g s) (start_at (grid_board g s)) x
    ++ at_cell (grid_board g s) (distance_at (grid_board g s)) x)))

-- clauses and their amount, which is small enough to be added up
pub record Amounts (b : Board) (cs : List Clause) (a : Amount) : Type 0 where
  pub sized : Sized b cs a.clauses a.elements
  pub few : a.clauses < 2 ^ 40
  pub short : a.elements < 2 ^ 40
