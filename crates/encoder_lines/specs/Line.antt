-- The clauses of a clue's line by the numbers of their variables. Of a clue with number n, T(j,0) to T(j,n) are a row of n + 1 numbers.
use Rattle.std.specs.Prelude.{ℕ, zero, suc, ◌+◌, ◌*◌, ℤ, length, get_or, ◌≡◌, List, [], ◌∷◌, ◌++◌, map}
use Rattle.rules.specs.declared.Cell.TheVariants.{Open}
use Rattle.rules.specs.declared.Direction.{Direction}
use Rattle.rules.specs.declared.Grid.{Grid}
use Rattle.rules_board.specs.declared.End.{End}
use Rattle.rules.specs.Record.{Puzzle, puzzle}
use Rattle.rules.specs.Board.{open_at, line, clue_of, grid_board}
use Rattle.answers.specs.Lists.{up_to, each, joined}
use Rattle.encoder.specs.Clauses.{Clause, clue_clauses}
use Rattle.encoder_numbers.specs.Numbered.{black_of}
use Rattle.encoder_shapes.specs.Shapes.{unit, not_both, implies, implies_either, both_imply, each_unit_not, at_most_one}

-- past a cell that is not open: [−T(j,t) T(j+1,t)], for the counts t below n
abbrev pub count_step_shut : ℕ → ℕ → ℕ → List ℤ
count_step_shut row next n = each (up_to n) (λ t. implies (row + t) (next + t))

-- past an open cell: [−T(j,t) Zc T(j+1,t)] [−T(j,t) −Zc T(j+1,t+1)] for t below n, at last [−T(j,n) Zc T(j+1,n)] [−T(j,n) −Zc]
abbrev pub count_step_both : ℕ → ℕ → ℕ → List (List ℤ)
count_step_both a z b = implies_either a z b ∷ both_imply a z (b + 1) ∷ []

abbrev pub count_step_below : ℕ → ℕ → ℕ → ℕ → List ℤ
count_step_below row next z n = each (up_to n) (λ t. joined (count_step_both (row + t) z (next + t)))

abbrev pub count_step_open : ℕ → ℕ → ℕ → ℕ → List (List ℤ)
count_step_open row next z n = count_step_below row next z n ∷ implies_either (row + n) z (next + n) ∷ not_both (row + n) z ∷ []

-- past a cell: z is the number of its Z, 0 if it is not open
abbrev pub count_step_row : ℕ → ℕ → ℕ → ℕ → List ℤ
count_step_row zero row next n = count_step_shut row next (n + 1)
count_step_row (suc z) row next n = joined (count_step_open row next (suc z) n)

-- then each pair of the next row
abbrev pub count_step_parts : ℕ → ℕ → ℕ → List (List ℤ)
count_step_parts row z n = count_step_row z row (row + (n + 1)) n ∷ at_most_one (row + (n + 1)) (n + 1) ∷ []

-- the cells of a line
abbrev pub count_step_each : ℕ → ℕ → List ℕ → List ℤ
count_step_each row n [] = []
count_step_each row n (z ∷ zs) = joined (count_step_parts row z n) ++ count_step_each (row + (n + 1)) n zs

-- the numbers of the Z variables along the line that leaves x, 0 for a cell that is not open
abbrev pub blacks_of : Grid → List ℕ → Direction → ℕ → List ℕ
blacks_of g s d x = map (black_of (grid_board g s)) (line (puzzle g s) d x)

-- where that line ends, as `rules_board::line_end` answers
pub record LineEnd (p : Puzzle) (d : Direction) (x : ℕ) (end : End) : Type 0 where
  pub cell : end.cell ≡ get_or (line p d x) 0 x
  pub cells : end.cells ≡ length (line p d x)

-- [T(0,0)]; [−T(0,t)] for t = 1 to n; the line; last [T(L,n)]
abbrev pub clue_numbers : ℕ → ℕ → List ℕ → List (List ℤ)
clue_numbers first n zs = unit first ∷ each_unit_not (first + 1) n ∷ count_step_each first n zs ∷ unit (first + length zs * (n + 1) + n) ∷ []

-- the clauses of the clue in cell x, if it is one
abbrev pub clue_at : Puzzle → ℕ → List Clause
clue_at p x = each (clue_of p x (get_or p.cells x Open)) (clue_clauses (open_at p.cells))
