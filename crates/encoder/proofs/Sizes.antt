-- Which boards are bounded: those of grids with sides to 45 and numbers to 44; so those of accepted records. Assumes nothing.
use Prim.Native.Nat.{ℕ, suc, ◌+◌, ◌*◌, ◌≤◌}
use native.Mathlib.Omega.{arith}
use native.Mathlib.Nat.{mul-le-mul}
use lib.ListN.{length}
use mathlib.Core.List.{List, [], ◌∷◌}
use Rattle.answers.specs.Lists.{All}
use Rattle.rules.specs.declared.Cell.{Cell}
use Rattle.rules.specs.declared.Cell.TheVariants.{Open, Clue as Clued, Shaded}
use Rattle.rules.specs.Record.{Puzzle, grid_of, size, puzzle, IsAccepted}
use Rattle.rules.specs.Board.{Clue, clues_from, board, board_of}
use Rattle.rules.proofs.Boards.{Filled}
use Rattle.rules.proofs.Records.{number_of, puzzle-filled, numbers_small, accepted_rows, accepted_columns}
use Rattle.encoder.specs.Bounds.{BoundedBoard}
use Rattle.encoder.proofs.Lines.{line_short}

module _ (p : Puzzle) (rows : p.grid.rows ≤ 45) (columns : p.grid.columns ≤ 45) where
  clues_few : (x : ℕ) (cs : List Cell) → length (clues_from p x cs) ≤ length cs
  clues_few x [] = omega arith
  clues_few x (Open ∷ cs) = let h = clues_few (suc x) cs in omega arith
  clues_few x (Shaded ∷ cs) = let h = clues_few (suc x) cs in omega arith
  clues_few x (Clued d n ∷ cs) = let h = clues_few (suc x) cs in omega arith

  clues_short : (x : ℕ) (cs : List Cell) → x + length cs ≤ size p.grid → All (λ c. number_of c ≤ 44) cs
      → All (λ (c : Clue). (length c.line ≤ 44) × (c.number ≤ 44)) (clues_from p x cs)
  clues_short x [] h k = tt
  clues_short x (Open ∷ cs) h k = clues_short (suc x) cs (omega arith) k.1
  clues_short x (Shaded ∷ cs) h k = clues_short (suc x) cs (omega arith) k.1
  clues_short x (Clued d n ∷ cs) h k =
      let l = line_short p 45 rows columns d x (omega arith) in ((omega arith, k.0), clues_short (suc x) cs (omega arith) k.1)

  pub bounded_board : Filled p → All (λ c. number_of c ≤ 44) p.cells → BoundedBoard (board p)
  bounded_board filled numbers =
      let m : size p.grid ≤ 45 * 45 = mul-le-mul rows columns in
      let f = clues_few 0 p.cells in
      record { cells = omega arith; clues = omega (arith, filled); short = clues_short 0 p.cells (omega (arith, filled)) numbers }

pub accepted_bounded : (s : List ℕ) → IsAccepted s → BoundedBoard (board_of s)
accepted_bounded s acc =
    bounded_board (puzzle (grid_of s) s) (accepted_rows s acc) (accepted_columns s acc) (puzzle-filled (grid_of s) s) (numbers_small (grid_of s) s)
