-- Bounds under which the code works: literals of no variable beyond v, and the sizes of boards with sides to 45 and numbers to 44.
use Rattle.std.specs.Prelude.{ℕ, ◌≤◌, ℤ, nat_abs, length}
use Rattle.answers.specs.Lists.{All}
use Rattle.rules.specs.Board.{Clue, Board}

-- a literal that is not beyond v, or a closing 0
abbrev pub NotBeyond : ℕ → ℤ → Type 0
NotBeyond v l = nat_abs l ≤ v

-- 45 times 45 cells; a line has no more than 44
pub record BoundedBoard (b : Board) : Type 0 where
  pub cells : b.size ≤ 2025
  pub clues : length b.clues ≤ 2025
  pub short : All (λ (c : Clue). (length c.line ≤ 44) × (c.number ≤ 44)) b.clues
