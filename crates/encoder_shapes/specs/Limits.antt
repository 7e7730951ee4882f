-- What the code that writes asks of a list and of the place where it is to be written.
use Rattle.std.specs.Prelude.{ℕ, ◌+◌, ◌<◌, ◌^◌, ℤ, length, List}
use Rattle.answers.specs.Lists.{All, joined}
use Rattle.cnf.specs.Literals.{most_variables}
use Rattle.encoder.specs.Bounds.{NotBeyond}

-- the place after the list is a number of 64 bits, and no literal is beyond the most that V can be
pub record WithinLimits (at : ℕ) (xs : List ℤ) : Type 0 where
  pub place : at + length xs < 2 ^ 64
  pub literals : All (NotBeyond most_variables) xs

-- the same of a list in parts
pub record PartsWithinLimits (at : ℕ) (ps : List (List ℤ)) : Type 0 where
  pub limits : WithinLimits at (joined ps)
