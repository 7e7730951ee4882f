-- `decoder::check` meets its contract. Assumes nothing.
use native.Mathlib.Omega.{arith}
use Rattle.answers.proofs.First.{first_below}
use Rattle.decoder.proofs.check.Goals as goal

pub overflow_add-result : goal.overflow_add-result
overflow_add-result c = omega (arith, first_below _ _ c.in-Some.ensures)
