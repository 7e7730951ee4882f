-- `dimacs_cursor::Cursor::line_end` meets its contract. Assumes nothing.
use native.Mathlib.Omega.{arith}
use native.Mathlib.Numerals.{add-one}
use Rattle.dimacs.proofs.Tokens.{line_end_step, line_end_none}
use Rattle.dimacs_cursor.proofs.Cursor.line_end.Goals as goal

pub returns-then-text-at-eq10 : goal.returns-then-text-at-eq10
returns-then-text-at-eq10 c = grind (arith, line_end_step)

pub loop-at-preserved : goal.loop-at-preserved
loop-at-preserved c = rw (add-one, ← c.loop-at.invariant) (grind (arith, line_end_step))

pub returns : goal.returns
returns c = grind (arith, line_end_none)
