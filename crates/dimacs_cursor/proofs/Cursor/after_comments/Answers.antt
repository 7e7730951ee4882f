-- `dimacs_cursor::Cursor::after_comments` meets its contract. Assumes nothing.
use native.Mathlib.Omega.{arith}
use native.Mathlib.Numerals.{add-one}
use Rattle.dimacs.proofs.Tokens.{comments_step, comments_none}
use Rattle.dimacs_cursor.proofs.Cursor.after_comments.Goals as goal

pub returns-then-text-at-ne99 : goal.returns-then-text-at-ne99
returns-then-text-at-ne99 c = grind (arith, comments_step)

pub loop-at-preserved : goal.loop-at-preserved
loop-at-preserved c = rw add-one (grind (arith, comments_step))

pub returns : goal.returns
returns c = grind (arith, comments_none)
