-- `dimacs_cursor::Cursor::more_digits` meets its contract. Assumes nothing.
use native.Mathlib.Omega.{arith}
use native.Mathlib.Numerals.{add-one}
use Rattle.dimacs.proofs.Tokens.{digits_step, digits_none}
use Rattle.dimacs_cursor.proofs.Cursor.more_digits.Goals as goal

pub returns-then-not-is_digit : goal.returns-then-not-is_digit
returns-then-not-is_digit c = grind (arith, digits_step)

pub returns-then-not-goes_on : goal.returns-then-not-goes_on
returns-then-not-goes_on c = grind (arith, digits_step)

pub loop-at-preserved : goal.loop-at-preserved
loop-at-preserved c = rw add-one (grind (arith, digits_step))

pub returns : goal.returns
returns c = grind (arith, digits_none)
