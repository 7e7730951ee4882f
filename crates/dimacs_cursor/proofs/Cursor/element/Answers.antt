-- `dimacs_cursor::Cursor::element` meets its contract. Assumes nothing.
use native.Mathlib.Omega.{arith}
use native.Mathlib.Numerals.{add-one}
use Rattle.dimacs_cursor.proofs.Cursor.element.Goals as goal

pub returns : goal.returns
returns c = let e = rw add-one at c.unsigned-2.ensures in grind arith
