-- `dimacs_cursor::Cursor::more_digits` meets its contract. Assumes nothing.
use lib.ListN.{drop}
use mathlib.Core.Path.{◌≡◌}
use Rattle.dimacs.specs.Tokens.{digits_from}
use Rattle.dimacs_cursor.proofs.Cursor.more_digits.Given as goal

abbrev pub invariant-loop-at : goal.invariant-loop-at
invariant-loop-at l = digits_from l.bound l.value (drop l.at l.text) l.at ≡ digits_from l.bound l.start (drop l.initial.at l.text) l.initial.at
