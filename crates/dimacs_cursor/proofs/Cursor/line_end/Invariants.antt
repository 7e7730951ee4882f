-- `dimacs_cursor::Cursor::line_end` meets its contract. Assumes nothing.
use mathlib.Core.Path.{◌≡◌}
use Rattle.dimacs.specs.Tokens.{line_end_at}
use Rattle.dimacs_cursor.proofs.Cursor.line_end.Given as goal

abbrev pub invariant-loop-at : goal.invariant-loop-at
invariant-loop-at l = line_end_at l.text l.at ≡ line_end_at l.text l.initial.at
