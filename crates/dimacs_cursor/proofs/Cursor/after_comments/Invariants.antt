-- `dimacs_cursor::Cursor::after_comments` meets its contract. Assumes nothing.
use lib.ListN.{drop}
use mathlib.Core.Path.{◌≡◌}
use Rattle.dimacs.specs.Tokens.{comments_from, comments_at}
use Rattle.dimacs_cursor.proofs.Cursor.after_comments.Given as goal

abbrev pub invariant-loop-at : goal.invariant-loop-at
invariant-loop-at l = comments_from l.inside (drop l.at l.text) l.at ≡ comments_at l.text l.initial.at
