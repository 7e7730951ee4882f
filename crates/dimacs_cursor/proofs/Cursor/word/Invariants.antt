-- `dimacs_cursor::Cursor::word` meets its contract. Assumes nothing.
use lib.ListN.{drop}
use mathlib.Core.Path.{◌≡◌}
use Rattle.dimacs.specs.Text.{preamble}
use Rattle.dimacs.specs.Tokens.{word_at}
use Rattle.dimacs_cursor.proofs.Cursor.word.Given as goal

abbrev pub invariant-loop-byte : goal.invariant-loop-byte
invariant-loop-byte l = word_at l.text (drop l.byte-index preamble) l.here.at ≡ word_at l.text preamble l.initial.here.at
