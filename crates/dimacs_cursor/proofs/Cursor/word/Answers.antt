-- `dimacs_cursor::Cursor::word` meets its contract. Assumes nothing.
use native.Mathlib.Omega.{arith}
use native.Mathlib.Numerals.{add-one}
use lib.Seq.{drop-cons}
use Rattle.std.proofs.lemmas.Result.{err_from_is_err_and}
use Rattle.dimacs.specs.Text.{preamble}
use Rattle.dimacs.specs.Tokens.{word_at}
use Rattle.dimacs_cursor.proofs.Cursor.word.Goals as goal

pub returns-in_err-here : goal.returns-in_err-here
unfolding word_at
returns-in_err-here c = let e = drop-cons preamble c.loop-byte.byte-index 0 (omega arith) in grind (arith, err_from_is_err_and)

pub loop-byte-preserved : goal.loop-byte-preserved
unfolding word_at
loop-byte-preserved c = let e = drop-cons preamble c.loop-byte.byte-index 0 (omega arith) in rw add-one (grind arith)

pub returns : goal.returns
unfolding word_at
returns c = grind arith
