-- `dimacs_writer::count_lines` meets its contract: the loop keeps `LinesCounted`. Assumes nothing.
use Rattle.dimacs_writer.proofs.Lines.{LinesCounted}
use Rattle.dimacs_writer.proofs.count_lines.Given as goal

abbrev pub invariant-loop-i : goal.invariant-loop-i
invariant-loop-i l = LinesCounted l.list l.before l.n l.i
