-- `dimacs_writer::put_lines` meets its contract: the lines from an element on are still to be put. Assumes nothing.
use lib.ListN.{drop}
use Rattle.answers.proofs.Putting.{Putting}
use Rattle.dimacs.specs.Text.{lines}
use Rattle.dimacs_writer.proofs.put_lines.Given as goal

abbrev pub invariant-loop-i : goal.invariant-loop-i
invariant-loop-i l = Putting l.initial.out (lines l.list) l.out (lines (drop l.i l.list))
