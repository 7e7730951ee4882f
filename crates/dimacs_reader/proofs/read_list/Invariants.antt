-- `dimacs_reader::read_list` meets its contract: the loop keeps `AtList`. Assumes nothing.
use Prim.Native.Nat.{◌-◌}
use lib.ListN.{length}
use Rattle.dimacs_reader.proofs.ListLoop.{AtList}
use Rattle.dimacs_reader.proofs.read_list.Given as goal

abbrev pub invariant-loop-here : goal.invariant-loop-here
invariant-loop-here l = AtList l.text l.variables l.clauses l.from l.initial.out l.out l.here.at l.elements l.closed l.begun

abbrev pub decreases-loop-here : goal.decreases-loop-here
decreases-loop-here l = length l.text - l.here.at
