-- `cnf::first_beyond` meets its contract: the loop keeps `Seeking`. Assumes nothing.
use lib.ListN.{length}
use Rattle.answers.proofs.First.{Seeking}
use Rattle.cnf.specs.Literals.{beyond_at}
use Rattle.cnf.proofs.first_beyond.Given as goal

abbrev pub invariant-loop-i : goal.invariant-loop-i
invariant-loop-i l = Seeking (beyond_at l.v l.list) (length l.list) l.i
