-- `cnf_batch::read_clauses` meets its contract: the loop keeps `ClausesRead`. Assumes nothing.
use Rattle.cnf_batch.proofs.OnePass.{ClausesRead}
use Rattle.cnf_batch.proofs.read_clauses.Given as goal

abbrev pub invariant-loop-i : goal.invariant-loop-i
invariant-loop-i l = ClausesRead l.words l.list l.i l.satisfied l.clause
