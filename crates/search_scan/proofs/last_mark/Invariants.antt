-- `search_scan::last_mark` meets its contract: the loop keeps `Backing`. Assumes nothing.
use Rattle.search_scan.proofs.Marks.{Backing}
use Rattle.search_scan.proofs.last_mark.Given as goal

abbrev pub invariant-loop-i : goal.invariant-loop-i
invariant-loop-i l = Backing l.marks l.used l.i
