-- `search_scan::others_fail` meets its contract: the loop keeps `Testing`. Assumes nothing.
use Prim.Native.Nat.{suc}
use lib.IntN.{pos}
use lib.ListN.{get_or}
use Rattle.search.specs.Step.{fails_but}
use Rattle.search_scan.specs.PackedValues.{packed_values}
use Rattle.search_scan.proofs.Scans.{Testing}
use Rattle.search_scan.proofs.others_fail.Given as goal

abbrev pub invariant-loop-i : goal.invariant-loop-i
invariant-loop-i l = Testing (fails_but (packed_values l.marks) (get_or l.list l.place (pos 0))) l.list (suc l.place) l.i
