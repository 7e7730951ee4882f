-- `search_scan::forced_place` meets its contract: the loop keeps `Forcing`. Assumes nothing.
use Prim.Native.Nat.{◌-◌}
use lib.ListN.{length}
use Rattle.search_scan.specs.PackedValues.{packed_values}
use Rattle.search_scan.proofs.Scans.{Forcing}
use Rattle.search_scan.proofs.forced_place.Given as goal

abbrev pub invariant-loop-i : goal.invariant-loop-i
invariant-loop-i l = Forcing (packed_values l.marks) l.list l.i l.lowest l.most

abbrev pub decreases-loop-i : goal.decreases-loop-i
decreases-loop-i l = length l.list - l.i
