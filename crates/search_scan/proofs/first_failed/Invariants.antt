-- `search_scan::first_failed` meets its contract: both loops keep `Failing`. Assumes nothing.
use Prim.Native.Nat.{◌-◌, ◌≤◌}
use lib.ListN.{length}
use mathlib.Core.Path.{◌≡◌}
use Rattle.search_scan.specs.PackedValues.{packed_values}
use Rattle.search_scan.proofs.Scans.{Failing}
use Rattle.search_scan.proofs.first_failed.Given as goal

abbrev pub invariant-loop-i : goal.invariant-loop-i
invariant-loop-i l = (l.start ≡ l.initial.i) × (l.start ≤ l.i) × Failing (packed_values l.marks) l.list l.start l.i

abbrev pub decreases-loop-i : goal.decreases-loop-i
decreases-loop-i l = length l.list - l.i

abbrev pub invariant-clauses : goal.invariant-clauses
invariant-clauses l = Failing (packed_values l.marks) l.list l.start l.start

abbrev pub decreases-clauses : goal.decreases-clauses
decreases-clauses l = length l.list - l.start
