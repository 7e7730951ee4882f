-- `search_trail::unassign` meets its contract: the loop keeps `Valuing`. Assumes nothing.
use Rattle.search_trail.proofs.Entries.{Valuing}
use Prim.Native.Nat.{◌≤◌}
use Rattle.search_trail.proofs.unassign.Given as goal

abbrev pub invariant-loop-i : goal.invariant-loop-i
invariant-loop-i l = (l.to ≤ l.i) × Valuing l.trail l.initial.marks l.used l.marks l.i
