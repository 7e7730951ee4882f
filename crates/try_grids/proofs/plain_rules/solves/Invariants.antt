-- `try_grids::plain_rules::solves` meets its contract. Assumes nothing.
use Rattle.std.proofs.Common.{◌-◌, ◌<◌, ◌≤◌, length}
use Rattle.try_grids.proofs.plain_rules.solves.Given as goal

abbrev pub invariant-loop-x : goal.invariant-loop-x
invariant-loop-x l = (l.x ≤ length l.drawing) × (l.white ≤ l.x) × (l.start < 12)

abbrev pub decreases-loop-x : goal.decreases-loop-x
decreases-loop-x l = length l.drawing - l.x
