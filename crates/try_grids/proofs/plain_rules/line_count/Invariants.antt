-- `try_grids::plain_rules::line_count` meets its contract. Assumes nothing.
use Rattle.std.proofs.Common.{◌-◌, ◌<◌, ◌≤◌}
use Rattle.try_grids.proofs.plain_rules.line_count.Given as goal

abbrev pub invariant-loop : goal.invariant-loop
invariant-loop l = (l.counter ≤ 12) × (l.count ≤ l.counter) × (l.y < 12)

abbrev pub decreases-loop : goal.decreases-loop
decreases-loop l = 12 - l.counter
