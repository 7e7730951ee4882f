-- `search_numbers::in_windows` meets its contract: the loop keeps `Below`. Assumes nothing.
use Prim.Native.Nat.{◌+◌, ◌-◌}
use Rattle.search.specs.Trail.{slices}
use Rattle.search_numbers.proofs.Windows.{Below}
use Rattle.search_numbers.proofs.in_windows.Given as goal

abbrev pub invariant-loop-low : goal.invariant-loop-low
invariant-loop-low l = Below l.list (slices l.trail l.marks l.numbers) l.n l.low l.first

abbrev pub decreases-loop-low : goal.decreases-loop-low
decreases-loop-low l = l.v + 1 - l.low
