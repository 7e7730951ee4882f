-- `search_input::first_again` meets its contract: below `low` no variable comes again before `first`. Assumes nothing.
use Prim.Native.Nat.{◌+◌, ◌-◌}
use Rattle.answers.specs.First.{Until}
use Rattle.search_input.specs.Flags.{again_at}
use Rattle.search_input.proofs.first_again.Given as goal

abbrev pub invariant-loop-low : goal.invariant-loop-low
invariant-loop-low l = Until (again_at l.trail 1 l.low) l.n l.first

abbrev pub decreases-loop-low : goal.decreases-loop-low
decreases-loop-low l = l.v + 1 - l.low
