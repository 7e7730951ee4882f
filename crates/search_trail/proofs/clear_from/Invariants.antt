-- `search_trail::clear_from` meets its contract: the elements before the index are zeros, the others as they were. Assumes nothing.
use lib.ListN.{replicate}
use lib.Seq.{paste}
use mathlib.Core.Path.{◌≡◌}
use Rattle.search_trail.proofs.clear_from.Given as goal

abbrev pub invariant-loop-element : goal.invariant-loop-element
invariant-loop-element g l = l.element-items ≡ paste l.initial.element-items 0 (replicate l.element-index l.zero) l.element-index
