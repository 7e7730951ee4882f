-- `search_trail::clear_marks` meets its contract: the elements before the index have no values. Assumes nothing.
use lib.ListN.{take, drop}
use mathlib.Core.Path.{◌≡◌}
use mathlib.Core.List.{◌++◌}
use Rattle.search_scan.specs.PackedValues.{bare_marks}
use Rattle.search_trail.proofs.clear_marks.Given as goal

abbrev pub invariant-loop-mark : goal.invariant-loop-mark
invariant-loop-mark l = l.mark-items ≡ bare_marks (take l.mark-index l.initial.mark-items) ++ drop l.mark-index l.initial.mark-items
