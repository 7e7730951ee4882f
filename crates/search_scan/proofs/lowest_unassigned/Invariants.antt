-- `search_scan::lowest_unassigned` meets its contract: the loop keeps `Seeking`. Assumes nothing.
use Prim.Native.Nat.{suc}
use lib.ListN.{length}
use Rattle.answers.proofs.First.{Seeking}
use Rattle.search.specs.Trail.{is_unassigned}
use Rattle.search_scan.specs.PackedValues.{packed_values}
use Rattle.search_scan.proofs.lowest_unassigned.Given as goal

abbrev pub invariant-loop-index : goal.invariant-loop-index
invariant-loop-index l = Seeking (λ n. is_unassigned (packed_values l.marks (suc n))) (length l.marks) l.index
