-- `search_numbers::first_wrong` meets its contract: the loop keeps `Noting`. Assumes nothing.
use Rattle.search.specs.Trail.{slices}
use Rattle.search_numbers.proofs.Reasons.{Noting}
use Rattle.search_numbers.proofs.first_wrong.Given as goal

abbrev pub invariant-loop-i : goal.invariant-loop-i
invariant-loop-i l = Noting l.list (slices l.trail l.marks l.numbers) l.n l.low l.initial.values l.values l.i
