-- `search_call::run` meets its contract: the loop keeps `Going`. Assumes nothing.
use Rattle.search.specs.Trail.{slices}
use Rattle.search_call.proofs.Budget.{Going}
use Rattle.search_call.proofs.run.Given as goal

abbrev pub invariant-loop-n : goal.invariant-loop-n
invariant-loop-n l =
    Going l.list l.budget (slices l.initial.trail l.initial.marks l.initial.numbers) l.first (slices l.trail l.marks l.numbers) l.used l.n
