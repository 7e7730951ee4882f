-- `search_numbers::fill_table` meets its contract: the loop keeps `Filling`. Assumes nothing.
use Rattle.search_numbers.proofs.Places.{Filling}
use Rattle.search_numbers.proofs.fill_table.Given as goal

abbrev pub invariant-loop-start : goal.invariant-loop-start
invariant-loop-start l = Filling l.list l.stride l.initial.table l.table l.place l.start-index
