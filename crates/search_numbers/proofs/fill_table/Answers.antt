-- `search_numbers::fill_table` meets its contract: the loop keeps `Filling`. Assumes nothing.
use native.Mathlib.Omega.{arith}
use Rattle.search_numbers.proofs.Places.{fill_start, fill_on, fill_end}
use Rattle.search_numbers.proofs.fill_table.Goals as goal

pub loop-start-init : goal.loop-start-init
loop-start-init c = fill_start

pub loop-start-preserved : goal.loop-start-preserved
loop-start-preserved c = fill_on c.loop-start.invariant (omega arith) c.after_clauses-place.ensures

pub returns : goal.returns
returns c = fill_end c.loop-start.invariant (omega arith)
