-- `search_numbers::is_reason` meets its contract: the loop keeps `Holding`. Assumes nothing.
use lib.IntN.{pos}
use lib.ListN.{get_or}
use Rattle.search_numbers.specs.Window.{byte_passes}
use Rattle.search_numbers.proofs.Reasons.{Holding}
use Rattle.search_numbers.proofs.is_reason.Given as goal

abbrev pub invariant-loop-j : goal.invariant-loop-j
invariant-loop-j l = Holding (byte_passes l.low l.values) (get_or l.trail l.i (pos 0)) l.list l.start l.j l.has
