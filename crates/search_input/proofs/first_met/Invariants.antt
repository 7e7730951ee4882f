-- `search_input::first_met` meets its contract: the loop keeps `Meeting`. Assumes nothing.
use Rattle.search_input.proofs.Flags.{Meeting}
use Rattle.search_input.proofs.first_met.Given as goal

abbrev pub invariant-loop-i : goal.invariant-loop-i
invariant-loop-i l = Meeting l.trail l.n l.low l.initial.flags l.flags l.i
