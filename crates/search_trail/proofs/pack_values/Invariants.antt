-- `search_trail::pack_values` meets its contract: the loop keeps `Valuing`. Assumes nothing.
use Rattle.search_trail.proofs.Entries.{Valuing}
use Rattle.search_trail.proofs.pack_values.Given as goal

abbrev pub invariant-loop-i : goal.invariant-loop-i
invariant-loop-i l = Valuing l.trail l.initial.marks l.used l.marks l.i
