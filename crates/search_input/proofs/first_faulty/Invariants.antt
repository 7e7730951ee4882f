-- `search_input::first_faulty` meets its contract: the loop keeps `Seeking`. Assumes nothing.
use Rattle.answers.proofs.First.{Seeking}
use Rattle.search_input.specs.Entries.{faulty_at}
use Rattle.search_input.proofs.first_faulty.Given as goal

abbrev pub invariant-loop-i : goal.invariant-loop-i
invariant-loop-i l = Seeking (faulty_at l.v l.trail l.marks) l.used l.i
