-- `search_numbers::first_numbered` meets its contract: the loop keeps `Seeking`. Assumes nothing.
use Rattle.answers.proofs.First.{Seeking}
use Rattle.search_numbers.specs.Entries.{numbered_at}
use Rattle.search_numbers.proofs.first_numbered.Given as goal

abbrev pub invariant-loop-i : goal.invariant-loop-i
invariant-loop-i l = Seeking (numbered_at l.numbers) l.used l.i
