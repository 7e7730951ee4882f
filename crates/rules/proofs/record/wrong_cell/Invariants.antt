-- `rules::record::wrong_cell` meets its contract: a loop that seeks the first cell. Assumes nothing.
use Rattle.answers.proofs.First.{Seeking}
use Rattle.rules.specs.Record.{size, wrong_cell}
use Rattle.rules.proofs.record.wrong_cell.Given as goal

abbrev pub invariant-loop-x : goal.invariant-loop-x
invariant-loop-x l = Seeking (wrong_cell l.g l.record) (size l.g) l.x
