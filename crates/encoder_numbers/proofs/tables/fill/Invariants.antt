-- `encoder_numbers::tables::fill` meets its contract. Assumes nothing.
use Rattle.encoder_numbers.proofs.FilledTable.{Filling}
use Rattle.encoder_numbers.proofs.tables.fill.Given as goal

abbrev pub invariant-loop-x : goal.invariant-loop-x
invariant-loop-x l = Filling l.board.grid l.board.record.now l.initial.table l.table l.below l.at l.x
