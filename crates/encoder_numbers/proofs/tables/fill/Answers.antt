-- `encoder_numbers::tables::fill` meets its contract. Assumes nothing.
use native.Mathlib.Omega.{arith}
use Rattle.encoder_numbers.proofs.FilledTable.{fill_room, fill_on, fill_end}
use Rattle.encoder_numbers.proofs.tables.fill.Goals as goal

pub put_row-at-requires : goal.put_row-at-requires
put_row-at-requires c = fill_room c.loop-x.invariant (omega arith) (omega arith)

pub loop-x-preserved : goal.loop-x-preserved
loop-x-preserved c = fill_on c.loop-x.invariant c.put_row-at.ensures c.with_cell-below.ensures

pub returns-clause-table_after : goal.returns-clause-table_after
returns-clause-table_after c = fill_end c.loop-x.invariant (omega arith) (omega arith)
