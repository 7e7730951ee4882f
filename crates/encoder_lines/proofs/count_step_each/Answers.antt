use Rattle.std.proofs.Common.{arith}
use Rattle.encoder_lines.proofs.LineLoop.{line_there, line_row, line_on}
use Rattle.encoder_lines.proofs.count_step_each.Goals as goal

pub count_step_cell-requires-clause-row_bound : goal.count_step_cell-requires-clause-row_bound
count_step_cell-requires-clause-row_bound c = let few = line_row c.loop.invariant (omega arith) in (omega arith, omega arith)

pub overflow_add-row-in-loop : goal.overflow_add-row-in-loop
overflow_add-row-in-loop c = omega (arith, line_row c.loop.invariant (omega arith))

pub black_number-z-requires : goal.black_number-z-requires
black_number-z-requires c = line_there c.loop.invariant (omega arith)

pub go-y-requires : goal.go-y-requires
go-y-requires c = record { sides = c.args.numbering.now.board.fits.sides; inside = line_there c.loop.invariant (omega arith) }

pub loop-preserved : goal.loop-preserved
loop-preserved c = line_on c.loop.invariant (omega arith) c.black_number-z.ensures c.count_step_cell.ensures c.opposite-back.ensures c.go-y.ensures
