-- `judge_cells::cells::blacks_nearest` meets its contract.
use native.Mathlib.Omega.{arith}
use Rattle.rules.specs.Drawing.{black_at}
use Rattle.judge_cells.proofs.Lines.{count_few, count_inside, count_on}
use Rattle.judge_cells.proofs.Checks.{on_drawn, bit_small}
use Rattle.judge_cells.proofs.cells.blacks_nearest.Goals as goal

pub bounds-drawn-y : goal.bounds-drawn-y
bounds-drawn-y c = omega (arith, count_inside c.loop.invariant (omega arith))

pub overflow_add-count : goal.overflow_add-count
overflow_add-count c = omega (arith, c.black_bit-count.ensures, count_few c.loop.invariant, bit_small (black_at c.args.drawn.now.drawing.now c.loop.y))

pub go-y-requires : goal.go-y-requires
go-y-requires c = on_drawn c.args.drawn.now (count_inside c.loop.invariant (omega arith))

pub loop-preserved : goal.loop-preserved
loop-preserved c = count_on c.loop.invariant (omega arith) c.black_bit-count.ensures c.opposite-back.ensures c.go-y.ensures
