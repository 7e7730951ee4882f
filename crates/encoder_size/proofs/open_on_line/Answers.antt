-- `encoder_size::open_on_line` meets its contract. Assumes nothing.
use native.Mathlib.Omega.{arith}
use mathlib.Core.Path.{◌∙◌, ap}
use Rattle.rules.specs.Directions.{bit}
use Rattle.judge_cells.proofs.Checks.{bit_small}
use Rattle.judge_cells.proofs.Lines.{count_few, count_inside, count_on}
use Rattle.encoder_numbers.proofs.Numbers.{line_few}
use Rattle.encoder_size.proofs.open_on_line.Goals as goal

pub is_open-requires : goal.is_open-requires
is_open-requires c = count_inside c.loop.invariant (omega arith)

pub overflow_add-count : goal.overflow_add-count
overflow_add-count c =
    omega (arith, c.from-count.ensures, bit_small c.is_open.result, count_few c.loop.invariant, line_few c.args.board.now.fits c.requires.x_bound c.args.d)

pub go-y-requires : goal.go-y-requires
go-y-requires c = record { sides = c.args.board.now.fits.sides; inside = count_inside c.loop.invariant (omega arith) }

pub loop-preserved : goal.loop-preserved
loop-preserved c = count_on c.loop.invariant (omega arith) (c.from-count.ensures ∙ ap bit c.is_open.ensures) c.opposite-back.ensures c.go-y.ensures
