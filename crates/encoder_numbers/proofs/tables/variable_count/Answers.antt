-- `encoder_numbers::tables::variable_count` meets its contract. Assumes nothing.
use native.Mathlib.Omega.{arith}
use Rattle.encoder_numbers.proofs.Numbers.{total_small, total_is}
use Rattle.encoder_numbers.proofs.tables.variable_count.Goals as goal

pub overflow_add-result : goal.overflow_add-result
overflow_add-result c = omega (arith, total_small c.args.board.now.fits c.requires)

pub overflow_add-result-2 : goal.overflow_add-result-2
overflow_add-result-2 c = omega (arith, total_small c.args.board.now.fits c.requires)

pub overflow_mul-result : goal.overflow_mul-result
overflow_mul-result c = omega (arith, total_small c.args.board.now.fits c.requires)

pub overflow_add-result-3 : goal.overflow_add-result-3
overflow_add-result-3 c = omega (arith, total_small c.args.board.now.fits c.requires)

pub overflow_add-result-4 : goal.overflow_add-result-4
overflow_add-result-4 c = omega (arith, total_small c.args.board.now.fits c.requires)

pub returns : goal.returns
returns c = total_is c.args.board.now.fits c.requires
