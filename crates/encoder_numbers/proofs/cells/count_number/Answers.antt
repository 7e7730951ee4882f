-- `encoder_numbers::cells::count_number` meets its contract. Assumes nothing.
use native.Mathlib.Omega.{arith}
use Rattle.encoder_numbers.proofs.Neighbours.{count_small}
use Rattle.encoder_numbers.proofs.cells.count_number.Goals as goal

pub overflow_add-result : goal.overflow_add-result
overflow_add-result c = omega (arith, count_small c.args.numbering.now.tables c.requires c.sizes_below-below.ensures)

pub overflow_add-result-2 : goal.overflow_add-result-2
overflow_add-result-2 c = omega (arith, count_small c.args.numbering.now.tables c.requires c.sizes_below-below.ensures)

pub overflow_mul-result : goal.overflow_mul-result
overflow_mul-result c = omega (arith, count_small c.args.numbering.now.tables c.requires c.sizes_below-below.ensures)

pub overflow_add-result-3 : goal.overflow_add-result-3
overflow_add-result-3 c = omega (arith, count_small c.args.numbering.now.tables c.requires c.sizes_below-below.ensures)

pub overflow_add-result-4 : goal.overflow_add-result-4
overflow_add-result-4 c = omega (arith, count_small c.args.numbering.now.tables c.requires c.sizes_below-below.ensures)

pub overflow_add-result-5 : goal.overflow_add-result-5
overflow_add-result-5 c = omega (arith, count_small c.args.numbering.now.tables c.requires c.sizes_below-below.ensures)
