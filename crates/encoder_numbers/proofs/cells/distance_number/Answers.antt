-- `encoder_numbers::cells::distance_number` meets its contract. Assumes nothing.
use native.Mathlib.Omega.{arith}
use Rattle.encoder_numbers.proofs.Neighbours.{distance_small, number_q}
use Rattle.encoder_numbers.proofs.cells.distance_number.Goals as goal

pub overflow_add-result : goal.overflow_add-result
overflow_add-result c = omega (arith, distance_small c.args.numbering.now.tables c.requires.inside c.sizes_below-below.ensures)

pub overflow_add-result-2 : goal.overflow_add-result-2
overflow_add-result-2 c = omega (arith, distance_small c.args.numbering.now.tables c.requires.inside c.sizes_below-below.ensures)

pub overflow_mul-result : goal.overflow_mul-result
overflow_mul-result c = omega (arith, distance_small c.args.numbering.now.tables c.requires.inside c.sizes_below-below.ensures)

pub overflow_add-result-3 : goal.overflow_add-result-3
overflow_add-result-3 c = omega (arith, distance_small c.args.numbering.now.tables c.requires.inside c.sizes_below-below.ensures)

pub overflow_add-result-4 : goal.overflow_add-result-4
overflow_add-result-4 c = omega (arith, distance_small c.args.numbering.now.tables c.requires.inside c.sizes_below-below.ensures)

pub returns : goal.returns
returns c = number_q c.args.numbering.now.tables c.requires c.sizes_below-below.ensures
