-- `encoder_numbers::cells::cell_numbers` meets its contract. Assumes nothing.
use native.Mathlib.Omega.{arith}
use Rattle.encoder_numbers.proofs.Neighbours.{cell_small, cell_is}
use Rattle.encoder_numbers.proofs.cells.cell_numbers.Goals as goal

pub overflow_add-result : goal.overflow_add-result
overflow_add-result c = omega (arith, cell_small c.args.numbering.now.tables c.requires.inside c.sizes_below-rank.ensures)

pub overflow_add-result-2 : goal.overflow_add-result-2
overflow_add-result-2 c = omega (arith, cell_small c.args.numbering.now.tables c.requires.inside c.sizes_below-rank.ensures)

pub overflow_add-result-3 : goal.overflow_add-result-3
overflow_add-result-3 c = omega (arith, cell_small c.args.numbering.now.tables c.requires.inside c.sizes_below-rank.ensures)

pub returns : goal.returns
returns c =
    cell_is c.args.numbering.now.tables c.requires c.sizes_below-rank.ensures c.distance_number.ensures
    c.neighbour_numbers.ensures c.neighbour_numbers-2.ensures c.neighbour_numbers-3.ensures c.neighbour_numbers-4.ensures
