-- `encoder_numbers::cells::link_number` meets its contract. Assumes nothing.
use native.Mathlib.Omega.{arith}
use Rattle.encoder_numbers.proofs.Neighbours.{link_small, number_e}
use Rattle.encoder_numbers.proofs.cells.link_number.Goals as goal

pub overflow_add-result : goal.overflow_add-result
overflow_add-result c =
    omega (arith, link_small c.args.numbering.now.tables c.requires.here.inside c.sizes_below-below.ensures c.args.d c.links_before-before.ensures)

pub overflow_add-result-2 : goal.overflow_add-result-2
overflow_add-result-2 c =
    omega (arith, link_small c.args.numbering.now.tables c.requires.here.inside c.sizes_below-below.ensures c.args.d c.links_before-before.ensures)

pub overflow_add-result-3 : goal.overflow_add-result-3
overflow_add-result-3 c =
    omega (arith, link_small c.args.numbering.now.tables c.requires.here.inside c.sizes_below-below.ensures c.args.d c.links_before-before.ensures)

pub overflow_add-result-4 : goal.overflow_add-result-4
overflow_add-result-4 c =
    omega (arith, link_small c.args.numbering.now.tables c.requires.here.inside c.sizes_below-below.ensures c.args.d c.links_before-before.ensures)

pub returns : goal.returns
returns c = number_e c.args.numbering.now.tables c.requires.here c.sizes_below-below.ensures c.requires c.links_before-before.ensures
