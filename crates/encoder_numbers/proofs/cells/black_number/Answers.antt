-- `encoder_numbers::cells::black_number` meets its contract. Assumes nothing.
use native.Mathlib.Omega.{arith}
use mathlib.Core.Path.{sym, ◌∙◌}
use Rattle.encoder_numbers.proofs.Neighbours.{cell_small, black_open}
use Rattle.encoder_numbers.proofs.cells.black_number.Goals as goal

pub overflow_add-result : goal.overflow_add-result
overflow_add-result c = omega (arith, cell_small c.args.numbering.now.tables c.requires c.sizes_below.ensures)

pub returns-then-is_open : goal.returns-then-is_open
returns-then-is_open c =
    let opened = sym c.is_open.ensures ∙ c.if-is_open.true in
    black_open c.args.numbering.now.tables (record { inside = c.requires; opened = opened }) c.sizes_below.ensures
