-- `encoder_numbers::tables::with_cell` meets its contract. Assumes nothing.
use native.Mathlib.Omega.{arith}
use Rattle.encoder_numbers.proofs.Numbers.{next_few, sizes_next}
use Rattle.encoder_numbers.proofs.tables.with_cell.Goals as goal

pub overflow_add-result : goal.overflow_add-result
overflow_add-result c =
    let few = next_few c.args.board.now.fits c.requires.0 c.requires.1 c.sizes_at-more.ensures in omega arith

pub overflow_add-result-2 : goal.overflow_add-result-2
overflow_add-result-2 c =
    let few = next_few c.args.board.now.fits c.requires.0 c.requires.1 c.sizes_at-more.ensures in omega arith

pub overflow_add-result-3 : goal.overflow_add-result-3
overflow_add-result-3 c =
    let few = next_few c.args.board.now.fits c.requires.0 c.requires.1 c.sizes_at-more.ensures in omega arith

pub returns : goal.returns
returns c = sizes_next c.args.board.now.fits c.requires.0 c.requires.1 c.sizes_at-more.ensures
