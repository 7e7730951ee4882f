-- `encoder_numbers::cells::numbers_to` meets its contract. Assumes nothing.
use Rattle.encoder_numbers.proofs.Neighbours.{pair_back}
use Rattle.encoder_numbers.proofs.cells.numbers_to.Goals as goal

pub link_number-requires-2 : goal.link_number-requires-2
link_number-requires-2 c =
    pair_back c.args.numbering.now.board.fits c.opposite.ensures c.requires
