-- `encoder_numbers::cells::neighbour_numbers` meets its contract. Assumes nothing.
use Rattle.encoder_numbers.proofs.Neighbours.{open_pair}
use Rattle.encoder_numbers.proofs.cells.neighbour_numbers.Goals as goal

pub numbers_to-requires : goal.numbers_to-requires
numbers_to-requires c =
    open_pair c.args.numbering.now.board.fits c.requires c.in-Some.ensures
