-- `encoder_size::at_open` meets its contract. Assumes nothing.
use Rattle.encoder_size.proofs.Cells.{open_asks, open_counted}
use Rattle.encoder_size.proofs.at_open.Goals as goal

pub open_amount-requires-clause-f_nonzero : goal.open_amount-requires-clause-f_nonzero
open_amount-requires-clause-f_nonzero c =
    (open_asks c.args.board.now.fits c.requires.x_bound.0 c.requires.x_bound.1 c.requires.f_value.0 c.requires.f_value.1 c.neighbour_count-neighbours.ensures c.open_there-east.ensures c.open_there-south.ensures).0

pub returns : goal.returns
returns c =
    open_counted c.args.board.now.fits c.requires.x_bound.0 c.requires.x_bound.1 c.requires.f_value.0 c.requires.f_value.1 c.neighbour_count-neighbours.ensures c.open_there-east.ensures
    c.open_there-south.ensures c.open_amount.ensures
