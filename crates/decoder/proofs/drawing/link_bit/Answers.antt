-- `decoder::drawing::link_bit` meets its contract. Assumes nothing.
use Rattle.encoder_numbers.proofs.Neighbours.{open_pair, pair_back}
use Rattle.decoder.proofs.Values.{link_inside, link_nowhere}
use Rattle.decoder.proofs.drawing.link_bit.Goals as goal

pub returns-in_default : goal.returns-in_default
returns-in_default c = link_nowhere c.args.numbering.now.board c.args.values.now c.requires.valued c.args.x c.args.d c.in_default.ensures

pub link_number-out-requires : goal.link_number-out-requires
link_number-out-requires c = open_pair c.args.numbering.now.board.fits c.requires.open_cell c.in-Some.ensures

pub link_number-into-requires : goal.link_number-into-requires
link_number-into-requires c =
    let fits = c.args.numbering.now.board.fits in pair_back fits c.opposite.ensures (open_pair fits c.requires.open_cell c.in-Some.ensures)

pub bounds-values-out : goal.bounds-values-out
bounds-values-out c =
    let board = c.args.numbering.now.board in
    link_inside board c.args.values.now c.requires.valued (open_pair board.fits c.requires.open_cell c.in-Some.ensures) c.link_number-out.ensures

pub bounds-values-into : goal.bounds-values-into
bounds-values-into c =
    let board = c.args.numbering.now.board in
    let pair = pair_back board.fits c.opposite.ensures (open_pair board.fits c.requires.open_cell c.in-Some.ensures) in
    link_inside board c.args.values.now c.requires.valued pair c.link_number-into.ensures
