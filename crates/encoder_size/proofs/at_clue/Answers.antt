-- `encoder_size::at_clue` meets its contract. Assumes nothing.
use Rattle.encoder_size.proofs.Cells.{clue_less, clue_asks, clue_counted}
use Rattle.encoder_size.proofs.at_clue.Goals as goal

pub overflow_sub-end : goal.overflow_sub-end
overflow_sub-end c = clue_less c.args.board.now.fits c.requires.0 c.requires.2 c.requires.1 c.line_end-end.ensures.cells_value c.open_on_line-opens.ensures

pub clue_amount-requires : goal.clue_amount-requires
clue_amount-requires c = clue_asks c.args.board.now.fits c.requires.0 c.requires.2 c.requires.1 c.line_end-end.ensures.cells_value c.open_on_line-opens.ensures

pub returns : goal.returns
returns c =
    clue_counted c.args.board.now.fits c.requires.0 c.requires.2 c.requires.1 c.line_end-end.ensures.cells_value c.open_on_line-opens.ensures
    c.clue_amount.ensures
