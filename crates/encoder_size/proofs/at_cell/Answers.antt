-- `encoder_size::at_cell` meets its contract. Assumes nothing.
use mathlib.Core.Path.{sym}
use Rattle.encoder_size.proofs.Cells.{shaded_counted}
use Rattle.encoder_size.proofs.at_cell.Goals as goal

pub returns-in-Shaded : goal.returns-in-Shaded
returns-in-Shaded c = shaded_counted c.args.board.now.fits c.requires.x_bound (sym c.in-Shaded.ensures) c.of_lengths.ensures
