-- `sheet_call::shown::shown_at` meets its contract. Assumes nothing.
use Rattle.sheet.proofs.Widths.{two_digits}
use Rattle.sheet_call.proofs.shown.shown_at.Goals as goal

pub cell_text-requires : goal.cell_text-requires
cell_text-requires c = rw c.cell.ensures (two_digits c.args.drawn.now.board.grid c.args.drawn.now.board.record.now c.args.x)
