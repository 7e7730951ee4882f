-- `judge_cells::cells::is_open` meets its contract. Assumes nothing.
use mathlib.Core.Path.{refl, ◌∙◌}
use Rattle.judge_cells.proofs.Checks.{is_opened}
use Rattle.judge_cells.proofs.cells.is_open.Goals as goal

pub returns : goal.returns
returns c = c.is_open.ensures ∙ is_opened c.args.board.now.fits c.requires refl
