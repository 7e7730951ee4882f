-- `judge_cells::cells::black_there` meets its contract. Assumes nothing.
use Rattle.judge_cells.proofs.Checks.{on_drawn, beside}
use Rattle.judge_cells.proofs.cells.black_there.Goals as goal

pub bounds-drawn-y : goal.bounds-drawn-y
bounds-drawn-y c = beside (on_drawn c.args.drawn.now c.requires) c.args.drawn.now.drawn c.args.d c.in-Some.ensures
