-- `judge_cells::cells::first` meets its contract. Assumes nothing.
use native.Mathlib.Omega.{arith}
use mathlib.Core.Path.{refl, sym, ◌∙◌}
use Rattle.answers.proofs.First.{seek_found, seek_none}
use Rattle.judge_cells.proofs.Checks.{drawing_fits, sought}
use Rattle.judge_cells.proofs.cells.first.Goals as goal

pub returns-then-holds : goal.returns-then-holds
returns-then-holds c = sought c.args.t (drawing_fits c.args.drawn.now) (seek_found c.loop-x.invariant (omega arith) (sym c.holds.ensures ∙ c.if-holds.true) refl)

pub returns : goal.returns
returns c = sought c.args.t (drawing_fits c.args.drawn.now) (seek_none c.loop-x.invariant (omega arith) refl)
