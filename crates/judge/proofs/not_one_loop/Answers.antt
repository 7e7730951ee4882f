-- `judge::not_one_loop` meets its contract. Assumes nothing.
use mathlib.Core.Path.{◌∙◌}
use Rattle.answers.proofs.First.{first_below}
use Rattle.rules.specs.Record.{size}
use Rattle.rules.specs.Read.{rules_board}
use Rattle.rules.specs.Judge.{white_at}
use Rattle.judge.proofs.TraceMarks.{unseen_off}
use Rattle.judge.proofs.JudgeRows.{from-white}
use Rattle.judge.proofs.not_one_loop.Goals as goal

pub trace-requires-clause-s_bound : goal.trace-requires-clause-s_bound
trace-requires-clause-s_bound c =
    first_below (white_at (rules_board c.args.drawn.now.board) c.args.drawn.now.drawing.now) (size c.args.drawn.now.board.grid) c.in-Some.ensures

pub returns : goal.returns
returns c =
    from-white (rules_board c.args.drawn.now.board) c.args.drawn.now.drawing.now
    c.in-Some.ensures (c.first_unseen.ensures ∙ unseen_off
    (rules_board c.args.drawn.now.board) c.args.drawn.now.drawing.now c.in-Some.s
    c.args.drawn.now.board.fits.sides.few c.trace.ensures)
