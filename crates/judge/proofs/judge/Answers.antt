-- `judge::judge` meets its contract. Assumes nothing.
use mathlib.Core.Path.{◌∙◌, ap}
use Rattle.answers.proofs.Results.{handed_on}
use Rattle.rules.specs.Board.{board_of}
use Rattle.rules.specs.Judge.{judge_rows, says_yes, verdict_outcome}
use Rattle.rules.proofs.Records.{passes_up, board_goes_on}
use Rattle.judge.proofs.judge.Goals as goal

pub returns-in_err-board : goal.returns-in_err-board
returns-in_err-board c =
    let s = c.args.«record».now in
    ap verdict_outcome (handed_on _ c.from_residual.ensures.1)
    ∙ passes_up s (judge_rows (board_of s) c.args.drawing.now) says_yes c.in_err-board.field-0.0 c.in_err-board.ensures.told

pub returns : goal.returns
returns c =
    let read = c.in_ok-board.ensures in
    c.judge_grid.ensures ∙ board_goes_on c.args.«record».now c.in_ok-board.board read.told read.same_record (λ b. judge_rows b c.args.drawing.now) says_yes
