-- `sheet_call::write` meets its contract. Assumes nothing.
use mathlib.Core.Path.{◌∙◌, ap}
use Rattle.answers.proofs.Results.{handed_on}
use Rattle.sheet_call.specs.Answer.{sheet_answer_outcome}
use Rattle.sheet_call.proofs.Ends.{ends-refused, ends_read}
use Rattle.sheet_call.proofs.write.Goals as goal

pub returns-in_err-board-clause-result_value : goal.returns-in_err-board-clause-result_value
returns-in_err-board-clause-result_value c =
    ap sheet_answer_outcome (handed_on _ c.from_residual.ensures.1)
    ∙ (ends-refused c.args.«record».now c.args.drawing.now c.args.sheet.now c.in_err-board.field-0.0 c.in_err-board.ensures.told).0

pub returns-in_err-board-clause-sheet_after : goal.returns-in_err-board-clause-sheet_after
returns-in_err-board-clause-sheet_after c =
    (ends-refused c.args.«record».now c.args.drawing.now c.args.sheet.now c.in_err-board.field-0.0 c.in_err-board.ensures.told).1

pub returns : goal.returns
returns c =
    let e = c.write_grid.ensures in
    let (told, left) = ends_read c.args.«record».now c.args.drawing.now c.args.sheet.now c.in_ok-board.board c.in_ok-board.ensures.told
    c.in_ok-board.ensures.same_record (e.result_value, e.sheet_after) in
    record { result_value = told; sheet_after = left }
