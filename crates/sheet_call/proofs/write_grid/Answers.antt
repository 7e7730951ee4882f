-- `sheet_call::write_grid` meets its contract: the judge, then the room, then the sheet. Assumes nothing.
use Rattle.std.proofs.Common.{rules}
use Rattle.sheet_call.proofs.Ends.{agreed, ends_short, ends-written}
use Rattle.sheet_call.proofs.write_grid.Goals as goal

pub sheet_length-needed-requires-clause-rows_nonzero : goal.sheet_length-needed-requires-clause-rows_nonzero
sheet_length-needed-requires-clause-rows_nonzero c = (agreed c.args.board.now.grid c.args.board.now.record.now c.args.drawing.now (search rules)).tall

pub returns-then-sheet-needed : goal.returns-then-sheet-needed
returns-then-sheet-needed c =
    let a = agreed c.args.board.now.grid c.args.board.now.record.now c.args.drawing.now (search rules) in
    let (told, left) = ends_short _ _ _ c.args.sheet.now a c.args.board.now.fits.sides c.sheet_length-needed.ensures c.if-sheet-needed.true in
    record { result_value = told; sheet_after = left }

pub returns : goal.returns
returns c =
    let a = agreed c.args.board.now.grid c.args.board.now.record.now c.args.drawing.now (search rules) in
    let (told, left) = ends-written _ _ _ c.args.sheet.now a c.args.board.now.fits.sides c.sheet_length-needed.ensures c.if-sheet-needed.false c.put_sheet.ensures in
    record { result_value = told; sheet_after = left }
