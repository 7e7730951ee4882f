-- `sheet_call::lines::put_sheet` meets its contract: the lines from one on are still to be put. Assumes nothing.
use Rattle.answers.proofs.Putting.{Putting}
use Rattle.rules.specs.Record.{puzzle}
use Rattle.sheet.specs.Sheet.{sheet_text}
use Rattle.sheet_call.proofs.LineParts.{lines_left}
use Rattle.sheet_call.proofs.lines.put_sheet.Given as goal

abbrev pub invariant-loop-i : goal.invariant-loop-i
invariant-loop-i l =
    let b = l.drawn.board in
    let ds = l.drawn.drawing.now in
    Putting l.initial.out (sheet_text (puzzle b.grid b.record.now) ds) l.out (lines_left b.grid b.record.now ds l.i)
