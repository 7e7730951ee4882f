-- `sheet_call::lines::put_line` meets its contract: the cells from one on are still to be put, and the LF. Assumes nothing.
use Rattle.std.proofs.Common.{◌+◌}
use Rattle.answers.proofs.Putting.{Putting}
use Rattle.sheet_call.proofs.LineParts.{cells_left, line_of}
use Rattle.sheet_call.proofs.lines.put_line.Given as goal

abbrev pub invariant-loop-x : goal.invariant-loop-x
invariant-loop-x l =
    let b = l.drawn.board in
    let ds = l.drawn.drawing.now in
    Putting l.initial.out (line_of b.grid b.record.now ds l.i) l.out (cells_left b.grid b.record.now ds l.i (l.first + l.columns) l.x)
