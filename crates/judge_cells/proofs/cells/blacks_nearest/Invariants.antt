-- After k cells the count is that of the black cells among the k nearest the far end.
use Rattle.rules.specs.Read.{puzzle_on}
use Rattle.rules.specs.Drawing.{black_at}
use Rattle.judge_cells.proofs.Lines.{CountedTo}
use Rattle.judge_cells.proofs.cells.blacks_nearest.Given as goal

abbrev pub invariant-loop : goal.invariant-loop
invariant-loop l = CountedTo (puzzle_on l.drawn.board) l.fn.d l.x (black_at l.drawn.drawing.now) l.y l.count l.counter
