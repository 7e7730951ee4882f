-- `judge_cells::cells::first` meets its contract. Assumes nothing.
use Rattle.answers.proofs.First.{Seeking}
use Rattle.rules.specs.Record.{size}
use Rattle.rules.specs.Read.{puzzle_on}
use Rattle.judge_cells.specs.Tests.{test_at}
use Rattle.judge_cells.proofs.cells.first.Given as goal

abbrev pub invariant-loop-x : goal.invariant-loop-x
invariant-loop-x l = Seeking (test_at l.t (puzzle_on l.drawn.board) l.drawn.drawing.now) (size l.drawn.board.grid) l.x
