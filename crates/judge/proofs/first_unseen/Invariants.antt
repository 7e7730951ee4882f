-- `judge::first_unseen` meets its contract. Assumes nothing.
use Rattle.answers.proofs.First.{Seeking}
use Rattle.rules.specs.Record.{size}
use Rattle.rules.specs.Read.{rules_board}
use Rattle.judge.specs.WalkMarks.{unseen_at}
use Rattle.judge.proofs.first_unseen.Given as goal

abbrev pub invariant-loop-x : goal.invariant-loop-x
invariant-loop-x l = Seeking (unseen_at (rules_board l.drawn.board) l.drawn.drawing.now l.seen) (size l.drawn.board.grid) l.x
