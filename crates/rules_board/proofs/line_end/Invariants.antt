-- `rules_board::line_end` meets its contract. Assumes nothing.
use Rattle.rules.specs.Read.{puzzle_on}
use Rattle.rules.proofs.Boards.{far}
use Rattle.rules_board.proofs.Steps.{Outgoing}
use Rattle.rules_board.proofs.line_end.Given as goal

abbrev pub invariant-loop-next : goal.invariant-loop-next
invariant-loop-next l = Outgoing (puzzle_on l.board) l.d l.x l.cell l.cells

abbrev pub decreases-loop-next : goal.decreases-loop-next
decreases-loop-next l = far l.board.grid l.d l.cell
