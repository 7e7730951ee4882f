use Rattle.rules.specs.Read.{puzzle_on, rules_board}
use Rattle.rules.specs.Record.{size}
use Rattle.encoder.specs.Clauses.{list_of}
use Rattle.encoder_shapes.proofs.Turns.{Turn}
use Rattle.encoder_lines.specs.Line.{clue_at}
use Rattle.encoder_lines.proofs.clue_lines.Given as goal

abbrev pub invariant-loop-x : goal.invariant-loop-x
invariant-loop-x l =
    Turn l.initial.out l.out (λ x. list_of (rules_board l.numbering.board) (clue_at (puzzle_on l.numbering.board) x)) (size l.numbering.board.grid) l.x
