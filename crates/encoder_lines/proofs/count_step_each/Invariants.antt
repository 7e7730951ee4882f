use Rattle.rules.specs.Read.{puzzle_on, rules_board}
use Rattle.encoder_numbers.specs.Numbered.{black_of}
use Rattle.encoder_lines.proofs.LineLoop.{Lining}
use Rattle.encoder_lines.proofs.count_step_each.Given as goal

abbrev pub invariant-loop : goal.invariant-loop
invariant-loop l =
    Lining l.initial.out l.out (puzzle_on l.numbering.board) l.fn.d l.x (black_of (rules_board l.numbering.board)) l.first l.n l.y l.row l.counter
