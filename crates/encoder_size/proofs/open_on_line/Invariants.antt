-- `encoder_size::open_on_line` meets its contract. Assumes nothing.
use Rattle.rules.specs.Read.{puzzle_on, rules_board}
use Rattle.judge_cells.proofs.Lines.{CountedTo}
use Rattle.encoder_size.proofs.open_on_line.Given as goal

abbrev pub invariant-loop : goal.invariant-loop
invariant-loop l = CountedTo (puzzle_on l.board) l.fn.d l.x (rules_board l.board).is_open l.y l.count l.counter
