use Rattle.rules.specs.Record.{size}
use Rattle.rules.specs.Read.{rules_board}
use Rattle.encoder.specs.Variables.{at_cell}
use Rattle.encoder.specs.Clauses.{list_of}
use Rattle.encoder_shapes.proofs.Turns.{Turn}
use Rattle.encoder_call.specs.Families.{family_at}
use Rattle.encoder_call.proofs.families.cells.Given as goal

abbrev pub invariant-loop-x : goal.invariant-loop-x
invariant-loop-x l =
    let b = rules_board l.numbering.board in
    Turn l.initial.out l.out (λ x. list_of b (at_cell b (family_at l.family b) x)) (size l.numbering.board.grid) l.x
