-- `encoder_size::all_clauses` meets its contract. Assumes nothing.
use Rattle.encoder_size.proofs.All.{Adding}
use Rattle.encoder_size.proofs.all_clauses.Given as goal

abbrev pub invariant-loop-x : goal.invariant-loop-x
invariant-loop-x l = Adding l.numbering.board.grid l.numbering.board.record.now l.clauses l.elements l.x
