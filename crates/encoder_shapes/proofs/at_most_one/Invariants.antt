use Rattle.encoder_shapes.specs.Shapes.{pairs_with}
use Rattle.encoder_shapes.proofs.Turns.{Turn}
use Rattle.encoder_shapes.proofs.at_most_one.Given as goal

abbrev pub invariant-loop-k : goal.invariant-loop-k
invariant-loop-k l = Turn l.initial.out l.out (pairs_with l.first l.n) l.n l.k
