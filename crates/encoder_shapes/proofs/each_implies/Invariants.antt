use Rattle.std.proofs.Common.{◌+◌}
use Rattle.encoder_shapes.specs.Shapes.{implies}
use Rattle.encoder_shapes.proofs.Turns.{Turn}
use Rattle.encoder_shapes.proofs.each_implies.Given as goal

abbrev pub invariant-loop-k : goal.invariant-loop-k
invariant-loop-k l = Turn l.initial.own l.own (λ k. implies l.a (l.first + k)) l.n l.k
