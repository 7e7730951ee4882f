use Rattle.std.proofs.Common.{◌+◌}
use Rattle.encoder_shapes.specs.Shapes.{both_imply}
use Rattle.encoder_shapes.proofs.Turns.{Turn}
use Rattle.encoder_shapes.proofs.each_both_imply.Given as goal

abbrev pub invariant-loop-k : goal.invariant-loop-k
invariant-loop-k l = Turn l.initial.own l.own (λ k. both_imply l.a (l.b + k) (l.c + k)) l.n l.k
