use Rattle.std.proofs.Common.{◌+◌}
use Rattle.encoder_shapes.specs.Shapes.{not_both}
use Rattle.encoder_shapes.proofs.Turns.{Turn}
use Rattle.encoder_shapes.proofs.each_not_both.Given as goal

abbrev pub invariant-loop-k : goal.invariant-loop-k
invariant-loop-k l = Turn l.initial.own l.own (λ k. not_both l.a (l.first + k)) l.n l.k
