use Rattle.std.proofs.Common.{◌+◌}
use Rattle.encoder_shapes.specs.Shapes.{implies}
use Rattle.encoder_shapes.proofs.Turns.{Turn}
use Rattle.encoder_lines.proofs.count_step_shut.Given as goal

abbrev pub invariant-loop-k : goal.invariant-loop-k
invariant-loop-k l = Turn l.initial.out l.out (λ k. implies (l.row + k) (l.next + k)) l.n l.k
