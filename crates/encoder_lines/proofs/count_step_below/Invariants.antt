use Rattle.std.proofs.Common.{◌+◌}
use Rattle.answers.specs.Lists.{joined}
use Rattle.encoder_shapes.proofs.Turns.{Turn}
use Rattle.encoder_lines.specs.Line.{count_step_both}
use Rattle.encoder_lines.proofs.count_step_below.Given as goal

abbrev pub invariant-loop-k : goal.invariant-loop-k
invariant-loop-k l = Turn l.initial.out l.out (λ k. joined (count_step_both (l.row + k) l.z (l.next + k))) l.n l.k
