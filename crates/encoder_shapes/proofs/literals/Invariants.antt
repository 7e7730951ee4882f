use Rattle.std.proofs.Common.{◌+◌, [], ◌∷◌}
use lib.IntN.{pos}
use Rattle.encoder_shapes.proofs.Turns.{Turn}
use Rattle.encoder_shapes.proofs.literals.Given as goal

abbrev pub invariant-loop-k : goal.invariant-loop-k
invariant-loop-k l = Turn l.initial.own l.own (λ k. pos (l.first + k) ∷ []) l.n l.k
