-- `text::put_field` meets its contract: the front of the number is still to be written. Assumes nothing.
use Rattle.std.proofs.Common.{◌≤◌, ◌≡◌, [], ◌∷◌, ◌++◌, length, drop}
use Rattle.text.specs.Decimal.{decimal}
use Rattle.text.proofs.put_field.Given as goal

abbrev pub invariant-loop-rest : goal.invariant-loop-rest
invariant-loop-rest l = (length (decimal l.rest) ≤ l.first) × (l.first ≤ 20) × (length l.field ≡ 21) × (decimal l.rest ++ drop l.first l.field ≡ decimal l.n ++ (l.end ∷ []))

abbrev pub decreases-loop-rest : goal.decreases-loop-rest
decreases-loop-rest l = l.rest
