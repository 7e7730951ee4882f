-- Document 02's request E3 holds. What it says stands in specs/RequestE3.antt; what is cited here is proved in rules, rules_theory and encoder_theory.
-- Assumes nothing.
use Prim.Native.Nat.{ℕ, ◌<◌}
use native.Mathlib.Omega.{arith}
use lib.ListN.{get_or, get_or-eq_default}
use mathlib.Core.Path.{◌≡◌, refl}
use mathlib.Core.Bool.{true}
use Rattle.std.specs.Prelude.{Option, None, Some}
use Rattle.answers.proofs.Bools.{clash}
use Rattle.rules.specs.declared.Direction.{Direction}
use Rattle.rules.specs.declared.Kind.{Kind}
use Rattle.rules.specs.declared.Kind.TheVariants.{One, Two, Three}
use Rattle.rules.specs.Record.{Puzzle, size}
use Rattle.rules.specs.Board.{neighbour, stops_before_clues, line}
use Rattle.rules.proofs.Lines.{line-next}
use Rattle.rules_theory.proofs.Lines.{beyond_far_end}
use Rattle.answers.proofs.Lists.{many_next, many_all}
use Rattle.encoder_theory.proofs.Theorems as theorems
use Rattle.demands.specs.RequestE3.{RequestE3}

is_three : (k : Kind) → stops_before_clues k ≡ true → k ≡ Three
is_three One e = clash e refl
is_three Two e = clash e refl
is_three Three e = refl

from_edge : (p : Puzzle) (d : Direction) (x : ℕ) → x < size p.grid → (p.grid.kind ≡ Three → ⊥) → neighbour p.grid d (get_or (line p d x) 0 x) ≡ None
from_edge p d x h k = by (neighbour p.grid d (get_or (line p d x) 0 x)) refl
  where
    by : (o : Option ℕ) → neighbour p.grid d (get_or (line p d x) 0 x) ≡ o → o ≡ None
    by None e = refl
    by (Some y) e = absurd (k (is_three p.grid.kind (beyond_far_end p d x h y e).0))

pub request_e3 : RequestE3
request_e3 =
    record {
      from_edge = from_edge;
      from_far_end = λ p d x y h e. let (k, c) = beyond_far_end p d x h y e in (is_three p.grid.kind k, c);
      cell_by_cell = λ p d x j h. line-next p d x h;
      to_clue = λ p d x. get_or-eq_default (line p d x) x (omega arith);
      side_by_side = theorems.side_by_side;
      begins = λ black line. refl;
      goes_on = λ black line x j h. many_next black line x j h;
      whole = λ black line. many_all black line refl;
    }
