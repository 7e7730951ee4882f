-- Values of variables: what is no variable has none. Assumes nothing.
use Prim.Native.Nat.{ℕ, suc, ◌<◌}
use native.Mathlib.Omega.{arith}
use native.Mathlib.Decide.{dec_lt}
use borrow.Author.Tests.{eqb-true}
use lib.ListN.{length, get_or, get_or-eq_default}
use mathlib.Core.Path.{◌≡◌}
use mathlib.Core.Bool.{true}
use mathlib.Core.List.Memᴰ
use mathlib.Core.List.{List, [], ◌∷◌}
use Rattle.answers.specs.Lists.{◌∈◌}
use Rattle.rules.specs.Board.{Board}
use Rattle.encoder.specs.Variables.{Variable, variables, variable_count, same, place_step, place}
use Rattle.encoder.specs.Decoding.{value_of}
use Rattle.encoder.proofs.Known.{Known, of_variables}

pub place_in : (v : Variable) (us : List Variable) → place v us < length us → v ∈ us
unfolding place
place_in v [] h = absurd (omega arith)
place_in v (u ∷ us) h = by (same v u) h (place_in v us)
  where
    by : (d : Dec (v ≡ u)) → place_step d (place v us) < suc (length us) → (place v us < length us → v ∈ us) → v ∈ (u ∷ us)
    by (yes e) h go = Memᴰ.head e
    by (no n) h go = Memᴰ.tail (go (omega arith))

-- so E towards a cell that is not open or off the board, which the decoder reads as 0, is not drawn
pub value_known : (b : Board) (values : List ℕ) → length values ≡ variable_count b → (v : Variable) → value_of b values v ≡ true → Known b v
value_known b values e v h = of_variables b v (place_in v (variables b) (by (dec_lt (place v (variables b)) (length values))))
  where
    one : get_or values (place v (variables b)) 0 ≡ 1
    one = eqb-true _ _ h

    by : Dec (place v (variables b) < length values) → place v (variables b) < length (variables b)
    by (yes l) = omega arith
    by (no l) = let z = get_or-eq_default values 0 {n = place v (variables b)} (omega arith) in absurd (omega (arith, one))
