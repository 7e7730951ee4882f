-- The number that falls with each step: the sum over the entries marked 1, at index i, of 2^(V − i) − 1,
-- and over the end of the trail, u entries used, of 2^(V − u + 1) − 1. Assumes nothing.
use Prim.Native.Nat.{ℕ, suc, ◌+◌, ◌-◌, ◌≤◌, ◌<◌, ◌^◌}
use native.Mathlib.Omega.{arith}
use native.Mathlib.Nat.{two-pow-succ}
use lib.Dec.{eqb}
use lib.ListN.{length}
use lib.Pow.{pow_pos}
use mathlib.Core.Path.{◌≡◌}
use mathlib.Core.Bool.{Bool, true, false, cond}
use mathlib.Core.List.{[], ◌∷◌}
use Rattle.search.specs.Trail.{Entry, Trail}
use Rattle.search_theory.specs.Legal.{Legal}
use Rattle.search_theory.proofs.Full.{legal_length}

-- the first sum
unfoldable pub choice_sum : ℕ → Trail → ℕ
choice_sum v [] = 0
choice_sum v (e ∷ t) = cond (eqb e.mark 1) (2 ^ (v - length t) - 1) 0 + choice_sum v t

abbrev pub number : ℕ → Trail → ℕ
number v t = choice_sum v t + (2 ^ suc (v - length t) - 1)

-- it is at least 1, more than its first part
pub number_more : (v : ℕ) (t : Trail) → choice_sum v t < number v t
number_more v t = let p = pow_pos (v - length t) in let d = two-pow-succ (v - length t) in omega arith

-- an entry more
pub number_append : (v : ℕ) (e : Entry) (t : Trail) → length t < v → number v (e ∷ t) < number v t
unfolding choice_sum
number_append v e t h =
    let z : suc (v - suc (length t)) ≡ v - length t = omega arith in
    let p = pow_pos (v - length t) in
    let d = two-pow-succ (v - length t) in
    rw z (by (eqb e.mark 1) (2 ^ (v - length t)) (2 ^ suc (v - length t)) p d)
  where
    by : (b : Bool) (w w₂ : ℕ) → 0 < w → w₂ ≡ w + w → cond b (w - 1) 0 + choice_sum v t + (w - 1) < choice_sum v t + (w₂ - 1)
    by true w w₂ p d = omega arith
    by false w w₂ p d = omega arith

-- an entry marked 1 becomes the last, marked 0
pub number-undo : (v : ℕ) (e x : Entry) (t : Trail) → length t < v → e.mark ≡ 1 → x.mark ≡ 0 → number v (x ∷ t) ≤ choice_sum v (e ∷ t)
unfolding choice_sum
number-undo v e x t h m n =
    let z : suc (v - suc (length t)) ≡ v - length t = omega arith in
    rw (z, m, n) (omega arith)

pub choices_more : (v : ℕ) (e : Entry) (t : Trail) → choice_sum v t ≤ choice_sum v (e ∷ t)
unfolding choice_sum
choices_more v e t = omega arith

pub number-most : (v : ℕ) (t : Trail) → Legal v t → number v t ≤ 2 ^ suc v - 1
unfolding choice_sum
number-most v [] l = let z : v - 0 ≡ v = omega arith in rw z (omega arith)
number-most v (e ∷ t) l =
    let m = number_append v e t (legal_length v (e ∷ t) l) in
    let r = number-most v t l.1 in
    omega arith
