-- Decimal numbers, digit after digit. Assumes nothing.
use Prim.Native.Nat.{ℕ, zero, suc, ◌+◌, ◌*◌, ◌/◌, ◌%◌, ◌≤◌, ◌<◌}
use native.Mathlib.Omega.{arith}
use native.Mathlib.Decide.{dec_lt}
use borrow.Author.Tests.{lt-ltb, le-ltb, ltb-false}
use lib.Dec.{ltb}
use mathlib.Core.Path.{◌≡◌, refl, sym, ap, subst}
use mathlib.Core.Bool.{Bool, true, false}
use mathlib.Core.List.{List, [], ◌∷◌, ◌++◌}
use Rattle.text.specs.Decimal.{digit, decimal_step, decimal_in, decimal}

-- more digits allowed than needed change nothing
in_enough : (f g n : ℕ) → n < f → n < g → decimal_in f n ≡ decimal_in g n
unfolding decimal_in
in_enough zero g n h k = absurd (omega arith)
in_enough (suc f) zero n h k = absurd (omega arith)
in_enough (suc f) (suc g) n h k = by (ltb n 10) refl (in_enough f g (n / 10))
  where
    by : (t : Bool) → ltb n 10 ≡ t → (n / 10 < f → n / 10 < g → decimal_in f (n / 10) ≡ decimal_in g (n / 10))
        → decimal_step t n (λ m. decimal_in f m) ≡ decimal_step t n (λ m. decimal_in g m)
    by true e go = refl
    by false e go = let l = ltb-false n 10 e in ap (λ ds. ds ++ (digit (n % 10) ∷ [])) (go (omega arith) (omega arith))

-- a number below 10 is one digit ..
pub decimal_one : (d : ℕ) → d < 10 → decimal d ≡ digit d ∷ []
unfolding decimal_in
decimal_one d h = rw (lt-ltb d 10 h)

-- .. and every digit adds one at the end, but to a 0
pub decimal_more : (x d : ℕ) → (x ≡ 0 → ⊥) → d < 10 → decimal (x * 10 + d) ≡ decimal x ++ (digit d ∷ [])
unfolding decimal_in
decimal_more x d z h =
    let l : 10 ≤ x * 10 + d = omega arith in
    let q : (x * 10 + d) / 10 ≡ x = omega arith in
    let r : (x * 10 + d) % 10 ≡ d = omega arith in
    rw (le-ltb (x * 10 + d) 10 l, q, r) (ap (λ ds. ds ++ (digit d ∷ [])) (in_enough (x * 10 + d) (suc x) x (omega arith) (omega arith)))

-- so what holds of one digit, and with a number of that with a digit more, holds of every number
module _ (P : ℕ → List ℕ → Type 0) (one : (d : ℕ) → d < 10 → P d (digit d ∷ []))
    (more : (x d : ℕ) → (x ≡ 0 → ⊥) → d < 10 → P x (decimal x) → P (x * 10 + d) (decimal x ++ (digit d ∷ []))) where
  up_to : (f x : ℕ) → x < f → P x (decimal x)
  up_to zero x h = absurd (omega arith)
  up_to (suc f) x h = by (dec_lt x 10) (up_to f (x / 10))
    where
      by : Dec (x < 10) → (x / 10 < f → P (x / 10) (decimal (x / 10))) → P x (decimal x)
      by (yes l) go = subst (P x) (sym (decimal_one x l)) (one x l)
      by (no l) go =
          let e : x / 10 * 10 + x % 10 ≡ x = omega arith in
          subst (λ y. P y (decimal y)) e (rw (decimal_more (x / 10) (x % 10) (omega arith) (omega arith))
          (more (x / 10) (x % 10) (omega arith) (omega arith) (go (omega arith))))

  pub digit_by_digit : (x : ℕ) → P x (decimal x)
  digit_by_digit x = up_to (suc x) x (omega arith)
