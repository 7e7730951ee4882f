-- The pigeonhole principle: n values are enough for no more than n different numbers. Assumes nothing.
use Prim.Native.Nat.{ℕ, zero, suc, ◌-◌, ◌≤◌, ◌<◌}
use native.Mathlib.Omega.{arith}
use native.Mathlib.Decide.{dec_lt}
use mathlib.Core.Path.{◌≡◌}

-- no two numbers below n have the same value
abbrev pub Differ : (ℕ → ℕ) → ℕ → Type 0
Differ f n = (i j : ℕ) → i < j → j < n → f i ≡ f j → ⊥

-- the numbers without v, moved together
abbrev without : {v x : ℕ} → Dec (v < x) → ℕ
without {x = x} (yes h) = x - 1
without {x = x} (no h) = x

without_below : {v x n : ℕ} (d : Dec (v < x)) → x < suc n → v < suc n → (x ≡ v → ⊥) → without d < n
without_below (yes h) a b c = omega arith
without_below (no h) a b c = omega arith

without_same : {v x y : ℕ} (d : Dec (v < x)) (e : Dec (v < y)) → (x ≡ v → ⊥) → (y ≡ v → ⊥) → without d ≡ without e → x ≡ y
without_same (yes h) (yes k) a b c = omega arith
without_same (yes h) (no k) a b c = omega arith
without_same (no h) (yes k) a b c = omega arith
without_same (no h) (no k) a b c = omega arith

-- take the last value away, and move the values above it down
pub pigeons : (n m : ℕ) (f : ℕ → ℕ) → ((k : ℕ) → k < m → f k < n) → Differ f m → m ≤ n
pigeons n zero f small d = omega arith
pigeons zero (suc m) f small d = let z : f 0 < 0 = small 0 (omega arith) in omega arith
pigeons (suc n) (suc m) f small d = let h : m ≤ n = pigeons n m (λ k. without (test k)) fewer differ in omega arith
  where
    test : (k : ℕ) → Dec (f m < f k)
    test k = dec_lt (f m) (f k)

    new : (k : ℕ) → k < m → f k ≡ f m → ⊥
    new k h e = d k m h (omega arith) e

    fewer : (k : ℕ) → k < m → without (test k) < n
    fewer k h = without_below (test k) (small k (omega arith)) (small m (omega arith)) (new k h)

    differ : Differ (λ k. without (test k)) m
    differ i j h k e = d i j h (omega arith) (without_same (test i) (test j) (new i (omega arith)) (new j k) e)
