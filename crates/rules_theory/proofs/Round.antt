-- The walk returns: after at most as many steps as there are cells, and the cells passed till then differ. Assumes nothing.
use Prim.Native.Nat.{ℕ, zero, suc, ◌+◌, ◌-◌, ◌≤◌, ◌<◌}
use native.Mathlib.Omega.{arith}
use lib.Dec.{eqb}
use borrow.Author.Tests.{eqb-true, eqb-false}
use mathlib.Core.Path.{◌≡◌, refl, sym, ap}
use mathlib.Core.Bool.{Bool, true, false}
use mathlib.Core.Logic.{◌⊎◌, inl, inr}
use Rattle.answers.specs.First.{Least}
use Rattle.answers.proofs.First.{least}
use Rattle.rules.specs.declared.Direction.{Direction}
use Rattle.rules.specs.Walk.{State}
use Rattle.rules_theory.specs.Loop.{walk}
use Rattle.rules_theory.proofs.Finite.{Differ, pigeons}
use Rattle.rules_theory.proofs.Ring.{Ring, walk_good, seen_twice, seen_returned}

-- after m steps the walk from u is at u again, and the m cells before that differ
pub record Round (size : ℕ) (go : Direction → ℕ → ℕ) (other : ℕ → Direction → Direction) (u : State) (m : ℕ) : Type 0 where
  pub long : 1 < m
  pub fits : m ≤ size
  pub closed : walk go other u m ≡ u
  pub fresh : Differ (λ k. (walk go other u k).cell) m

module _ {size : ℕ} {go : Direction → ℕ → ℕ} {link : ℕ → Direction → Bool} {other : ℕ → Direction → Direction} (R : Ring size go link other)
    (u : State) (good : link u.cell u.way ≡ true) where
  abbrev at : ℕ → State
  at k = walk go other u k

  -- a cell seen twice, k steps apart: after k steps the walk is where it began
  comes_back : (a k b : ℕ) → b ≡ a + k → (at a).cell ≡ (at b).cell → (at k).cell ≡ u.cell
  comes_back a k b q e = ap (λ (v : State). v.cell) (seen_returned R u good a k b q (seen_twice R u good a k b q e))

  -- back after k + 1 steps
  abbrev home : ℕ → Bool
  home k = eqb (at (suc k)).cell u.cell

  -- no return within n steps: the cells so far differ
  differ : (n : ℕ) → ((k : ℕ) → k < n → home k ≡ false) → Differ (λ k. (at k).cell) (suc n)
  differ n h i j lo hi e = by (j - i) (omega arith)
    where
      by : (k : ℕ) → j ≡ i + k → ⊥
      by zero q = omega arith
      by (suc k) q = eqb-false _ _ (h k (omega arith)) (comes_back i (suc k) j q e)

  pub round : (m : ℕ) × Round size go other u m
  unfolding walk
  round = by (least home size)
    where
      by : ((m : ℕ) × Least home size m) ⊎ ((k : ℕ) → k < size → home k ≡ false) → (m : ℕ) × Round size go other u m
      by (inl w) = (suc w.0, record { long = long w.0 refl; fits = w.1.below; closed = closed; fresh = differ w.0 w.1.first })
        where
          back_home : (at (suc w.0)).cell ≡ u.cell
          back_home = eqb-true _ _ w.1.holds

          closed : at (suc w.0) ≡ u
          closed = seen_twice R u good 0 (suc w.0) (suc w.0) (omega arith) (sym back_home)

          long : (k : ℕ) → w.0 ≡ k → 1 < suc k
          long zero q = absurd (R.moved _ _ good (rw q at back_home))
          long (suc k) q = omega arith
      by (inr h) =
          let z : suc size ≤ size = pigeons size (suc size) (λ k. (at k).cell) (λ k _. R.inside _ _ (walk_good R u good k)) (differ size h) in
          absurd (omega arith)

  module _ {m : ℕ} (W : Round size go other u m) where
    -- any m cells of the walk that follow each other differ, those from 1 to m too
    pub window : (a b : ℕ) → a < b → b < a + m → (walk go other u a).cell ≡ (walk go other u b).cell → ⊥
    unfolding walk
    window a b lo hi e = W.fresh 0 (b - a) (omega arith) (omega arith) (sym (comes_back a (b - a) b (omega arith) e))

    -- the round is no longer than the number of values that tell its cells apart
    pub round_fits : (f : ℕ → ℕ) (n : ℕ) → ((k : ℕ) → f (walk go other u k).cell < n)
        → ((a b : ℕ) → f (walk go other u a).cell ≡ f (walk go other u b).cell → (walk go other u a).cell ≡ (walk go other u b).cell) → m ≤ n
    round_fits f n low tell = pigeons n m (λ k. f (at k).cell) (λ k _. low k) (λ a b lo hi e. W.fresh a b lo hi (tell a b e))
