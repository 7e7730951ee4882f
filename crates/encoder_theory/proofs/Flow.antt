-- A flow along the links of a ring: each link has one direction, each cell one way out and one way in. It is settled by its direction at one cell,
-- and so is the number of steps that a cell lies before the start. Assumes nothing.
use Prim.Native.Nat.{ℕ, zero, suc, ◌+◌, ◌<◌}
use native.Mathlib.Omega.{arith}
use native.Mathlib.Decide.{ℕ_discrete}
use mathlib.Core.Path.{◌≡◌, sym, ◌∙◌, ap}
use mathlib.Core.Bool.{Bool, true}
use mathlib.Core.Logic.{◌⊎◌, inl, inr}
use Rattle.rules.specs.declared.Direction.{Direction}
use Rattle.rules.specs.Directions.{opposite}
use Rattle.rules.specs.Walk.{State}
use Rattle.rules_theory.specs.Loop.{walk}
use Rattle.rules_theory.proofs.Directions.{opposite-opposite}
use Rattle.rules_theory.proofs.Ring.{Ring, walk_good}
use Rattle.rules_theory.proofs.Round.{Round}

pub record Flow (go : Direction → ℕ → ℕ) (link : ℕ → Direction → Bool) (goes : ℕ → Direction → Bool) : Type 0 where
  pub either : (x : ℕ) (d : Direction) → link x d ≡ true → (goes x d ≡ true) ⊎ (goes (go d x) (opposite d) ≡ true)
  pub out_one : (x : ℕ) (d e : Direction) → goes x d ≡ true → goes x e ≡ true → d ≡ e
  pub in_one : (x : ℕ) (d e : Direction) → link x d ≡ true → link x e ≡ true → goes (go d x) (opposite d) ≡ true → goes (go e x) (opposite e) ≡ true → d ≡ e

-- Q x k: the start s is k steps ahead of x
pub record Distance (go : Direction → ℕ → ℕ) (goes : ℕ → Direction → Bool) (s : ℕ) (Q : ℕ → ℕ → Type 0) : Type 0 where
  pub ends : (x : ℕ) → Q x 0 → x ≡ s
  pub none_black : (k : ℕ) → Q s (suc k) → ⊥
  pub falls : (x : ℕ) (d : Direction) (k : ℕ) → goes x d ≡ true → Q x (suc k) → Q (go d x) k

module _ {size : ℕ} {go : Direction → ℕ → ℕ} {link : ℕ → Direction → Bool} {other : ℕ → Direction → Direction} (R : Ring size go link other)
    (u : State) (good : link u.cell u.way ≡ true) where
  abbrev at : ℕ → State
  at k = walk go other u k

  module _ {goes : ℕ → Direction → Bool} (G : Flow go link goes) (unless_refused : goes u.cell u.way ≡ true) where
    -- the flow goes with the walk
    pub flow_walks : (k : ℕ) → goes (walk go other u k).cell (walk go other u k).way ≡ true
    unfolding walk
    flow_walks zero = unless_refused
    flow_walks (suc k) = by (flow_walks k) (G.either _ _ (walk_good R u good (suc k)))
      where
        j : ℕ
        j = (at (suc k)).cell

        came : link j (opposite (at k).way) ≡ true
        came = R.met _ _ (walk_good R u good k)

        -- the flow comes into the next cell by the link back
        comes : goes (at k).cell (at k).way ≡ true → goes (go (opposite (at k).way) j) (opposite (opposite (at k).way)) ≡ true
        comes h = rw (R.back _ _ (walk_good R u good k), opposite-opposite (at k).way) h

        by : goes (at k).cell (at k).way ≡ true → (goes j (at (suc k)).way ≡ true) ⊎ (goes (go (at (suc k)).way j) (opposite (at (suc k)).way) ≡ true)
            → goes j (at (suc k)).way ≡ true
        by h (inl g) = g
        by h (inr g) = absurd (R.apart j (opposite (at k).way) came (G.in_one j _ _ (walk_good R u good (suc k)) came g (comes h)))

    pub flow_only : (k : ℕ) (d : Direction) → goes (walk go other u k).cell d ≡ true → d ≡ (walk go other u k).way
    flow_only k d h = G.out_one _ _ _ h (flow_walks k)

    module _ {m : ℕ} (W : Round size go other u m) {Q : ℕ → ℕ → Type 0} (D : Distance go goes u.cell Q) where
      -- on the round the distance is settled: with indices 1 to m, the start being m, it is m less the index
      pub distance_is : (k a : ℕ) → a < m → Q (walk go other u (suc a)).cell k → k + suc a ≡ m
      unfolding walk
      distance_is zero a h q = by (ℕ_discrete (suc a) m)
        where
          by : Dec (suc a ≡ m) → 0 + suc a ≡ m
          by (yes e) = omega arith
          by (no e) = absurd (W.fresh 0 (suc a) (omega arith) (omega arith) (sym (D.ends _ q)))
      distance_is (suc k) a h q = by (distance_is k (suc a)) (ℕ_discrete (suc a) m)
        where
          by : (suc a < m → Q (at (suc (suc a))).cell k → k + suc (suc a) ≡ m) → Dec (suc a ≡ m) → suc k + suc a ≡ m
          by go_on (yes e) = absurd (D.none_black k (rw (ap (λ (z : State). z.cell) (ap at e ∙ W.closed)) at q))
          by go_on (no e) = let i : k + suc (suc a) ≡ m = go_on (omega arith) (D.falls _ _ k (flow_walks (suc a)) q) in omega arith
