-- The cells of the round: the list of them that is computed, and that no link leads out of it. Assumes nothing.
use Prim.Native.Nat.{ℕ, zero, suc, ◌+◌, ◌≤◌, ◌<◌}
use native.Mathlib.Omega.{arith}
use native.Mathlib.Decide.{ℕ_discrete}
use borrow.Author.Tests.{eq-eqb, ne_eqb}
use mathlib.Core.Path.{◌≡◌, refl, sym, ◌∙◌, ap}
use mathlib.Core.Bool.{Bool, true}
use mathlib.Core.Logic.{◌⊎◌, inl, inr}
use mathlib.Core.List.{List, ◌∷◌}
use Rattle.rules.specs.declared.Direction.{Direction}
use Rattle.answers.specs.Lists.{◌∈◌}
use Rattle.rules.specs.Walk.{State, step, onward, around}
use Rattle.rules_theory.specs.Loop.{walk}
use Rattle.rules_theory.proofs.WhiteCells.{listing, listing_has, listing_from}
use Rattle.rules_theory.proofs.Ring.{Ring, walk_good, other-other}
use Rattle.rules_theory.proofs.Round.{Round}

-- x is passed within m steps from u
abbrev pub OnRound : (Direction → ℕ → ℕ) → (ℕ → Direction → Direction) → State → ℕ → ℕ → Type 0
OnRound go other u m x = (k : ℕ) × (k < m) × ((walk go other u k).cell ≡ x)

module _ {size : ℕ} {go : Direction → ℕ → ℕ} {other : ℕ → Direction → Direction} {u : State} {m : ℕ} (W : Round size go other u m) where
  abbrev at : ℕ → State
  at k = walk go other u k

  abbrev OnBoard : ℕ → Type 0
  OnBoard x = OnRound go other u m x

  home : (at m).cell ≡ u.cell
  home = ap (λ (v : State). v.cell) W.closed

  -- what is computed, with n steps allowed, from the state after a steps on
  around-from : (n j a : ℕ) → suc j ≤ n → a + suc j ≡ m → around go other u.cell n (at a) ≡ listing (λ k. (at k).cell) a (suc j)
  unfolding around listing walk
  around-from zero j a h e = absurd (omega arith)
  around-from (suc n) zero a h e = let q : m ≡ suc a = omega arith in
      ap (λ (b : Bool). (at a).cell ∷ onward b (at (suc a)) (λ v. around go other u.cell n v)) (eq-eqb _ _ (rw q at home))
  around-from (suc n) (suc j) a h e =
      ap (λ (b : Bool). (at a).cell ∷ onward b (at (suc a)) (λ v. around go other u.cell n v))
      (ne_eqb _ _ (λ q. W.fresh 0 (suc a) (omega arith) (omega arith) (sym q)))
      ∙ ap (λ (l : List ℕ). (at a).cell ∷ l) (around-from n j (suc a) (omega arith) (omega arith))

  pub around_is : around go other u.cell size u ≡ listing (λ k. (walk go other u k).cell) 0 m
  unfolding walk
  around_is = by m refl
    where
      by : (k : ℕ) → m ≡ k → around go other u.cell size u ≡ listing (λ k. (walk go other u k).cell) 0 m
      by zero q = let l = W.long in absurd (omega arith)
      by (suc k) q = let l = W.fits in rw q (around-from size k 0 (omega arith) (omega arith))

  pub round_in : {x : ℕ} → OnRound go other u m x → x ∈ around go other u.cell size u
  round_in w = let h = w.1 in rw (around_is, ← w.2) (listing_has (λ k. (at k).cell) 0 m w.0 (omega arith) (omega arith))

  pub in_round : {x : ℕ} → x ∈ around go other u.cell size u → OnRound go other u m x
  in_round h = let w = listing_from (λ k. (at k).cell) 0 m (rw around_is at h) in let l = w.2 in (w.0, omega arith, w.3)

  -- an index that is not 0: the start counts as m
  pub later : {x : ℕ} → OnRound go other u m x → (k : ℕ) × (k < m) × ((walk go other u (suc k)).cell ≡ x)
  unfolding walk
  later {x} w = by w.0 w.1 w.2 m refl
    where
      by : (k : ℕ) → k < m → (at k).cell ≡ x → (n : ℕ) → m ≡ n → (k : ℕ) × (k < m) × ((at (suc k)).cell ≡ x)
      by zero h e zero q = absurd (omega arith)
      by zero h e (suc n) q = (n, omega arith, rw q at home ∙ e)
      by (suc k) h e n q = (k, omega arith, e)

  -- a cell of the walk, up to one step after the return
  within : (k : ℕ) → k ≤ suc m → {x : ℕ} → (at k).cell ≡ x → OnBoard x
  unfolding walk
  within k h {x} e = by (ℕ_discrete k m) (ℕ_discrete k (suc m))
    where
      by : Dec (k ≡ m) → Dec (k ≡ suc m) → OnBoard x
      by (yes q) d = let l = W.long in (0, omega arith, sym home ∙ ap (λ n. (at n).cell) (sym q) ∙ e)
      by (no p) (yes q) = (1, W.long, ap (λ (v : State). (step go other v).cell) (sym W.closed) ∙ ap (λ n. (at n).cell) (sym q) ∙ e)
      by (no p) (no q) = (k, omega arith, e)

  module _ {link : ℕ → Direction → Bool} (R : Ring size go link other) (good : link u.cell u.way ≡ true) where
    pub behind : (k : ℕ) → go (other (walk go other u (suc k)).cell (walk go other u (suc k)).way) (walk go other u (suc k)).cell ≡ (walk go other u k).cell
    unfolding walk
    behind k = ap (λ (d : Direction). go d (at (suc k)).cell) (other-other R _ _ (R.met _ _ (walk_good R u good k))) ∙ R.back _ _ (walk_good R u good k)

    -- no link leads out of the round
    pub stays : {x : ℕ} (d : Direction) → OnRound go other u m x → link x d ≡ true → OnRound go other u m (go d x)
    unfolding walk
    stays {x} d w h = by (later w)
      where
        by : (k : ℕ) × (k < m) × ((at (suc k)).cell ≡ x) → OnBoard (go d x)
        by (k, l, e) = which (R.only _ _ d (walk_good R u good (suc k)) (rw e h))
          where
            which : (d ≡ (at (suc k)).way) ⊎ (d ≡ other (at (suc k)).cell (at (suc k)).way) → OnBoard (go d x)
            which (inl q) = within (suc (suc k)) (omega arith) (λ t. go (sym q t) (e t))
            which (inr q) = within k (omega arith) (sym (behind k) ∙ (λ t. go (sym q t) (e t)))
