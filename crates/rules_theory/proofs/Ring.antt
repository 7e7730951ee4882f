-- The walk along links where every cell has two links or none: no board, no white cells. Assumes nothing.
use Prim.Native.Nat.{ℕ, zero, suc, ◌+◌, ◌-◌, ◌≤◌, ◌<◌}
use native.Mathlib.Omega.{arith}
use native.Mathlib.Decide.{dec_le}
use mathlib.Core.Path.{◌≡◌, refl, sym, ◌∙◌, ap}
use mathlib.Core.Bool.{Bool, true}
use mathlib.Core.Logic.{◌⊎◌, inl, inr}
use Rattle.rules.specs.declared.Direction.{Direction}
use Rattle.rules.specs.Directions.{opposite}
use Rattle.rules.specs.Walk.{State, step}
use Rattle.rules_theory.specs.Loop.{walk}
use Rattle.rules_theory.proofs.Directions.{opposite-opposite}

-- go d x: the neighbour of x in direction d; other x d: the link of x that is not d. Each law speaks only of x with the link d
pub record Ring (size : ℕ) (go : Direction → ℕ → ℕ) (link : ℕ → Direction → Bool) (other : ℕ → Direction → Direction) : Type 0 where
  pub inside : (x : ℕ) (d : Direction) → link x d ≡ true → x < size
  pub met : (x : ℕ) (d : Direction) → link x d ≡ true → link (go d x) (opposite d) ≡ true
  pub back : (x : ℕ) (d : Direction) → link x d ≡ true → go (opposite d) (go d x) ≡ x
  pub moved : (x : ℕ) (d : Direction) → link x d ≡ true → go d x ≡ x → ⊥
  pub there : (x : ℕ) (d : Direction) → link x d ≡ true → link x (other x d) ≡ true
  pub apart : (x : ℕ) (d : Direction) → link x d ≡ true → other x d ≡ d → ⊥
  pub only : (x : ℕ) (d e : Direction) → link x d ≡ true → link x e ≡ true → (e ≡ d) ⊎ (e ≡ other x d)

-- the same cell, left by the other link
abbrev turn : (ℕ → Direction → Direction) → State → State
turn other u = record { cell = u.cell; way = other u.cell u.way }

state : {x y : ℕ} {d e : Direction} → x ≡ y → d ≡ e → ◌≡◌ {A = State} (record { cell = x; way = d }) (record { cell = y; way = e })
state p q = λ t. record { cell = p t; way = q t }

module _ {size : ℕ} {go : Direction → ℕ → ℕ} {link : ℕ → Direction → Bool} {other : ℕ → Direction → Direction} (R : Ring size go link other) where
  pub other-other : (x : ℕ) (d : Direction) → link x d ≡ true → other x (other x d) ≡ d
  other-other x d h = by (R.only x (other x d) d (R.there x d h) h)
    where
      by : (d ≡ other x d) ⊎ (d ≡ other x (other x d)) → other x (other x d) ≡ d
      by (inl e) = absurd (R.apart x d h (sym e))
      by (inr e) = sym e

  -- the state leaves by a link
  abbrev Good : State → Type 0
  Good u = link u.cell u.way ≡ true

  abbrev on : State → State
  on = step go other

  abbrev turned : State → State
  turned = turn other

  on_good : (u : State) → Good u → Good (on u)
  on_good u h = R.there _ _ (R.met _ _ h)

  turned_good : (u : State) → Good u → Good (turned u)
  turned_good u h = R.there _ _ h

  turned_turned : (u : State) → Good u → turned (turned u) ≡ u
  turned_turned u h = state refl (other-other _ _ h)

  -- turned at the next cell, the next step leads back, turned
  on_turned_on : (u : State) → Good u → on (turned (on u)) ≡ turned u
  on_turned_on u h = ap on (state refl (other-other _ _ (R.met _ _ h))) ∙ state (R.back _ _ h) (λ t. other (R.back _ _ h t) (opposite-opposite u.way t))

  -- so a step can be undone
  on_injective : (u v : State) → Good u → Good v → on u ≡ on v → u ≡ v
  on_injective u v h k e = sym (undone u h) ∙ ap (λ (w : State). turned (on (turned w))) e ∙ undone v k
    where
      undone : (w : State) → Good w → turned (on (turned (on w))) ≡ w
      undone w g = ap turned (on_turned_on w g) ∙ turned_turned w g

  same_cell : (u v : State) → Good u → Good v → u.cell ≡ v.cell → (v ≡ u) ⊎ (v ≡ turned u)
  same_cell u v h k e = by (R.only u.cell u.way v.way h (rw e k))
    where
      by : (v.way ≡ u.way) ⊎ (v.way ≡ other u.cell u.way) → (v ≡ u) ⊎ (v ≡ turned u)
      by (inl q) = inl (state (sym e) q)
      by (inr q) = inr (state (sym e) q)

  -- the walk from a link
  module _ (u : State) (good : link u.cell u.way ≡ true) where
    abbrev at : ℕ → State
    at k = walk go other u k

    pub walk_good : (k : ℕ) → link (walk go other u k).cell (walk go other u k).way ≡ true
    unfolding walk
    walk_good zero = good
    walk_good (suc k) = on_good (at k) (walk_good k)

    -- the walk never meets itself turned: else it does so two steps nearer, and at last at one cell or at two neighbours
    never_turned : (n a b : ℕ) → b ≡ a + n → at b ≡ turned (at a) → ⊥
    unfolding walk
    never_turned zero a b e h = let q : b ≡ a = omega arith in R.apart _ _ (walk_good a) (ap (λ (w : State). w.way) (sym (rw q at h)))
    never_turned (suc zero) a b e h = let q : b ≡ suc a = omega arith in R.moved _ _ (walk_good a) (ap (λ (w : State). w.cell) (rw q at h))
    never_turned (suc (suc n)) a zero e h = omega arith
    never_turned (suc (suc n)) a (suc b) e h =
        never_turned n (suc a) b (omega arith) (on_injective (at b) (turned (at (suc a))) (walk_good b) (turned_good (at (suc a)) (walk_good (suc a)))
        (h ∙ sym (on_turned_on (at a) (walk_good a))))

    -- a cell seen twice, k steps apart, is the same state, and so the walk was at its beginning after k steps
    pub seen_twice : (a k b : ℕ) → b ≡ a + k → (walk go other u a).cell ≡ (walk go other u b).cell → walk go other u b ≡ walk go other u a
    seen_twice a k b e h = by (same_cell (at a) (at b) (walk_good a) (walk_good b) h)
      where
        by : (at b ≡ at a) ⊎ (at b ≡ turned (at a)) → at b ≡ at a
        by (inl q) = q
        by (inr q) = absurd (never_turned k a b e q)

    pub seen_returned : (a k b : ℕ) → b ≡ a + k → walk go other u b ≡ walk go other u a → walk go other u k ≡ u
    unfolding walk
    seen_returned zero k b e h = let q : b ≡ k = omega arith in rw q at h
    seen_returned (suc a) k zero e h = absurd (omega arith)
    seen_returned (suc a) k (suc b) e h = seen_returned a k b (omega arith) (on_injective (at b) (at a) (walk_good b) (walk_good a) h)

    -- so a cell has one state on the walk
    pub same_state : (a b : ℕ) → (walk go other u a).cell ≡ (walk go other u b).cell → walk go other u a ≡ walk go other u b
    same_state a b h = by (dec_le a b)
      where
        by : Dec (a ≤ b) → at a ≡ at b
        by (yes l) = sym (seen_twice a (b - a) b (omega arith) h)
        by (no l) = seen_twice b (a - b) a (omega arith) (sym h)

    -- after a return everything comes again
    pub again : (m : ℕ) → walk go other u m ≡ u → (k b : ℕ) → b ≡ m + k → walk go other u b ≡ walk go other u k
    unfolding walk
    again m h zero b e = let q : b ≡ m = omega arith in rw q h
    again m h (suc k) zero e = absurd (omega arith)
    again m h (suc k) (suc b) e = ap on (again m h k b (omega arith))
