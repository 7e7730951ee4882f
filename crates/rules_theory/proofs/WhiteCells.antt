-- The list of a function's values at consecutive numbers; membership as a test. Assumes nothing.
use Prim.Native.Nat.{ℕ, zero, suc, ◌+◌, ◌≤◌, ◌<◌}
use native.Mathlib.Omega.{arith}
use native.Mathlib.Decide.{ℕ_discrete}
use lib.Dec.{eqb}
use lib.ListN.{length, get_or}
use borrow.Author.Tests.{eqb-true, eq-eqb}
use mathlib.Core.Path.{◌≡◌, refl, sym, ◌∙◌, ap, subst}
use mathlib.Core.Bool.{true, ◌||◌}
use mathlib.Core.Logic.{◌⊎◌, inl, inr}
use mathlib.Core.List.Memᴰ
use mathlib.Core.List.{List, [], ◌∷◌}
use Rattle.answers.proofs.Bools.{clash, or_cases, or_left, or_right}
use Rattle.answers.specs.Lists.{◌∈◌, Apart}
use Rattle.rules.specs.Walk.{among}
use Rattle.rules_theory.specs.Loop.{Chain}
use Rattle.rules_theory.proofs.Finite.{Differ}

-- f a, f (a + 1), .., n of them
unfoldable pub listing : (ℕ → ℕ) → ℕ → ℕ → List ℕ
listing f a zero = []
listing f a (suc n) = f a ∷ listing f (suc a) n

module _ (f : ℕ → ℕ) where
  pub listing_length : (a n : ℕ) → length (listing f a n) ≡ n
  unfolding listing
  listing_length a zero = refl
  listing_length a (suc n) = ap suc (listing_length (suc a) n)

  pub listing_at : (a n k b : ℕ) → k < n → b ≡ a + k → get_or (listing f a n) k 0 ≡ f b
  unfolding listing
  listing_at a zero k b h e = absurd (omega arith)
  listing_at a (suc n) zero b h e = let q : a ≡ b = omega arith in ap f q
  listing_at a (suc n) (suc k) b h e = listing_at (suc a) n k b (omega arith) (omega arith)

  pub listing_has : (a n k : ℕ) → a ≤ k → k < a + n → f k ∈ listing f a n
  unfolding listing
  listing_has a zero k lo hi = absurd (omega arith)
  listing_has a (suc n) k lo hi = by (ℕ_discrete k a) (listing_has (suc a) n k)
    where
      by : Dec (k ≡ a) → (suc a ≤ k → k < suc a + n → f k ∈ listing f (suc a) n) → f k ∈ f a ∷ listing f (suc a) n
      by (yes q) go = Memᴰ.head (ap f q)
      by (no q) go = Memᴰ.tail (go (omega arith) (omega arith))

  pub listing_from : (a n : ℕ) {x : ℕ} → x ∈ listing f a n → (k : ℕ) × (a ≤ k) × (k < a + n) × (f k ≡ x)
  unfolding listing
  listing_from a zero h = absurd (Memᴰ.not-nil h)
  listing_from a (suc n) {x} h = by (Memᴰ.cases_cons h) (listing_from (suc a) n)
    where
      by : (x ≡ f a) ⊎ (x ∈ listing f (suc a) n) → (x ∈ listing f (suc a) n → (k : ℕ) × (suc a ≤ k) × (k < suc a + n) × (f k ≡ x))
          → (k : ℕ) × (a ≤ k) × (k < a + suc n) × (f k ≡ x)
      by (inl e) go = (a, omega arith, omega arith, sym e)
      by (inr t) go = let w = go t in let lo = w.1 in let hi = w.2 in (w.0, omega arith, omega arith, w.3)

  pub listing_apart : (a n m : ℕ) → a + n ≤ m → Differ f m → Apart (listing f a n)
  unfolding listing
  listing_apart a zero m h d = tt
  listing_apart a (suc n) m h d = (λ y t e. new y e (listing_from (suc a) n t), listing_apart (suc a) n m (omega arith) d)
    where
      new : (y : ℕ) → f a ≡ y → (k : ℕ) × (suc a ≤ k) × (k < suc a + n) × (f k ≡ y) → ⊥
      new y e w = let lo = w.1 in let hi = w.2 in d a w.0 lo (omega arith) (e ∙ sym w.3)

  -- related one by one, they are a chain
  pub listing_chain : (P : ℕ → ℕ → Type 0) → ((k : ℕ) → P (f k) (f (suc k))) → (n a m z : ℕ) → suc (a + n) ≡ m → f m ≡ z → Chain P (f a) (listing f (suc a) n) z
  unfolding listing
  listing_chain P h zero a m z q e = let r : suc a ≡ m = omega arith in subst (P (f a)) (ap f r ∙ e) (h a)
  listing_chain P h (suc n) a m z q e = (h a, listing_chain P h n (suc a) m z (omega arith) e)

pub among_in : (x : ℕ) (l : List ℕ) → among x l ≡ true → x ∈ l
unfolding among
among_in x [] h = clash h refl
among_in x (y ∷ l) h = by (or_cases (eqb x y) (among x l) h) (among_in x l)
  where
    by : (eqb x y ≡ true) ⊎ (among x l ≡ true) → (among x l ≡ true → x ∈ l) → x ∈ y ∷ l
    by (inl e) go = Memᴰ.head (eqb-true x y e)
    by (inr t) go = Memᴰ.tail (go t)

pub in_among : (x : ℕ) (l : List ℕ) → x ∈ l → among x l ≡ true
unfolding among
in_among x [] h = absurd (Memᴰ.not-nil h)
in_among x (y ∷ l) h = by (Memᴰ.cases_cons h) (in_among x l)
  where
    by : (x ≡ y) ⊎ (x ∈ l) → (x ∈ l → among x l ≡ true) → eqb x y || among x l ≡ true
    by (inl e) go = or_left (eqb x y) (among x l) (eq-eqb x y e)
    by (inr t) go = or_right (eqb x y) (among x l) (go t)
