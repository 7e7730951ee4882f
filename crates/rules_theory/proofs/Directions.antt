-- Laws of the four directions; what "exactly two links" means for one cell. Assumes nothing.
use Prim.Native.Nat.{ℕ, zero, suc, ◌+◌}
use native.Mathlib.Omega.{arith}
use lib.Dec.{eqb}
use borrow.Author.Tests.{eqb-true, eq-eqb}
use mathlib.Core.Path.{◌≡◌, refl, sym, ◌∙◌, ap}
use mathlib.Core.Bool.{Bool, true, false}
use mathlib.Core.Logic.{◌⊎◌, inl, inr}
use Rattle.answers.proofs.Bools.{clash}
use Rattle.rules.specs.declared.Direction.{Direction}
use Rattle.rules.specs.declared.Direction.TheVariants.{North as north, East as east, South as south, West as west}
use Rattle.rules.specs.Directions.{opposite, bit, degree, next1, next2, next3, pick, other}

-- what holds of each of the four
pub all_four : (P : Direction → Type 0) → P north → P east → P south → P west → (d : Direction) → P d
all_four P n e s w north = n
all_four P n e s w east = e
all_four P n e s w south = s
all_four P n e s w west = w

-- .. which are d and the other three
all_others : (P : Direction → Type 0) (d : Direction) → P d → P (next1 d) → P (next2 d) → P (next3 d) → (e : Direction) → P e
all_others P north h h1 h2 h3 = all_four P h h1 h2 h3
all_others P east h h1 h2 h3 = all_four P h1 h h2 h3
all_others P south h h1 h2 h3 = all_four P h1 h2 h h3
all_others P west h h1 h2 h3 = all_four P h1 h2 h3 h

pub opposite-opposite : (d : Direction) → opposite (opposite d) ≡ d
opposite-opposite = all_four (λ d. opposite (opposite d) ≡ d) refl refl refl refl

pub opposite_injective : (d e : Direction) → opposite d ≡ opposite e → d ≡ e
opposite_injective d e p = sym (opposite-opposite d) ∙ ap opposite p ∙ opposite-opposite e

-- directions compared by number
abbrev num : Direction → ℕ
num north = 0
num east = 1
num south = 2
num west = 3

abbrev of_num : ℕ → Direction
of_num zero = north
of_num (suc zero) = east
of_num (suc (suc zero)) = south
of_num (suc (suc (suc n))) = west

num_of : (d : Direction) → of_num (num d) ≡ d
num_of = all_four (λ d. of_num (num d) ≡ d) refl refl refl refl

abbrev pub same : Direction → Direction → Bool
same a b = eqb (num a) (num b)

pub same_true : (a b : Direction) → same a b ≡ true → a ≡ b
same_true a b h = sym (num_of a) ∙ ap of_num (eqb-true (num a) (num b) h) ∙ num_of b

pub true_same : (a b : Direction) → a ≡ b → same a b ≡ true
true_same a b e = eq-eqb (num a) (num b) (ap num e)

different : {a b : Direction} → same a b ≡ false → a ≡ b → ⊥
different {a} {b} h e = clash (true_same a b e) h

-- the other three are other ones
others_differ : (d : Direction) → (next1 d ≡ d → ⊥) × (next2 d ≡ d → ⊥) × (next3 d ≡ d → ⊥)
others_differ north = (different refl, different refl, different refl)
others_differ east = (different refl, different refl, different refl)
others_differ south = (different refl, different refl, different refl)
others_differ west = (different refl, different refl, different refl)

-- of three tests exactly one holds: it is the one that is picked
module _ (a b c : Direction) where
  picked : (P : Direction → Type 0) (x y z : Bool) → bit x + bit y + bit z ≡ 1 → (x ≡ true → P a) → (y ≡ true → P b) → (z ≡ true → P c) → P (pick x y a b c)
  picked P true y z n pa pb pc = pa refl
  picked P false true z n pa pb pc = pb refl
  picked P false false true n pa pb pc = pc refl
  picked P false false false n pa pb pc = absurd (omega arith)

  first_picked : (x y : Bool) → x ≡ true → a ≡ pick x y a b c
  first_picked true y h = refl
  first_picked false y h = clash h refl

  second_picked : (x y z : Bool) → bit x + bit y + bit z ≡ 1 → y ≡ true → b ≡ pick x y a b c
  second_picked true true z n h = absurd (omega arith)
  second_picked false true z n h = refl
  second_picked x false z n h = clash h refl

  third_picked : (x y z : Bool) → bit x + bit y + bit z ≡ 1 → z ≡ true → c ≡ pick x y a b c
  third_picked true y true n h = absurd (omega arith)
  third_picked false true true n h = absurd (omega arith)
  third_picked false false true n h = refl
  third_picked x y false n h = clash h refl

-- a cell with exactly two links, one of them d: `other` is the second one
module _ (p : Direction → Bool) (two : degree p ≡ 2) (d : Direction) (h : p d ≡ true) where
  degree_at : degree p ≡ bit (p d) + (bit (p (next1 d)) + bit (p (next2 d)) + bit (p (next3 d)))
  degree_at =
      all_four (λ d. degree p ≡ bit (p d) + (bit (p (next1 d)) + bit (p (next2 d)) + bit (p (next3 d)))) (omega arith) (omega arith) (omega arith)
      (omega arith) d

  one_more : bit (p (next1 d)) + bit (p (next2 d)) + bit (p (next3 d)) ≡ 1
  one_more = let one : bit (p d) ≡ 1 = ap bit h in omega (arith, degree_at)

  pub other-there : p (other p d) ≡ true
  other-there = picked (next1 d) (next2 d) (next3 d) (λ e. p e ≡ true) (p (next1 d)) (p (next2 d)) (p (next3 d)) one_more (λ e. e) (λ e. e) (λ e. e)

  pub other_apart : other p d ≡ d → ⊥
  other_apart = let n = others_differ d in
      picked (next1 d) (next2 d) (next3 d) (λ e. e ≡ d → ⊥) (p (next1 d)) (p (next2 d)) (p (next3 d)) one_more (λ e. n.0) (λ e. n.1) (λ e. n.2)

  pub other_only : (e : Direction) → p e ≡ true → (e ≡ d) ⊎ (e ≡ other p d)
  other_only =
      all_others (λ e. p e ≡ true → (e ≡ d) ⊎ (e ≡ other p d)) d (λ q. inl refl)
      (λ q. inr (first_picked (next1 d) (next2 d) (next3 d) (p (next1 d)) (p (next2 d)) q))
      (λ q. inr (second_picked (next1 d) (next2 d) (next3 d) (p (next1 d)) (p (next2 d)) (p (next3 d)) one_more q))
      (λ q. inr (third_picked (next1 d) (next2 d) (next3 d) (p (next1 d)) (p (next2 d)) (p (next3 d)) one_more q))

-- two different directions and no third: the degree is 2
module _ (p : Direction → Bool) (a b : Direction) (ab : a ≡ b → ⊥) (ha : p a ≡ true) (hb : p b ≡ true)
    (only : (c : Direction) → p c ≡ true → (c ≡ a) ⊎ (c ≡ b)) where
  bit_is : (c : Direction) → bit (p c) ≡ bit (same a c) + bit (same b c)
  bit_is c = by (p c) (same a c) (same b c) refl refl refl
    where
      by : (x y z : Bool) → p c ≡ x → same a c ≡ y → same b c ≡ z → bit x ≡ bit y + bit z
      by x true true e f g = absurd (ab (same_true a c f ∙ sym (same_true b c g)))
      by true true false e f g = refl
      by false true false e f g = clash (sym (ap p (same_true a c f)) ∙ ha) e
      by true false true e f g = refl
      by false false true e f g = clash (sym (ap p (same_true b c g)) ∙ hb) e
      by false false false e f g = refl
      by true false false e f g = absurd (neither (only c e))
        where
          neither : (c ≡ a) ⊎ (c ≡ b) → ⊥
          neither (inl q) = clash (true_same a c (sym q)) f
          neither (inr q) = clash (true_same b c (sym q)) g

  once : (d : Direction) → degree (same d) ≡ 1
  once = all_four (λ d. degree (same d) ≡ 1) refl refl refl refl

  pub degree_is_two : degree p ≡ 2
  degree_is_two = omega (arith, bit_is north, bit_is east, bit_is south, bit_is west, once a, once b)
