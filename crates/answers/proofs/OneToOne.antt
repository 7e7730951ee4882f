-- Answers that their outcomes tell apart. Assumes nothing.
use Prim.Native.Nat.{ℕ, ◌≤◌, ◌<◌}
use native.Mathlib.Omega.{arith}
use lib.Dec.{eqb, leb}
use borrow.Author.Tests.{le-leb, lt-leb, ne_eqb}
use mathlib.Core.Path.{◌≡◌, sym, ◌∙◌, ap}
use mathlib.Core.Bool.{true, false}
use Rattle.answers.specs.declared.Outcome.{Outcome}

-- the answer can be found from its outcome
pub record OneToOne {A : Type 0} (outcome : A → Outcome) : Type 0 where
  pub from : Outcome → A
  pub back : (a : A) → from (outcome a) ≡ a

-- what can be taken back is one-to-one
pub one_to_one_by : {A B : Type 0} (f : A → B) (g : B → A) → ((a : A) → g (f a) ≡ a) → (a b : A) → f a ≡ f b → a ≡ b
one_to_one_by f g back a b e = sym (back a) ∙ ap g e ∙ back b

-- so two answers with the same outcome are the same
pub one_to_one : {A : Type 0} {outcome : A → Outcome} → OneToOne outcome → (a b : A) → outcome a ≡ outcome b → a ≡ b
one_to_one {outcome = outcome} o = one_to_one_by outcome o.from o.back

-- the numbers of the outcomes lie between low and high: an enum that holds this one tells its own cases from these by the number
pub record Between {A : Type 0} (outcome : A → Outcome) (low high : ℕ) : Type 0 where
  pub bounds : (a : A) → (low ≤ (outcome a).number) × ((outcome a).number ≤ high)

module _ {A : Type 0} {outcome : A → Outcome} {low high : ℕ} (between : Between outcome low high) (a : A) where
  -- no refusal has the number 0
  pub number-not : {n : ℕ} → n < low → (outcome a).number ≡ n → ⊥
  number-not h e = let b = between.bounds a in omega arith

  pub number-eqb : {n : ℕ} → n < low → eqb (outcome a).number n ≡ false
  number-eqb {n} h = ne_eqb _ n (number-not h)

  pub number_under : {n : ℕ} → high ≤ n → leb (outcome a).number n ≡ true
  number_under {n} h = le-leb _ n (let b = between.bounds a in omega arith)

  pub number_over : {n : ℕ} → n < low → leb (outcome a).number n ≡ false
  number_over {n} h = lt-leb _ n (let b = between.bounds a in omega arith)
