-- The bits of a word: and, or, not bit by bit, and a word is its bits. Assumes nothing.
use Prim.Native.Nat.{ℕ, zero, suc, ◌+◌, ◌*◌, ◌-◌, ◌/◌, ◌%◌, ◌^◌, ◌<◌, min, max}
use native.Mathlib.Omega.{arith}
use native.Mathlib.Nat.{pow-suc, mod-lt, zero-div}
use native.Mathlib.Numerals.{one-add}
use lib.Arith.{digits_div, digits_mod}
use lib.Bits.{bit_and, bit_or, and_step, or_step, and_shr, or_shr}
use lib.Dec.{eqb}
use lib.Pow.{pow_pos, shr-shr}
use mathlib.Core.Path.{◌≡◌, refl, sym, ◌∙◌, ap}
use mathlib.Core.Bool.{Bool, true, false, not, cond, ◌&&◌, ◌||◌}
use Rattle.cnf_batch.specs.Words.{bit_set, word_of}

-- bit 0 is the last digit, the others are the bits of the half
bit_first : (w : ℕ) → bit_set 0 w ≡ eqb (w % 2) 1
bit_first w = let e : w / 1 % 2 ≡ w % 2 = omega arith in ap (λ (n : ℕ). eqb n 1) e

bit-next : (i w : ℕ) → bit_set (suc i) w ≡ bit_set i (w / 2)
bit-next i w = ap (λ (n : ℕ). eqb (w / 2 ^ n % 2) 1) (sym (one-add i)) ∙ ap (λ (n : ℕ). eqb (n % 2) 1) (sym (shr-shr w 1 i))

module _ (half : ℕ) {last : ℕ} (small : last < 2) where
  joined_first : bit_set 0 (half * 2 + last) ≡ eqb last 1
  joined_first = bit_first (half * 2 + last) ∙ ap (λ (n : ℕ). eqb n 1) (digits_mod half small)

  joined-next : (i : ℕ) → bit_set (suc i) (half * 2 + last) ≡ bit_set i half
  joined-next i = bit-next i (half * 2 + last) ∙ ap (bit_set i) (digits_div half small)

pub bit_none : (i : ℕ) → bit_set i 0 ≡ false
bit_none i = ap (λ (n : ℕ). eqb (n % 2) 1) (zero-div (2 ^ i))

-- a digit is 0 or 1
by_digit : (P : ℕ → Type 0) → P 0 → P 1 → (x : ℕ) → x < 2 → P x
by_digit P p q zero h = p
by_digit P p q (suc zero) h = q
by_digit P p q (suc (suc x)) h = absurd (omega arith)

by_digits : (P : ℕ → ℕ → Type 0) → P 0 0 → P 0 1 → P 1 0 → P 1 1 → (x y : ℕ) → x < 2 → y < 2 → P x y
by_digits P p q r s x y h k = by_digit (λ (x : ℕ). P x y) (by_digit (P 0) p q y k) (by_digit (P 1) r s y k) x h

-- an operation on digits does what one on booleans does
abbrev Does : (ℕ → ℕ → ℕ) → (Bool → Bool → Bool) → ℕ → ℕ → Type 0
Does on-digits on-bits x y = (on-digits x y < 2) × (eqb (on-digits x y) 1 ≡ on-bits (eqb x 1) (eqb y 1))

-- if the digits of a result are made so, its bits are
module _ (op on-digits : ℕ → ℕ → ℕ) (on-bits : Bool → Bool → Bool) (shr : (a b k : ℕ) → op a b / 2 ^ k ≡ op (a / 2 ^ k) (b / 2 ^ k))
    (step : (a b : ℕ) → op a b ≡ op (a / 2) (b / 2) * 2 + on-digits (a % 2) (b % 2))
    (does : (x y : ℕ) → x < 2 → y < 2 → Does on-digits on-bits x y) where
  bit_by_bit : (i a b : ℕ) → bit_set i (op a b) ≡ on-bits (bit_set i a) (bit_set i b)
  bit_by_bit i a b =
      let x = a / 2 ^ i in
      let y = b / 2 ^ i in
      let d = does (x % 2) (y % 2) (mod-lt x (omega arith)) (mod-lt y (omega arith)) in
      ap (λ (n : ℕ). eqb (n % 2) 1) (shr a b i ∙ step x y) ∙ ap (λ (n : ℕ). eqb n 1) (digits_mod (op (x / 2) (y / 2)) d.0) ∙ d.1

pub bit-and : (i a b : ℕ) → bit_set i (bit_and a b) ≡ bit_set i a && bit_set i b
bit-and =
    bit_by_bit bit_and min ◌&&◌ and_shr and_step
    (by_digits (Does min ◌&&◌) (omega arith, refl) (omega arith, refl) (omega arith, refl) (omega arith, refl))

pub bit-or : (i a b : ℕ) → bit_set i (bit_or a b) ≡ bit_set i a || bit_set i b
bit-or =
    bit_by_bit bit_or max ◌||◌ or_shr or_step
    (by_digits (Does max ◌||◌) (omega arith, refl) (omega arith, refl) (omega arith, refl) (omega arith, refl))

-- the complement among n bits
not_half : (n w : ℕ) → w < 2 ^ suc n → (2 ^ suc n - 1 - w ≡ (2 ^ n - 1 - w / 2) * 2 + (1 - w % 2)) × (w / 2 < 2 ^ n)
not_half n w h = let e = pow-suc 2 n in (omega arith, omega arith)

not_last : (r : ℕ) → r < 2 → eqb (1 - r) 1 ≡ not (eqb r 1)
not_last = by_digit (λ (r : ℕ). eqb (1 - r) 1 ≡ not (eqb r 1)) refl refl

pub bit_not : (n i w : ℕ) → i < n → w < 2 ^ n → bit_set i (2 ^ n - 1 - w) ≡ not (bit_set i w)
bit_not zero i w h b = absurd (omega arith)
bit_not (suc n) zero w h b =
    ap (bit_set 0) (not_half n w b).0 ∙ joined_first (2 ^ n - 1 - w / 2) (omega arith) ∙ not_last (w % 2) (omega arith) ∙ ap not (sym (bit_first w))
bit_not (suc n) (suc i) w h b =
    let p = not_half n w b in
    ap (bit_set (suc i)) p.0 ∙ joined-next (2 ^ n - 1 - w / 2) (omega arith) i ∙ bit_not n i (w / 2) (omega arith) p.1 ∙ ap not (sym (bit-next i w))

pub bit_ones : (n i : ℕ) → i < n → bit_set i (2 ^ n - 1) ≡ true
bit_ones n i h =
    let e : 2 ^ n - 1 ≡ 2 ^ n - 1 - 0 = omega arith in
    ap (bit_set i) e ∙ bit_not n i 0 h (pow_pos n) ∙ ap not (bit_none i)

-- a digit as a number
abbrev digit : Bool → ℕ
digit t = cond t 1 0

digit_small : (t : Bool) → digit t < 2
digit_small true = omega arith
digit_small false = omega arith

digit_set : (t : Bool) → eqb (digit t) 1 ≡ t
digit_set true = refl
digit_set false = refl

digit_of : (r : ℕ) → r < 2 → r ≡ digit (eqb r 1)
digit_of = by_digit (λ (r : ℕ). r ≡ digit (eqb r 1)) refl refl

-- the word of n bits has these bits,
pub word_small : (n : ℕ) (set : ℕ → Bool) → word_of n set < 2 ^ n
unfolding word_of
word_small zero set = omega arith
word_small (suc n) set = let e = pow-suc 2 n in let h = word_small n (λ i. set (suc i)) in let d = digit_small (set 0) in omega arith

pub word_bits : (n : ℕ) (set : ℕ → Bool) (i : ℕ) → i < n → bit_set i (word_of n set) ≡ set i
unfolding word_of
word_bits zero set i h = absurd (omega arith)
word_bits (suc n) set zero h = joined_first (word_of n (λ i. set (suc i))) (digit_small (set 0)) ∙ digit_set (set 0)
word_bits (suc n) set (suc i) h = joined-next (word_of n (λ i. set (suc i))) (digit_small (set 0)) i ∙ word_bits n (λ i. set (suc i)) i (omega arith)

-- and no other word has
pub word_only : (n w : ℕ) (set : ℕ → Bool) → w < 2 ^ n → ((i : ℕ) → i < n → bit_set i w ≡ set i) → w ≡ word_of n set
unfolding word_of
word_only zero w set h b = omega arith
word_only (suc n) w set h b =
    let e = pow-suc 2 n in
    let r = word_only n (w / 2) (λ i. set (suc i)) (omega arith) (λ i k. sym (bit-next i w) ∙ b (suc i) (omega arith)) in
    let d = digit_of (w % 2) (omega arith) ∙ ap digit (sym (bit_first w) ∙ b 0 (omega arith)) in
    omega arith
