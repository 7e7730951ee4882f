-- Laws of decimal digits. Assumes nothing.
use Prim.Native.Nat.{ℕ, zero, suc, ◌+◌, ◌*◌, ◌/◌, ◌%◌, ◌≤◌, ◌<◌, ◌^◌}
use native.Mathlib.Omega.{arith}
use native.Mathlib.Nat.{pow-suc}
use borrow.Author.Tests.{lt-ltb, le-ltb, ltb-true, ltb-false}
use lib.Dec.{ltb}
use lib.ListN.{length, set, drop, length-append}
use Rattle.std.proofs.lemmas.List.{drop-set}
use mathlib.Core.Path.{◌≡◌, refl, sym, ◌∙◌, ap}
use mathlib.Core.Bool.{Bool, true, false}
use Rattle.answers.proofs.Putting.{putting}
use mathlib.Core.List.{List, [], ◌∷◌, ◌++◌, append_assoc}
use Rattle.text.specs.Decimal.{digit, decimal_step, decimal_in, decimal}

-- a number has no more digits than are allowed for
fuel : (a b n : ℕ) → n < a → n < b → decimal_in a n ≡ decimal_in b n
unfolding decimal_in
fuel zero b n h k = absurd (omega arith)
fuel (suc a) zero n h k = absurd (omega arith)
fuel (suc a) (suc b) n h k = by (ltb n 10) refl (fuel a b (n / 10))
  where
    by : (t : Bool) → ltb n 10 ≡ t → (n / 10 < a → n / 10 < b → decimal_in a (n / 10) ≡ decimal_in b (n / 10))
        → decimal_step t n (λ m. decimal_in a m) ≡ decimal_step t n (λ m. decimal_in b m)
    by true e f = refl
    by false e f =
        let l : 10 ≤ n = ltb-false n 10 e in
        ap (λ (front : List ℕ). front ++ (digit (n % 10) ∷ [])) (f (omega arith) (omega arith))

pub decimal_one : {n : ℕ} → n < 10 → digit n ∷ [] ≡ decimal n
unfolding decimal_in
decimal_one {n} h = rw (lt-ltb n 10 h)

pub decimal_more : {n : ℕ} → 10 ≤ n → decimal (n / 10) ++ (digit (n % 10) ∷ []) ≡ decimal n
unfolding decimal_in
decimal_more {n} h = rw (le-ltb n 10 h) (ap (λ (front : List ℕ). front ++ (digit (n % 10) ∷ [])) (fuel (suc (n / 10)) n (n / 10) (omega arith) (omega arith)))

-- one digit more than the tenth part
pub tenth : {n : ℕ} → 10 ≤ n → length (decimal n) ≡ length (decimal (n / 10)) + 1
tenth {n} h = ap length (sym (decimal_more h)) ∙ length-append (decimal (n / 10)) (digit (n % 10) ∷ [])

positive : (k : ℕ) → 1 ≤ 10 ^ k
positive zero = omega arith
positive (suc k) = let p = positive k in let e = pow-suc 10 k in omega arith

pub digits_are : (k n : ℕ) → 10 ^ k ≤ n → n < 10 * 10 ^ k → k + 1 ≡ length (decimal n)
digits_are zero n h l = ap length (decimal_one l)
digits_are (suc k) n h l =
    let p = positive k in
    let e = pow-suc 10 k in
    let i = digits_are k (n / 10) (omega arith) (omega arith) in
    let t : length (decimal n) ≡ length (decimal (n / 10)) + 1 = tenth (omega arith) in
    omega arith

pub digits_few : (k n : ℕ) → n < 10 ^ suc k → length (decimal n) ≤ suc k
digits_few zero n l = let e = ap length (decimal_one l) in omega arith
digits_few (suc k) n l =
    let e = pow-suc 10 (suc k) in
    by (ltb n 10) refl (digits_few k (n / 10) (omega arith))
  where
    by : (t : Bool) → ltb n 10 ≡ t → length (decimal (n / 10)) ≤ suc k → length (decimal n) ≤ suc (suc k)
    by true e i = let o = ap length (decimal_one (ltb-true n 10 e)) in omega arith
    by false e i = let t = tenth (ltb-false n 10 e) in omega arith

-- no number of 64 bits has more
pub digits_bound : (n : ℕ) → n < 2 ^ 64 → length (decimal n) ≤ 20
digits_bound n h = digits_few 19 n (omega arith)

pub one_digit : (n : ℕ) → n < 10 → decimal n ≡ digit n ∷ []
one_digit n h = sym (decimal_one h)

pub more_digits : (n : ℕ) → 10 ≤ n → decimal n ≡ decimal (n / 10) ++ digit (n % 10) ∷ []
more_digits n h = sym (decimal_more h)

-- a digit more, in front of those that stand already
pub digit_more : (n i first : ℕ) (field : List ℕ) {text : List ℕ} → 10 ≤ n → i + 1 ≡ first → i < length field → decimal n ++ drop first field ≡ text
    → decimal (n / 10) ++ drop i (set field i (digit (n % 10))) ≡ text
digit_more n i first field h e l w =
    ap (λ ds. decimal (n / 10) ++ ds) (drop-set field i (digit (n % 10)) l ∙ ap (λ k. digit (n % 10) ∷ drop k field) e) ∙
    sym (append_assoc (decimal (n / 10)) (digit (n % 10) ∷ []) (drop first field)) ∙
    ap (λ ds. ds ++ drop first field) (decimal_more h) ∙ w

-- with these the check finds what a number puts and the room that it takes
pub ruleset digits = (putting, one_digit, more_digits, digits_bound)
