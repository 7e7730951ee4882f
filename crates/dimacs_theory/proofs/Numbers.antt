-- Numbers at a place: the digits that are taken spell the number, and the digits of a number are taken. Assumes nothing.
use Prim.Native.Nat.{ℕ, suc, ◌+◌, ◌*◌, ◌-◌, ◌≤◌, ◌<◌}
use native.Mathlib.Omega.{arith}
use native.Mathlib.Decide.{dec_lt}
use borrow.Author.Tests.{le-leb, ne_eqb, eqb-false, leb-true, not-true}
use lib.Dec.{eqb, leb}
use lib.ListN.{length, drop, length-append}
use lib.Seq.{drop-cons, drop-drop, drop-append_seam}
use mathlib.Core.Path.{◌≡◌, refl, sym, ◌∙◌, ap, subst}
use mathlib.Core.Logic.{◌↔◌}
use mathlib.Core.Bool.{Bool, true, false, not, ◌&&◌, ◌||◌, cond}
use mathlib.Core.List.{List, [], ◌∷◌, ◌++◌, append_assoc, append-nil}
use Rattle.answers.proofs.Bools.{clash, and_both}
use Rattle.text.specs.Decimal.{digit, decimal}
use Rattle.dimacs.specs.Reader.{is_digit, is_first, is_next}
use Rattle.dimacs.specs.Tokens.{TokenAt, stands, refused, digits_from, number_from, number_at}
use Rattle.dimacs.proofs.Tokens.{digits_step, digits_none, next_small}
use Rattle.dimacs_theory.specs.Tokens.{NumberStands}
use Rattle.dimacs_theory.proofs.Decimals.{decimal_one, decimal_more, digit_by_digit}

-- a digit's byte is a digit ..
pub is_digit_lem : (d : ℕ) → d < 10 → is_digit (digit d) ≡ true
is_digit_lem d h = let a : 48 ≤ 48 + d = omega arith in let b : 48 + d ≤ 57 = omega arith in rw (le-leb 48 (48 + d) a, le-leb (48 + d) 57 b)

-- .. and is taken as the first of a number, and after one
pub first_test : (d bound : ℕ) (zero : Bool) → d < 10 → d ≤ bound → (zero ≡ false → d ≡ 0 → ⊥) → is_first (digit d) bound zero ≡ true
first_test d bound zero h few allowed =
    let e : 48 + d - 48 ≡ d = omega arith in
    rw (is_digit_lem d h, by zero allowed, e) (le-leb d bound few)
  where
    by : (z : Bool) → (z ≡ false → d ≡ 0 → ⊥) → z || not (eqb (48 + d) 48) ≡ true
    by true f = refl
    by false f = rw (ne_eqb (48 + d) 48 (λ e. f refl (omega arith)))

pub next_test : (x d bound : ℕ) → (x ≡ 0 → ⊥) → x * 10 + d ≤ bound → is_next x d bound ≡ true
next_test x d bound z few = rw (ne_eqb x 0 z) (le-leb (x * 10 + d) bound few)

-- a byte that is taken so is a digit's
record Digit (b : ℕ) : Type 0 where
  low : b - 48 < 10
  is : b ≡ digit (b - 48)

digit_of : (b : ℕ) → is_digit b ≡ true → Digit b
digit_of b e =
    let t = and_both (leb 48 b) (leb b 57) e in
    let l = leb-true 48 b t.0 in
    let u = leb-true b 57 t.1 in
    record { low = omega arith; is = omega arith }

-- these bytes are the number n, which fits
pub record Spells (ds : List ℕ) (bound : ℕ) (zero : Bool) (n : ℕ) : Type 0 where
  pub spelt : ds ≡ decimal n
  pub few : n ≤ bound
  pub allowed : zero ≡ false → n ≡ 0 → ⊥

module _ (b bound : ℕ) where
  pub first_spells : (zero : Bool) → is_first b bound zero ≡ true → Spells (b ∷ []) bound zero (b - 48)
  first_spells zero t =
      let two = and_both (is_digit b && (zero || not (eqb b 48))) (leb (b - 48) bound) t in
      let one = and_both (is_digit b) (zero || not (eqb b 48)) two.0 in
      let d = digit_of b one.0 in
      record {
        spelt = ap (λ x. x ∷ []) d.is ∙ sym (decimal_one (b - 48) d.low);
        few = leb-true (b - 48) bound two.1;
        allowed = nonzero zero one.1 d;
      }
    where
      nonzero : (z : Bool) → z || not (eqb b 48) ≡ true → Digit b → z ≡ false → b - 48 ≡ 0 → ⊥
      nonzero true o d h e = clash refl h
      nonzero false o d h e = let i = d.is in eqb-false b 48 (not-true (eqb b 48) o) (omega arith)

  pub next_spells : (x : ℕ) (zero : Bool) → is_digit b ≡ true → is_next x (b - 48) bound ≡ true
      → Spells (decimal x ++ (b ∷ [])) bound zero (x * 10 + (b - 48))
  next_spells x zero i t =
      let d = digit_of b i in
      let z = eqb-false x 0 (not-true (eqb x 0) (and_both (not (eqb x 0)) (leb (x * 10 + (b - 48)) bound) t).0) in
      record {
        spelt = ap (λ y. decimal x ++ (y ∷ [])) d.is ∙ sym (decimal_more x (b - 48) z d.low);
        few = next_small x (b - 48) bound t;
        allowed = λ _ e. z (omega arith);
      }

-- no digit comes first
abbrev Over : List ℕ → Type 0
Over [] = Unit
Over (b ∷ bs) = is_digit b ≡ false

-- with these bytes before, more of them spell the number that stands
record More (bound : ℕ) (zero : Bool) (front bs : List ℕ) (at n after : ℕ) : Type 0 where
  ds : List ℕ
  rest : List ℕ
  is : bs ≡ ds ++ rest
  spells : Spells (front ++ ds) bound zero n
  place : after ≡ at + length ds
  over : Over rest

module _ (bound : ℕ) (zero : Bool) {n after : ℕ} where
  more_none : {x at : ℕ} (front rest : List ℕ) → Spells front bound zero x → Over rest → ◌≡◌ {A = TokenAt ℕ} (stands x at) (stands n after)
      → More bound zero front rest at n after
  more_none {x} {at} front rest s o e =
      let p : at ≡ after = cc in
      let q : x ≡ n = cc in
      record { ds = []; rest = rest; is = refl; spells = rw append-nil (subst (Spells front bound zero) q s); place = omega arith; over = o }

  more_digit : {b at : ℕ} {front bs : List ℕ} → More bound zero (front ++ (b ∷ [])) bs (suc at) n after → More bound zero front (b ∷ bs) at n after
  more_digit {b} {at} {front} m =
      record {
        ds = b ∷ m.ds;
        rest = m.rest;
        is = ap (λ cs. b ∷ cs) m.is;
        spells = rw append_assoc at m.spells;
        place = omega (arith, m.place);
        over = m.over;
      }

  no_number : {p : ℕ} {B : Type 0} → ◌≡◌ {A = TokenAt ℕ} (refused p) (stands n after) → B
  no_number e = let z : ◌≡◌ {A = ℕ} 0 1 = cc in absurd (omega arith)

  digits_more : (bs front : List ℕ) (x at : ℕ) → Spells front bound zero x → digits_from bound x bs at ≡ stands n after → More bound zero front bs at n after
  unfolding digits_from
  digits_more [] front x at s e = more_none front [] s tt e
  digits_more (b ∷ bs) front x at s e =
      by (is_digit b) refl (is_next x (b - 48) bound) refl e (λ t. digits_more bs (front ++ (b ∷ [])) (x * 10 + (b - 48)) (suc at) t)
    where
      by : (d : Bool) → is_digit b ≡ d → (m : Bool) → is_next x (b - 48) bound ≡ m
          → cond d (cond m (digits_from bound (x * 10 + (b - 48)) bs (suc at)) (refused at)) (stands x at) ≡ stands n after
          → (Spells (front ++ (b ∷ [])) bound zero (x * 10 + (b - 48)) → digits_from bound (x * 10 + (b - 48)) bs (suc at) ≡ stands n after
          → More bound zero (front ++ (b ∷ [])) bs (suc at) n after)
          → More bound zero front (b ∷ bs) at n after
      by false p m q e go = more_none front (b ∷ bs) s p e
      by true p false q e go = no_number e
      by true p true q e go = more_digit (go (rw s.spelt (next_spells b bound x zero p q)) e)

  number_more : (bs : List ℕ) (at : ℕ) → number_from bound zero bs at ≡ stands n after → More bound zero [] bs at n after
  number_more [] at e = no_number e
  number_more (b ∷ bs) at e = by (is_first b bound zero) refl e
    where
      by : (t : Bool) → is_first b bound zero ≡ t → cond t (digits_from bound (b - 48) bs (suc at)) (refused at) ≡ stands n after
          → More bound zero [] (b ∷ bs) at n after
      by false p e = no_number e
      by true p e = more_digit (digits_more bs (b ∷ []) (b - 48) (suc at) (first_spells b bound zero p) e)

module _ (text : List ℕ) (bound : ℕ) (zero : Bool) (at n after : ℕ) where
  number-found : number_at text bound zero at ≡ stands n after → NumberStands text bound zero at n after
  number-found e =
      let m = number_more bound zero (drop at text) at e in
      let s = m.spells in
      let rest : m.rest ≡ drop after text = sym (drop-append_seam m.ds m.rest) ∙ ap (drop (length m.ds)) (sym m.is)
      ∙ drop-drop (length m.ds) at text ∙ ap (λ k. drop k text) (sym m.place) in
      record {
        has = record { is = m.is ∙ (λ i. s.spelt i ++ rest i); place = m.place ∙ ap (λ ds. at + length ds) s.spelt };
        few = s.few;
        allowed = s.allowed;
        over = λ h. subst Over (rest ∙ drop-cons text after 0 h) m.over;
      }

  -- the digits of a number that fits are taken
  abbrev Taken : ℕ → List ℕ → Type 0
  Taken x ds = x ≤ bound → (zero ≡ false → x ≡ 0 → ⊥) → (rest : List ℕ) → number_from bound zero (ds ++ rest) at ≡ digits_from bound x rest (at + length ds)

  number_digits : (x : ℕ) → Taken x (decimal x)
  unfolding digits_from
  number_digits = digit_by_digit Taken one more
    where
      one : (d : ℕ) → d < 10 → Taken d (digit d ∷ [])
      one d h few allowed rest =
          let e : 48 + d - 48 ≡ d = omega arith in
          let p : at + 1 ≡ suc at = omega arith in
          rw (first_test d bound zero h few allowed, e, p)

      more : (x d : ℕ) → (x ≡ 0 → ⊥) → d < 10 → Taken x (decimal x) → Taken (x * 10 + d) (decimal x ++ (digit d ∷ []))
      more x d z h go few allowed rest =
          let e : 48 + d - 48 ≡ d = omega arith in
          let p : at + length (decimal x ++ (digit d ∷ [])) ≡ suc (at + length (decimal x)) = omega (arith, length-append (decimal x) (digit d ∷ [])) in
          rw (append_assoc, go (omega arith) (λ _. z) (digit d ∷ rest), is_digit_lem d h, e, next_test x d bound z few, p)

  found_number : NumberStands text bound zero at n after → number_at text bound zero at ≡ stands n after
  found_number s =
      rw (s.has.is, number_digits n s.few s.allowed (drop after text), ← s.has.place) (by (dec_lt after (length text)))
    where
      by : Dec (after < length text) → digits_from bound n (drop after text) after ≡ stands n after
      by (yes h) = digits_step text after h bound n ∙ rw (s.over h)
      by (no h) = digits_none text after (omega arith) bound n

  pub number_exactly : number_at text bound zero at ≡ stands n after ↔ NumberStands text bound zero at n after
  number_exactly = (number-found, found_number)
