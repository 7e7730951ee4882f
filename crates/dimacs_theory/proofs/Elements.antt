-- Elements at a place: the number after a sign. Assumes nothing.
use Prim.Native.Nat.{ℕ, zero, suc}
use native.Mathlib.Omega.{arith}
use borrow.Author.Tests.{ne_eqb}
use lib.Dec.{eqb}
use lib.IntN.{ℤ, pos, negsuc}
use mathlib.Core.Path.{◌≡◌, refl, sym, ◌∙◌, ap}
use mathlib.Core.Logic.{◌↔◌}
use mathlib.Core.Bool.{Bool, true, false, not, cond}
use mathlib.Core.List.{List}
use Rattle.answers.proofs.Bools.{clash}
use Rattle.text.specs.Decimal.{minus}
use Rattle.dimacs.specs.Tokens.{stands, refused, has_byte, number_at, unsigned_at, element_at}
use Rattle.dimacs.proofs.Tokens.{number_step}
use Rattle.dimacs_theory.specs.Tokens.{NumberStands, sign_and_number, ElementStands}
use Rattle.dimacs_theory.proofs.Bytes.{no_token, then_found, has_then, has-byte, has_first, first_has}
use Rattle.dimacs_theory.proofs.Numbers.{number_exactly}

module _ (text : List ℕ) (v : ℕ) where
  -- the number after the sign
  unsigned_found : (negative : Bool) (at : ℕ) {e : Bool × ℕ} {after : ℕ} → unsigned_at text v negative at ≡ stands e after
      → (x : ℕ) × (e ≡ (negative, x)) × NumberStands text v (not negative) at x after
  unsigned_found negative at {e} {after} r =
      let t = then_found (number_at text v (not negative) at) (λ x b. stands (negative, x) b) r in
      let q = t.3 in
      let p : t.1 ≡ after = cc in
      (t.0, cc, (number_exactly text v (not negative) at t.0 after).0 (t.2 ∙ ap (stands t.0) p))

  module _ (at after : ℕ) (e : Bool × ℕ) where
    abbrev Found : Type 0
    Found = (l : ℤ) × (e ≡ sign_and_number l) × ElementStands text v at l after

    negative_found : has_byte text minus at ≡ true → (x : ℕ) → e ≡ (true, x) → NumberStands text v false (suc at) x after → Found
    negative_found t zero p s = absurd (s.allowed refl refl)
    negative_found t (suc n) p s = (negsuc n, p, record { has = has_then (has-byte t) s.has; few = s.few; over = s.over })

    element_found : element_at text v at ≡ stands e after → Found
    element_found r = by (has_byte text minus at) refl (eqb v 0) r
      where
        by : (t : Bool) → has_byte text minus at ≡ t → (z : Bool)
            → cond t (cond z (refused at) (unsigned_at text v true (suc at))) (unsigned_at text v false at) ≡ stands e after → Found
        by true p true r = no_token r
        by true p false r = let u = unsigned_found true (suc at) r in negative_found p u.0 u.1 u.2
        by false p z r =
            let u = unsigned_found false at r in
            let s = u.2 in
            (pos u.0, u.1, record { has = s.has; few = s.few; over = s.over })

  module _ (at after : ℕ) where
    -- no number begins with a minus
    no_minus : (n : ℕ) → number_at text v true at ≡ stands n after → (t : Bool) → has_byte text minus at ≡ t → t ≡ false
    no_minus n q false p = refl
    no_minus n q true p =
        let f = has_first (has-byte {text = text} {a = at} {b = minus} p) in
        no_token (sym (rw f.byte at (number_step text at f.inside v true)) ∙ q)

    found_element : (l : ℤ) → ElementStands text v at l after → element_at text v at ≡ stands (sign_and_number l) after
    found_element (pos n) s =
        let q : number_at text v true at ≡ stands n after = (number_exactly text v true at n after).1
        (record { has = s.has; few = s.few; allowed = λ z. clash refl z; over = s.over }) in
        rw (no_minus n q (has_byte text minus at) refl, q)
    found_element (negsuc n) s =
        let f = has_first s.has in
        let z : v ≡ 0 → ⊥ = omega (arith, s.few) in
        let q : number_at text v false (suc at) ≡ stands (suc n) after = (number_exactly text v false (suc at) (suc n) after).1
        (record { has = f.rest; few = s.few; allowed = λ _ e. omega arith; over = s.over }) in
        rw (first_has f, ne_eqb v 0 z, q)

    pub element_exactly : (e : Bool × ℕ) → element_at text v at ≡ stands e after ↔ ((l : ℤ) × (e ≡ sign_and_number l) × ElementStands text v at l after)
    element_exactly e = (element_found at after e, λ r. found_element r.0 r.2 ∙ ap (λ d. stands d after) (sym r.1))
