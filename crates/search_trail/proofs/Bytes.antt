-- A mark and a value in one byte, each written without the other. Assumes nothing.
use Prim.Native.Nat.{ℕ, zero, suc, ◌+◌, ◌*◌, ◌-◌, ◌/◌, ◌%◌, ◌≤◌, ◌<◌}
use native.Mathlib.Omega.{arith}
use native.Mathlib.Decide.{ℕ_discrete}
use lib.Dec.{eqb}
use lib.IntN.{ℤ, pos, negsuc}
use lib.ListN.{length, get_or, set, length-map, get_or-map}
use lib.Seq.{get_or-set_same, get_or-set_other, map-set_same, ext_get_or}
use borrow.Author.Tests.{eq-eqb, ne_eqb, ltb-false}
use mathlib.Core.Path.{◌≡◌, refl, sym, ◌∙◌, ap}
use mathlib.Core.Bool.{cond}
use mathlib.Core.List.{List, [], ◌∷◌, map}
use Rattle.answers.proofs.Bools.{clash}
use Rattle.answers.proofs.Elements.{made_long, made_at}
use Rattle.cnf.specs.Literals.{code_of}
use Rattle.search.specs.Trail.{made, Values}
use Rattle.search_theory.specs.Legal.{Proper}
use Rattle.search_scan.specs.PackedValues.{bare_marks, number_of, packed}
use Rattle.search_trail.specs.Packed.{HasByte, with_value, with_mark}

pub low_at : (ms : List ℕ) (i : ℕ) → get_or (bare_marks ms) i 0 ≡ get_or ms i 0 % 2
low_at ms i = get_or-map (λ m. m % 2) ms i 0

pub low_most : (ms : List ℕ) (i : ℕ) → get_or (bare_marks ms) i 0 ≤ 1
low_most ms i = let e = low_at ms i in omega arith

-- a value leaves every mark
pub bare_value : (ms : List ℕ) (k n : ℕ) → bare_marks (with_value ms k n) ≡ bare_marks ms
bare_value ms k n = map-set_same (λ m. m % 2) ms (k / 2 - 1) _ 0 (omega arith)

-- and is that of the code's variable alone
pub number-value : {ms : List ℕ} {k : ℕ} (n : ℕ) → HasByte ms k → (j : ℕ)
    → get_or (with_value ms k n) j 0 / 2 ≡ cond (eqb (k / 2) (suc j)) n (get_or ms j 0 / 2)
number-value {ms} {k} n b j = by (ℕ_discrete j (k / 2 - 1))
  where
    new : ℕ
    new = get_or ms (k / 2 - 1) 0 % 2 + n * 2

    by : Dec (j ≡ k / 2 - 1) → get_or (with_value ms k n) j 0 / 2 ≡ cond (eqb (k / 2) (suc j)) n (get_or ms j 0 / 2)
    by (yes e) =
        let p = b.positive in
        let i = b.inside in
        rw (eq-eqb (k / 2) (suc j) (omega arith), e, get_or-set_same ms (k / 2 - 1) new 0 (omega arith)) (omega arith)
    by (no e) = rw (ne_eqb (k / 2) (suc j) (λ q. e (omega arith))) (ap (λ x. x / 2) (get_or-set_other ms (k / 2 - 1) j new 0 e))

-- a mark leaves every value
pub number_marked : (ms : List ℕ) (i m : ℕ) → i < length ms → m ≤ 1 → (j : ℕ) → get_or (with_mark ms i m) j 0 / 2 ≡ get_or ms j 0 / 2
number_marked ms i m h k j = by (ℕ_discrete j i)
  where
    by : Dec (j ≡ i) → get_or (with_mark ms i m) j 0 / 2 ≡ get_or ms j 0 / 2
    by (yes e) = rw (e, get_or-set_same ms i (get_or ms i 0 / 2 * 2 + m) 0 h) (omega arith)
    by (no e) = ap (λ x. x / 2) (get_or-set_other ms i j _ 0 e)

-- and is that entry's alone
pub bare_marked : (ms : List ℕ) (i m : ℕ) → m ≤ 1 → bare_marks (with_mark ms i m) ≡ set (bare_marks ms) i m
bare_marked ms i m k =
    let e : (get_or ms i 0 / 2 * 2 + m) % 2 ≡ m = omega arith in
    map-set (λ x. x % 2) ms i _ ∙ ap (set (bare_marks ms) i) e
  where
    map-set : {A B : Type 0} (f : A → B) (xs : List A) (i : ℕ) (y : A) → map f (set xs i y) ≡ set (map f xs) i (f y)
    map-set f [] i y = refl
    map-set f (x ∷ xs) zero y = refl
    map-set f (x ∷ xs) (suc i) y = ap (λ ys. f x ∷ ys) (map-set f xs i y)

-- a literal of one of V variables has a byte, and its number is that of its value
pub proper_byte : {v : ℕ} {ms : List ℕ} (l : ℤ) → Proper v l → length ms ≡ v → HasByte ms (code_of l)
proper_byte (pos zero) p e = clash refl p.nonzero
proper_byte {v} (pos (suc n)) p e = let h = ltb-false v (suc n) p.within in record { positive = omega arith; inside = omega arith }
proper_byte {v} (negsuc n) p e = let h = ltb-false v (suc n) p.within in record { positive = omega arith; inside = omega arith }

pub number-made : (l : ℤ) → 1 + code_of l % 2 ≡ number_of (made l)
number-made (pos n) = omega arith
number-made (negsuc n) = omega arith

-- the packed marks, byte by byte
module _ (w : Values) (ms : List ℕ) where
  pub length-packed : length (packed w ms) ≡ length ms
  length-packed = made_long _ (length ms)

  packed_at : (k : ℕ) → k < length ms → get_or (packed w ms) k 0 ≡ get_or ms k 0 + number_of (w (suc k)) * 2
  packed_at k h = made_at _ 0 (length ms) k h

  pub packed_bare : ((k : ℕ) → k < length ms → get_or ms k 0 ≤ 1) → bare_marks (packed w ms) ≡ ms
  packed_bare h =
      ext_get_or 0 (bare_marks (packed w ms)) ms (length-map (packed w ms) (λ m. m % 2) ∙ length-packed)
      (λ k l. let b : k < length ms = omega (arith, length-map (packed w ms) (λ m. m % 2), length-packed) in
      low_at (packed w ms) k ∙ ap (λ m. m % 2) (packed_at k b) ∙ (let s = h k b in omega arith))

module _ (w : Values) (ms : List ℕ) where
  pub pack : ((k : ℕ) → k < length ms → get_or ms k 0 / 2 ≡ number_of (w (suc k))) → ms ≡ packed w (bare_marks ms)
  pack h =
      ext_get_or 0 ms (packed w (bare_marks ms)) (sym (length-packed w (bare_marks ms) ∙ length-map ms (λ m. m % 2)))
      (λ k l.
      let e : get_or ms k 0 ≡ get_or (bare_marks ms) k 0 + number_of (w (suc k)) * 2 = omega (arith, h k l, low_at ms k) in
      e ∙ sym (packed_at w (bare_marks ms) k (simp length-map l)))

  pub unpack : ms ≡ packed w (bare_marks ms) → (k : ℕ) → k < length ms → get_or ms k 0 / 2 ≡ number_of (w (suc k))
  unpack e k l =
      let s : get_or ms k 0 ≡ get_or (bare_marks ms) k 0 + number_of (w (suc k)) * 2 =
      ap (λ (ns : List ℕ). get_or ns k 0) e ∙ packed_at w (bare_marks ms) k (simp length-map l) in
      omega (arith, low_at ms k)
