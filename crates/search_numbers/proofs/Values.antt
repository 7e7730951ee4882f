-- The bytes of a window. Assumes nothing.
use Prim.Native.Nat.{ℕ, suc, ◌+◌, ◌-◌, ◌/◌, ◌%◌, ◌<◌}
use native.Mathlib.Omega.{arith}
use native.Mathlib.Decide.{ℕ_discrete, dec_lt}
use lib.Dec.{eqb, leb, ltb}
use lib.IntN.{ℤ, pos, negsuc, nat_abs}
use lib.ListN.{length, get_or, set, replicate, length-set}
use lib.Seq.{get_or-set_same, get_or-set_other, ext_get_or}
use borrow.Author.Tests.{eq-eqb, ne_eqb, lt-ltb, le-ltb, le-leb, lt-leb}
use mathlib.Core.Path.{◌≡◌, refl, sym, ◌∙◌}
use mathlib.Core.Bool.{Bool, true, false, not, cond, ◌&&◌, ◌||◌}
use mathlib.Core.List.{List, [], ◌∷◌}
use Rattle.answers.proofs.Elements.{made_long, made_at}
use Rattle.cnf.specs.Literals.{code_of}
use Rattle.cnf.proofs.Lists.{code_variable}
use Rattle.search.specs.Trail.{Entry, Trail, Value, True, False, Unassigned, Values, made, opposite, is_false, variable_value}
use Rattle.search.specs.Step.{fails}
use Rattle.answers.proofs.Lists.{blank}
use Rattle.search_scan.specs.PackedValues.{number_of}
use Rattle.search_numbers.specs.Window.{bytes_of, noted, byte_passes, passes}

module _ (low : ℕ) where
  -- none before the first entry
  pub bytes_start : (n : ℕ) → replicate n 0 ≡ bytes_of (variable_value []) low (length {A = ℕ} (replicate n 0))
  unfolding variable_value
  bytes_start n =
      let zs : List ℕ = replicate n 0 in
      ext_get_or 0 zs (bytes_of (variable_value []) low (length zs)) (sym (made_long _ (length zs))) (λ k h. blank 0 n k ∙ sym (made_at _ 0 (length zs) k h))

  -- an entry more
  module _ (n : ℕ) (t : Trail) (e : Entry) where
    abbrev old : List ℕ
    old = bytes_of (variable_value t) low n

    abbrev x : ℕ
    x = code_of e.literal / 2

    abbrev new : List ℕ
    new = noted low old (code_of e.literal)

    old_long : length old ≡ n
    old_long = made_long _ n

    new_long : length new ≡ n
    new_long = by (leb low x)
      where
        by : (b : Bool) → length (cond b (set old (x - low) (1 + code_of e.literal % 2)) old) ≡ n
        by true = length-set old (x - low) _ ∙ old_long
        by false = old_long

    new_at : (k : ℕ) → k < n → get_or new k 0 ≡ number_of (variable_value (e ∷ t) (low + k))
    unfolding variable_value
    new_at k h = by (dec_lt x low) (ℕ_discrete k (x - low))
      where
        same : nat_abs e.literal ≡ x
        same = sym (code_variable e.literal)

        is : (l : ℤ) → 1 + code_of l % 2 ≡ number_of (made l)
        is (pos m) = omega arith
        is (negsuc m) = omega arith

        by : Dec (x < low) → Dec (k ≡ x - low)
            → get_or new k 0 ≡ number_of (cond (eqb (nat_abs e.literal) (low + k)) (made e.literal) (variable_value t (low + k)))
        by (yes l) d = rw (lt-leb low x l, same, ne_eqb x (low + k) (λ q. omega arith)) (made_at _ 0 n k h)
        by (no l) (yes q) =
            rw (le-leb low x (omega arith), same, eq-eqb x (low + k) (omega arith), q)
            (get_or-set_same old (x - low) _ 0 (omega (arith, old_long)) ∙ is e.literal)
        by (no l) (no q) =
            rw (le-leb low x (omega arith), same, ne_eqb x (low + k) (λ z. q (omega arith)), get_or-set_other old (x - low) k _ 0 q) (made_at _ 0 n k h)

    pub bytes_noted : new ≡ bytes_of (variable_value (e ∷ t)) low n
    bytes_noted =
        ext_get_or 0 new (bytes_of (variable_value (e ∷ t)) low n) (new_long ∙ sym (made_long _ n))
        (λ k h. let l : k < n = omega (arith, new_long) in new_at k l ∙ sym (made_at _ 0 n k l))

  -- a literal passes by the bytes if it does by the values
  pub passes_same : (w : Values) (n : ℕ) (l : ℤ) → byte_passes low (bytes_of w low n) l ≡ passes low (low + n) w l
  passes_same w n l = rw (made_long (λ k. number_of (w (low + k))) n, code_variable l) (by (dec_lt (nat_abs l) low) (dec_lt (nat_abs l - low) n))
    where
      value : (l : ℤ) → eqb (number_of (w (nat_abs l))) (2 - code_of l % 2) ≡ fails w l
      value (pos m) = let z : 2 - code_of (pos m) % 2 ≡ 2 = omega arith in rw z (is (w m))
        where
          is : (v : Value) → eqb (number_of v) 2 ≡ is_false v
          is True = refl
          is False = refl
          is Unassigned = refl
      value (negsuc m) = let z : 2 - code_of (negsuc m) % 2 ≡ 1 = omega arith in rw z (is (w (suc m)))
        where
          is : (v : Value) → eqb (number_of v) 1 ≡ is_false (opposite v)
          is True = refl
          is False = refl
          is Unassigned = refl

      by : Dec (nat_abs l < low) → Dec (nat_abs l - low < n)
          → not (leb low (nat_abs l) && ltb (nat_abs l) (low + n)) || eqb (get_or (bytes_of w low n) (nat_abs l - low) 0) (2 - code_of l % 2)
          ≡ not (leb low (nat_abs l) && ltb (nat_abs l) (low + n)) || fails w l
      by (yes h) d = rw (lt-leb low (nat_abs l) h)
      by (no h) (no g) = rw (le-leb low (nat_abs l) (omega arith), le-ltb (nat_abs l) (low + n) (omega arith))
      by (no h) (yes g) =
          let e : low + (nat_abs l - low) ≡ nat_abs l = omega arith in
          rw (le-leb low (nat_abs l) (omega arith), lt-ltb (nat_abs l) (low + n) (omega arith), made_at (λ k. number_of (w (low + k))) 0 n (nat_abs l - low) g, e)
          (value l)
