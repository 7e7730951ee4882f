-- The value of a literal by its code and the number of its variable's value. Assumes nothing.
use Prim.Native.Nat.{ℕ, zero, suc, ◌+◌, ◌-◌, ◌/◌, ◌%◌, ◌≤◌, ◌<◌}
use native.Mathlib.Omega.{arith}
use lib.Dec.{eqb}
use lib.IntN.{ℤ, pos, negsuc, nat_abs}
use lib.ListN.{length, get_or}
use borrow.Author.Tests.{eq-eqb, ne_eqb, eqb-true, ltb-false}
use mathlib.Core.Path.{◌≡◌, refl, sym, ◌∙◌, ap}
use mathlib.Core.Bool.{Bool, true, false, cond}
use mathlib.Core.List.{List}
use Rattle.answers.proofs.Bools.{clash}
use Rattle.cnf.specs.Literals.{closes, code_of}
use Rattle.cnf.proofs.Lists.{code_variable, code_closes}
use Rattle.search.specs.Trail.{Value, True, False, Unassigned, is_true, is_false, opposite, literal_value}
use Rattle.search.specs.Step.{fails}
use Rattle.search_scan.specs.PackedValues.{packed_values, Within}

-- a literal that was read, of a list within V: its code, and the number of its variable's value
pub record Read (ms : List ℕ) (l : ℤ) (k n : ℕ) : Type 0 where
  pub code : k ≡ code_of l
  pub some : k ≡ 0 → ⊥
  pub number : n ≡ get_or ms (k / 2 - 1) 0 / 2

abbrev code_value : ℕ → ℕ → Value
code_value k n = cond (eqb n (2 - k % 2)) False (cond (eqb n (1 + k % 2)) True Unassigned)

-- a code that is not 0 is at least 2, and its variable has a byte
pub code_two : {k : ℕ} (l : ℤ) → k ≡ code_of l → (k ≡ 0 → ⊥) → 2 ≤ k
code_two {k} l e z = rw e (by l (λ q. z (e ∙ q)))
  where
    by : (l : ℤ) → (code_of l ≡ 0 → ⊥) → 2 ≤ code_of l
    by (pos zero) n = absurd (n refl)
    by (pos (suc m)) n = omega arith
    by (negsuc m) n = omega arith

pub code_within : {v : ℕ} {ls : List ℤ} {k : ℕ} → Within v ls → (i : ℕ) → i < length ls → k ≡ code_of (get_or ls i (pos 0)) → k / 2 ≤ v
code_within {v} {ls} w i h e =
    let a = ltb-false v (nat_abs (get_or ls i (pos 0))) (w.each i h) in
    omega (arith, code_variable (get_or ls i (pos 0)), ap (λ n. n / 2) e)

pub code_not : {k : ℕ} (l : ℤ) → k ≡ code_of l → (k ≡ 0 → ⊥) → closes l ≡ false
code_not l e z = code_closes l ∙ ne_eqb (code_of l) 0 (λ q. z (e ∙ q))

pub code_zero : {k : ℕ} (l : ℤ) → k ≡ code_of l → k ≡ 0 → closes l ≡ true
code_zero l e z = code_closes l ∙ eq-eqb (code_of l) 0 (sym e ∙ z)

pub not_zero : {k : ℕ} (l : ℤ) → k ≡ code_of l → closes l ≡ false → k ≡ 0 → ⊥
not_zero l e z q = clash (code_zero l e q) z

read_value : {ms : List ℕ} {k n : ℕ} (l : ℤ) → Read ms l k n → literal_value (packed_values ms) l ≡ code_value k n
read_value {ms} {k} {n} l r = by l r.code r.number r.some
  where
    plus : (x : ℕ) (a b : Bool) → eqb x 1 ≡ a → eqb x 2 ≡ b → cond a True (cond b False Unassigned) ≡ cond b False (cond a True Unassigned)
    plus x true true p q = let e = eqb-true x 1 p in let f = eqb-true x 2 q in absurd (omega arith)
    plus x true false p q = refl
    plus x false b p q = refl

    minus : (a b : Bool) → opposite (cond a True (cond b False Unassigned)) ≡ cond a False (cond b True Unassigned)
    minus true b = refl
    minus false true = refl
    minus false false = refl

    at : (m : ℕ) → k / 2 ≡ suc m → n ≡ get_or ms (k / 2 - 1) 0 / 2 → get_or ms m 0 / 2 ≡ n
    at m e f = let q : k / 2 - 1 ≡ m = omega arith in rw (← q) (sym f)

    by : (l : ℤ) → k ≡ code_of l → n ≡ get_or ms (k / 2 - 1) 0 / 2 → (k ≡ 0 → ⊥) → literal_value (packed_values ms) l ≡ code_value k n
    by (pos zero) e f z = absurd (z e)
    by (pos (suc m)) e f z =
        let b : k % 2 ≡ 0 = omega arith in
        rw (b, at m (omega arith) f) (plus n (eqb n 1) (eqb n 2) refl refl)
    by (negsuc m) e f z =
        let b : k % 2 ≡ 1 = omega arith in
        rw (b, at m (omega arith) f) (minus (eqb n 1) (eqb n 2))

-- a false literal, and one that is not
module _ {ms : List ℕ} {k n : ℕ} (l : ℤ) (r : Read ms l k n) where
  fails_is : fails (packed_values ms) l ≡ eqb n (2 - k % 2)
  fails_is = ap is_false (read_value l r) ∙ by (eqb n (2 - k % 2)) (eqb n (1 + k % 2))
    where
      by : (a c : Bool) → is_false (cond a False (cond c True Unassigned)) ≡ a
      by true c = refl
      by false true = refl
      by false false = refl

  pub read_fails : n ≡ 2 - k % 2 → fails (packed_values ms) l ≡ true
  read_fails e = fails_is ∙ eq-eqb _ _ e

  pub read_stands : (n ≡ 2 - k % 2 → ⊥) → fails (packed_values ms) l ≡ false
  read_stands e = fails_is ∙ ne_eqb _ _ e

  -- a true literal, and one that is not
  pub read_true : n ≡ 1 + k % 2 → literal_value (packed_values ms) l ≡ True
  read_true e = read_value l r ∙ (rw (ne_eqb n (2 - k % 2) (λ q. omega arith), eq-eqb n (1 + k % 2) e))

  pub read_untrue : (n ≡ 1 + k % 2 → ⊥) → literal_value (packed_values ms) l ≡ True → ⊥
  read_untrue m e = by (eqb n (2 - k % 2)) (sym (read_value l r ∙ (rw (ne_eqb n (1 + k % 2) m))) ∙ e)
    where
      by : (a : Bool) → cond a False Unassigned ≡ True → ⊥
      by true q = clash refl (sym (ap is_true q))
      by false q = clash refl (sym (ap is_true q))
