-- The values that a trail gives are those of every assignment that agrees with it. Assumes nothing.
use Prim.Native.Nat.{ℕ, zero, suc}
use native.Mathlib.Omega.{arith}
use lib.Dec.{eqb}
use lib.IntN.{ℤ, pos, negsuc, nat_abs}
use lib.ListN.{get_or}
use borrow.Author.Tests.{eqb-true, not-true}
use mathlib.Core.Path.{◌≡◌, refl, ◌∙◌, ap}
use mathlib.Core.Bool.{Bool, true, false, not, cond}
use mathlib.Core.List.{List, [], ◌∷◌}
use Rattle.answers.proofs.Bools.{clash}
use Rattle.cnf.specs.Clauses.{value}
use Rattle.search.specs.Trail.{Trail, Value, True, False, Unassigned, is_false, opposite, made, variable_value, Agrees}
use Rattle.search.specs.Step.{fails}

-- b is the value that the trail gives, if it gives one
abbrev pub Tells : Value → Bool → Type 0
Tells True b = b ≡ true
Tells False b = b ≡ false
Tells Unassigned b = Unit

module _ (a : List Bool) where
  pub variable_told : (t : Trail) → Agrees a t → (n : ℕ) → Tells (variable_value t (suc n)) (get_or a n false)
  unfolding variable_value
  variable_told [] g n = tt
  variable_told (e ∷ t) g n = by e.literal g.0 (eqb (nat_abs e.literal) (suc n)) refl (variable_told t g.1 n)
    where
      at : (m : ℕ) {b : Bool} → eqb (suc m) (suc n) ≡ true → get_or a m false ≡ b → get_or a n false ≡ b
      at m q h = let e = eqb-true (suc m) (suc n) q in let s : n ≡ m = omega arith in ap (λ k. get_or a k false) s ∙ h

      by : (l : ℤ) → value a l ≡ true → (b : Bool) → eqb (nat_abs l) (suc n) ≡ b → Tells (variable_value t (suc n)) (get_or a n false)
          → Tells (cond b (made l) (variable_value t (suc n))) (get_or a n false)
      by l h false q rest = rest
      by (pos zero) h true q rest = clash h refl
      by (pos (suc m)) h true q rest = at m q h
      by (negsuc m) h true q rest = at m q (not-true (get_or a m false) h)

  -- a literal that is false under the trail
  pub literal_false : (t : Trail) → Agrees a t → (l : ℤ) → fails (variable_value t) l ≡ true → value a l ≡ false
  literal_false t g (pos zero) h = refl
  literal_false t g (pos (suc n)) h = by (variable_value t (suc n)) h (variable_told t g n)
    where
      by : (w : Value) → is_false w ≡ true → Tells w (get_or a n false) → get_or a n false ≡ false
      by True h k = clash h refl
      by False h k = k
      by Unassigned h k = clash h refl
  literal_false t g (negsuc n) h = by (variable_value t (suc n)) h (variable_told t g n)
    where
      by : (w : Value) → is_false (opposite w) ≡ true → Tells w (get_or a n false) → not (get_or a n false) ≡ false
      by True h k = ap not k
      by False h k = clash h refl
      by Unassigned h k = clash h refl
