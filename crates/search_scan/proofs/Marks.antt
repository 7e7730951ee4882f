-- Turns of the loops over the marks. Assumes nothing.
use Prim.Native.Nat.{ℕ, suc, ◌-◌, ◌%◌, ◌≤◌, ◌<◌}
use native.Mathlib.Omega.{arith}
use lib.ListN.{get_or}
use borrow.Author.Tests.{eq-eqb, ne_eqb}
use mathlib.Core.Path.{◌≡◌, refl}
use Rattle.std.specs.Prelude.{None, Some}
use mathlib.Core.List.{List}
use Rattle.search_scan.specs.PackedValues.{last_marked}

-- the last mark of the first `used` is the last of the first i
pub record Backing (ms : List ℕ) (used i : ℕ) : Type 0 where
  pub within : i ≤ used
  pub rest : last_marked ms i ≡ last_marked ms used

pub back_start : {ms : List ℕ} {used : ℕ} → Backing ms used used
back_start = record { within = omega arith; rest = refl }

module _ {ms : List ℕ} {used i : ℕ} (b : Backing ms used i) where
  pub back_none : i ≤ 0 → None ≡ last_marked ms used
  unfolding last_marked
  back_none h = let e : i ≡ 0 = omega arith in rw e at b.rest

  module _ (h : 0 < i) where
    next : last_marked ms (suc (i - 1)) ≡ last_marked ms used
    next = let e : i ≡ suc (i - 1) = omega arith in rw e at b.rest

    pub back_found : get_or ms (i - 1) 0 % 2 ≡ 1 → Some (i - 1) ≡ last_marked ms used
    unfolding last_marked
    back_found e = rw (eq-eqb _ _ e, last_marked) at next

    pub back_on : (get_or ms (i - 1) 0 % 2 ≡ 1 → ⊥) → Backing ms used (i - 1)
    unfolding last_marked
    back_on e = record { within = let w = b.within in omega arith; rest = rw (ne_eqb _ _ e, last_marked) at next }
