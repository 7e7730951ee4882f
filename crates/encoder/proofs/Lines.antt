-- A line is shorter than the longer side. Assumes nothing.
use Prim.Native.Nat.{ℕ, zero, suc, ◌+◌, ◌*◌, ◌-◌, ◌/◌, ◌%◌, ◌≤◌, ◌<◌}
use native.Mathlib.Omega.{arith}
use native.Mathlib.Nat.{suc-mod, mod-eq_of_lt, mod_self, mod-lt, mul-zero, zero-mul, zero-mod, div-eq-sub-div, add-div_right, div-lt_iff_lt-mul}
use native.Mathlib.Numerals.{add-one}
use native.Mathlib.Decide.{dec_lt}
use lib.ListN.{length, get_or, get_or-eq_default}
use borrow.Author.Tests.{ltb-true, leb-true}
use mathlib.Core.Path.{◌≡◌, refl, ◌∙◌, ap}
use mathlib.Core.Bool.{true}
use mathlib.Core.Logic.{◌⊎◌, inl, inr}
use Rattle.std.specs.Prelude.{Some}
use Rattle.rules.specs.declared.Direction.{Direction}
use Rattle.rules.specs.declared.Direction.TheVariants.{North as north, East as east, South as south, West as west}
use Rattle.rules.specs.declared.Grid.{Grid}
use Rattle.rules.specs.Record.{Puzzle, size}
use Rattle.rules.specs.Board.{inside, target, neighbour, line}
use Rattle.rules.proofs.Boards.{has, wired}
use Rattle.rules.proofs.Lines.{outward-next}

-- the column of the next number, where it is not the first one
column_next : (x c : ℕ) → 0 < c → (suc x % c ≡ suc (x % c)) ⊎ (suc x % c ≡ 0)
column_next x c p = by (dec_lt (suc (x % c)) c)
  where
    by : Dec (suc (x % c) < c) → (suc x % c ≡ suc (x % c)) ⊎ (suc x % c ≡ 0)
    by (yes l) = inl (suc-mod x c ∙ mod-eq_of_lt l)
    by (no l) = let m : x % c < c = mod-lt x p in let e : suc (x % c) ≡ c = omega arith in inr (suc-mod x c ∙ ap (λ k. k % c) e ∙ mod_self c)

module _ (g : Grid) where
  -- how many steps there are to the edge
  left : Direction → ℕ → ℕ
  left north x = x / g.columns
  left east x = g.columns - suc (x % g.columns)
  left south x = g.rows - suc (x / g.columns)
  left west x = x % g.columns

  wide : (x : ℕ) → x < size g → (0 < g.columns) × (0 < g.rows)
  wide x h = by g.columns refl g.rows refl
    where
      by : (c : ℕ) → g.columns ≡ c → (r : ℕ) → g.rows ≡ r → (0 < g.columns) × (0 < g.rows)
      by zero e r f = let z : size g ≡ 0 = ap (λ k. g.rows * k) e ∙ mul-zero g.rows in absurd (omega arith)
      by (suc c) e zero f = let z : size g ≡ 0 = ap (λ k. k * g.columns) f ∙ zero-mul g.columns in absurd (omega arith)
      by (suc c) e (suc r) f = (omega arith, omega arith)

  -- each step leads nearer to it
  nearer : (d : Direction) (x y : ℕ) → neighbour g d x ≡ Some y → left d y < left d x
  unfolding left
  nearer d x y e = by d (has g d x y e).there (has g d x y e).is ((wired g).inside d x y e).1
    where
      c : 0 < g.columns
      c = (wide x (has g d x y e).within).0

      by : (d : Direction) → inside g d x ≡ true → target g d x ≡ y → y < size g → left d y < left d x
      by north i t l = let q = div-eq-sub-div c (leb-true _ _ i) in rw (← t) (omega arith)
      by east i t l =
          let a : x % g.columns + 1 < g.columns = ltb-true _ _ i in
          let m : suc x % g.columns ≡ suc (x % g.columns) = suc-mod x g.columns ∙ mod-eq_of_lt (omega arith) in
          rw (← t, add-one x) (omega arith)
      by south i t l =
          let q = add-div_right x c in
          let r : (x + g.columns) / g.columns < g.rows = (div-lt_iff_lt-mul c).1 (rw (← t) at l) in
          rw (← t) (omega arith)
      by west i t l = before x (ltb-true 0 (x % g.columns) i) t
        where
          before : (x : ℕ) → 0 < x % g.columns → x - 1 ≡ y → y % g.columns < x % g.columns
          before zero a t = let z = zero-mod g.columns in absurd (omega arith)
          before (suc x) a t = let f : x ≡ y = omega arith in rw (← f) (which (column_next x g.columns c))
            where
              which : (suc x % g.columns ≡ suc (x % g.columns)) ⊎ (suc x % g.columns ≡ 0) → x % g.columns < suc x % g.columns
              which (inl e) = omega arith
              which (inr e) = absurd (omega arith)

  left_short : (n : ℕ) → g.rows ≤ n → g.columns ≤ n → (d : Direction) (x : ℕ) → x < size g → left d x < n
  unfolding left
  left_short n h k d x l = by d
    where
      c : (0 < g.columns) × (0 < g.rows)
      c = wide x l

      r : x / g.columns < g.rows
      r = (div-lt_iff_lt-mul c.0).1 l

      m : x % g.columns < g.columns
      m = mod-lt x c.0

      by : (d : Direction) → left d x < n
      by north = omega (arith, r)
      by east = omega (arith, c)
      by south = omega (arith, c)
      by west = omega (arith, m)

-- after j cells of a line at least j steps are left to the edge
left_after : (p : Puzzle) (d : Direction) (x j : ℕ) → j ≤ length (line p d x) → j ≤ left p.grid d (get_or (line p d x) j x)
left_after p d x zero h = omega arith
left_after p d x (suc j) h =
    let n = nearer p.grid d (get_or (line p d x) (suc j) x) (get_or (line p d x) j x) (outward-next p d x (omega arith)) in
    let l = left_after p d x j (omega arith) in
    omega arith

-- so a line has fewer cells than the sides' bound
pub line_short : (p : Puzzle) (n : ℕ) → p.grid.rows ≤ n → p.grid.columns ≤ n → (d : Direction) (x : ℕ) → x < size p.grid → length (line p d x) < n
line_short p n h k d x l =
    let a = left_after p d x (length (line p d x)) (omega arith) in
    let e : get_or (line p d x) (length (line p d x)) x ≡ x = get_or-eq_default (line p d x) x (omega arith) in
    let m = left_short p.grid n h k d x l in
    omega (arith, ap (left p.grid d) e)
