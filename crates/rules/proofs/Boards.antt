-- The laws of a board, and that every grid has them. Assumes nothing.
use Prim.Native.Nat.{ℕ, zero, suc, ◌+◌, ◌*◌, ◌-◌, ◌/◌, ◌%◌, ◌≤◌, ◌<◌}
use native.Mathlib.Omega.{arith}
use native.Mathlib.Nat.{suc-mod, mod-eq_of_lt, mod_self, mod-lt, mod-le, mul-zero, zero-mod, mul-le-mul_right, div-lt_iff_lt-mul, div-add-mod'}
use native.Mathlib.Numerals.{add-one}
use lib.ListN.{length, get_or}
use lib.Dec.{ltb}
use borrow.Author.Tests.{ltb-true, ltb-false, leb-true, lt-ltb, le-leb}
use mathlib.Core.Path.{◌≡◌, refl, sym, ◌∙◌, ap}
use mathlib.Core.Bool.{Bool, true, false, not, ◌&&◌}
use Rattle.std.specs.Prelude.{Option, None, Some}
use mathlib.Core.Logic.{◌⊎◌, inl, inr}
use mathlib.Core.List.Memᴰ
use mathlib.Core.List.{List, [], ◌∷◌}
use Rattle.answers.proofs.Bools.{clash, and_both, both_and}
use Rattle.rules.specs.declared.Direction.{Direction}
use Rattle.rules.specs.declared.Direction.TheVariants.{North as north, East as east, South as south, West as west}
use Rattle.rules.specs.declared.Cell.{Cell}
use Rattle.rules.specs.declared.Cell.TheVariants.{Open, Clue as Clued, Shaded}
use Rattle.rules.specs.declared.Grid.{Grid}
use Rattle.answers.specs.Lists.{All, ◌∈◌, ApartBy}
use Rattle.rules.specs.Directions.{opposite}
use Rattle.rules.specs.Record.{Puzzle, size}
use Rattle.rules.specs.Board.{Clue, Board, when, inside, target, neighbour, open_cell, open_at, stops_before, unless_stopped, beyond, outward, line_next}
use Rattle.rules.specs.Board.{line, clue_in, clues_from, board}

-- where a neighbour in direction d lies in the numbering of the cells
abbrev pub Ahead : Direction → ℕ → ℕ → Type 0
Ahead north x y = y < x
Ahead east x y = y ≡ suc x
Ahead south x y = x < y
Ahead west x y = x ≡ suc y

-- a step stays inside; opposite directions lead back; distinct ones to distinct cells; east is the next cell, north and west have lower numbers
pub record Wired (size : ℕ) (next : Direction → ℕ → Option ℕ) : Type 0 where
  pub inside : (d : Direction) (x y : ℕ) → next d x ≡ Some y → (x < size) × (y < size)
  pub back : (d : Direction) (x y : ℕ) → next d x ≡ Some y → next (opposite d) y ≡ Some x
  pub apart : (d e : Direction) (x y : ℕ) → next d x ≡ Some y → next e x ≡ Some y → d ≡ e
  pub ahead : (d : Direction) (x y : ℕ) → next d x ≡ Some y → Ahead d x y

pub record Laws (b : Board) : Type 0 where
  pub wired : Wired b.size b.next
  -- an open cell, a clue and the cells of its line are on the board; no two clues in one cell
  pub open_stays : (x : ℕ) → b.is_open x ≡ true → x < b.size
  pub clues_apart : ApartBy (λ (c : Clue). c.cell) b.clues
  pub clue_stays : All (λ (c : Clue). (c.cell < b.size) × All (λ y. y < b.size) c.line) b.clues

-- a grid has as many cells as its sides say
abbrev pub Filled : Puzzle → Type 0
Filled p = length p.cells ≡ size p.grid

pub when_some : (p : Bool) (t y : ℕ) → when p t ≡ Some y → (p ≡ true) × (t ≡ y)
when_some true t y e = (refl, cc)
when_some false t y e = let z : ◌≡◌ {A = ℕ} 0 1 = cc in absurd (omega arith)

pub when_true : (p : Bool) (t y : ℕ) → p ≡ true → t ≡ y → when p t ≡ Some y
when_true p t y h e = rw (h, e)

open_below : (cs : List Cell) (x : ℕ) → open_at cs x ≡ true → x < length cs
open_below [] x e = clash e refl
open_below (c ∷ cs) zero e = omega arith
open_below (c ∷ cs) (suc x) e = let h : x < length cs = open_below cs x e in omega arith

-- the column one further, where there is one
column_on : (x c : ℕ) → x % c + 1 < c → (x + 1) % c ≡ x % c + 1
column_on x c h = rw (add-one x, suc-mod x c) (mod-eq_of_lt (omega arith) ∙ sym (add-one (x % c)))

-- the column one back
column_back : (x c : ℕ) → 0 < c → 0 < suc x % c → x % c + 1 < c
column_back x c p h = by (ltb (x % c + 1) c) refl
  where
    by : (t : Bool) → ltb (x % c + 1) c ≡ t → x % c + 1 < c
    by true e = ltb-true _ _ e
    by false e =
        let a : c ≤ x % c + 1 = ltb-false _ _ e in
        let l : x % c < c = mod-lt x p in
        let s : suc (x % c) ≡ c = omega arith in
        let z : suc x % c ≡ 0 = suc-mod x c ∙ ap (λ k. k % c) s ∙ mod_self c in
        absurd (omega arith)

module _ (g : Grid) where
  columns_positive : (x : ℕ) → x < size g → 0 < g.columns
  columns_positive x h = by g.columns refl
    where
      by : (c : ℕ) → g.columns ≡ c → 0 < g.columns
      by zero e = let z : size g ≡ 0 = ap (λ k. g.rows * k) e ∙ mul-zero g.rows in absurd (omega arith)
      by (suc c) e = omega arith

  -- what it is to have a neighbour, for any direction
  pub record Has (d : Direction) (x y : ℕ) : Type 0 where
    pub within : x < size g
    pub there : inside g d x ≡ true
    pub is : target g d x ≡ y

  pub has : (d : Direction) (x y : ℕ) → neighbour g d x ≡ Some y → Has d x y
  has d x y e = let w = when_some (ltb x (size g) && inside g d x) (target g d x) y e in
      let t = and_both (ltb x (size g)) (inside g d x) w.0 in
      record { within = ltb-true _ _ t.0; there = t.1; is = w.1 }

  pub has_of : (d : Direction) (x y : ℕ) → Has d x y → neighbour g d x ≡ Some y
  has_of d x y h = when_true (ltb x (size g) && inside g d x) (target g d x) y (both_and _ _ (lt-ltb _ _ h.within) h.there) h.is

  back_inside : (d : Direction) (x : ℕ) → x < size g → inside g d x ≡ true → inside g (opposite d) (target g d x) ≡ true
  back_inside north x h e =
      let a : g.columns ≤ x = leb-true _ _ e in
      let r : x - g.columns + g.columns < size g = omega arith in
      lt-ltb _ _ r
  back_inside east x h e =
      let a : x % g.columns + 1 < g.columns = ltb-true _ _ e in
      let r : 0 < (x + 1) % g.columns = rw (column_on x g.columns a) (omega arith) in
      lt-ltb _ _ r
  back_inside south x h e = let r : g.columns ≤ x + g.columns = omega arith in le-leb _ _ r
  back_inside west x h e = by x h (ltb-true 0 (x % g.columns) e)
    where
      by : (x : ℕ) → x < size g → 0 < x % g.columns → ltb ((x - 1) % g.columns + 1) g.columns ≡ true
      by zero h a = let z : 0 % g.columns ≡ 0 = zero-mod g.columns in absurd (omega arith)
      by (suc x) h a =
          let e : suc x - 1 ≡ x = omega arith in
          rw e (lt-ltb _ _ (column_back x g.columns (columns_positive (suc x) h) a))

  back_target : (d : Direction) (x : ℕ) → inside g d x ≡ true → target g (opposite d) (target g d x) ≡ x
  back_target north x e = let a : g.columns ≤ x = leb-true _ _ e in omega arith
  back_target east x e = omega arith
  back_target south x e = omega arith
  back_target west x e = by x (ltb-true 0 (x % g.columns) e)
    where
      by : (x : ℕ) → 0 < x % g.columns → x - 1 + 1 ≡ x
      by zero a = let z : 0 % g.columns ≡ 0 = zero-mod g.columns in absurd (omega arith)
      by (suc x) a = omega arith

  target_stays : (d : Direction) (x : ℕ) → x < size g → inside g d x ≡ true → target g d x < size g
  target_stays north x h e = omega arith
  target_stays east x h e =
      let a : x % g.columns + 1 < g.columns = ltb-true _ _ e in
      let c : 0 < g.columns = omega arith in
      let q : x / g.columns < g.rows = (div-lt_iff_lt-mul c).1 h in
      let m : suc (x / g.columns) * g.columns ≤ size g = mul-le-mul_right g.columns q in
      let w : x / g.columns * g.columns + x % g.columns ≡ x = div-add-mod' x g.columns in
      omega arith
  target_stays south x h e = ltb-true _ _ e
  target_stays west x h e = omega arith

  -- where the neighbour lies, as an equation of numbers
  pub Leads : Direction → ℕ → ℕ → Type 0
  Leads north x y = (y + g.columns ≡ x) × (0 < g.columns)
  Leads east x y = (y ≡ x + 1) × (1 < g.columns)
  Leads south x y = (y ≡ x + g.columns) × (0 < g.columns)
  Leads west x y = (y + 1 ≡ x) × (1 < g.columns)

  pub leads : (d : Direction) (x y : ℕ) → Has d x y → Leads d x y
  unfolding Leads
  leads d x y h = by d h.there h.is
    where
      c : 0 < g.columns
      c = columns_positive x h.within

      m : x % g.columns < g.columns
      m = mod-lt x c

      by : (d : Direction) → inside g d x ≡ true → target g d x ≡ y → Leads d x y
      by north i t = let a : g.columns ≤ x = leb-true _ _ i in (omega arith, c)
      by east i t = let a : x % g.columns + 1 < g.columns = ltb-true _ _ i in (sym t, omega arith)
      by south i t = (sym t, c)
      by west i t = let a : 0 < x % g.columns = ltb-true _ _ i in let l : x % g.columns ≤ x = mod-le x g.columns in (omega (arith, t), omega (arith, m))

  differ : (d e : Direction) (x y : ℕ) → Leads d x y → Leads e x y → d ≡ e
  unfolding Leads
  differ north north x y h k = refl
  differ north east x y h k = absurd (omega arith)
  differ north south x y h k = absurd (omega arith)
  differ north west x y h k = absurd (omega arith)
  differ east north x y h k = absurd (omega arith)
  differ east east x y h k = refl
  differ east south x y h k = absurd (omega arith)
  differ east west x y h k = absurd (omega arith)
  differ south north x y h k = absurd (omega arith)
  differ south east x y h k = absurd (omega arith)
  differ south south x y h k = refl
  differ south west x y h k = absurd (omega arith)
  differ west north x y h k = absurd (omega arith)
  differ west east x y h k = absurd (omega arith)
  differ west south x y h k = absurd (omega arith)
  differ west west x y h k = refl

  ahead : (d : Direction) (x y : ℕ) → Leads d x y → Ahead d x y
  unfolding Leads
  ahead north x y h = omega arith
  ahead east x y h = omega arith
  ahead south x y h = omega arith
  ahead west x y h = omega arith

  goes_back : (d : Direction) (x y : ℕ) → Has d x y → Has (opposite d) y x
  goes_back d x y h =
      rw (← h.is) (record {
        within = target_stays d x h.within h.there;
        there = back_inside d x h.within h.there;
        is = back_target d x
            h.there;
      })

  -- each step of a line leads nearer to the end of the numbers
  pub far : Direction → ℕ → ℕ
  far north x = x
  far east x = size g - x
  far south x = size g - x
  far west x = x

  pub nearer : (d : Direction) (x y : ℕ) → Has d x y → far d y < far d x
  unfolding far
  nearer d x y h = by d (ahead d x y (leads d x y h)) (goes_back d x y h).within
    where
      by : (d : Direction) → Ahead d x y → y < size g → far d y < far d x
      by north a l = a
      by east a l = omega arith
      by south a l = omega arith
      by west a l = omega arith

  pub not_far : (d : Direction) (x : ℕ) → x < size g → far d x ≤ size g
  unfolding far
  not_far north x h = omega arith
  not_far east x h = omega arith
  not_far south x h = omega arith
  not_far west x h = omega arith

  -- a line whose next cells are neighbours in its direction stays inside, and ends where there is no next cell
  module _ (d : Direction) (next : ℕ → Option ℕ) (goes : (x y : ℕ) → next x ≡ Some y → neighbour g d x ≡ Some y) where
    outward_stays : (fuel x : ℕ) (seen : List ℕ) → All (λ y. y < size g) seen → All (λ y. y < size g) (outward next fuel x seen)
    unfolding outward
    outward_stays zero x seen k = k
    outward_stays (suc fuel) x seen k = by (next x) refl (λ y l. outward_stays fuel y (y ∷ seen) (l, k))
      where
        by : (o : Option ℕ) → next x ≡ o → ((y : ℕ) → y < size g → All (λ y. y < size g) (outward next fuel y (y ∷ seen)))
            → All (λ y. y < size g) (beyond o seen (λ y. outward next fuel y (y ∷ seen)))
        by None e go = k
        by (Some y) e go = go y (goes_back d x y (has d x y (goes x y e))).within

    outward-ends : (fuel x : ℕ) (seen : List ℕ) (from : ℕ) → get_or seen 0 from ≡ x → far d x ≤ fuel
        → next (get_or (outward next fuel x seen) 0 from) ≡ None
    unfolding outward
    outward-ends zero x seen from e h = rw e (by (next x) refl)
      where
        by : (o : Option ℕ) → next x ≡ o → next x ≡ None
        by None q = q
        by (Some y) q = let n : far d y < far d x = nearer d x y (has d x y (goes x y q)) in absurd (omega arith)
    outward-ends (suc fuel) x seen from e h = by (next x) refl (λ y. outward-ends fuel y (y ∷ seen) from refl)
      where
        by : (o : Option ℕ) → next x ≡ o → ((y : ℕ) → far d y ≤ fuel → next (get_or (outward next fuel y (y ∷ seen)) 0 from) ≡ None)
            → next (get_or (beyond o seen (λ y. outward next fuel y (y ∷ seen))) 0 from) ≡ None
        by None q go = rw e q
        by (Some y) q go = let n : far d y < far d x = nearer d x y (has d x y (goes x y q)) in go y (omega arith)

  pub wired : Wired (size g) (neighbour g)
  wired = record {
    inside = λ d x y e. ((has d x y e).within, (goes_back d x y (has d x y e)).within);
    back = λ d x y e. has_of (opposite d) y x (goes_back d x y (has d x y e));
    apart = λ d e x y p q. differ d e x y (leads d x y (has d x y p)) (leads e x y (has e x y q));
    ahead = λ d x y e. ahead d x y (leads d x y (has d x y e));
  }

-- the clues stand in cell order; so no two in one cell
abbrev pub InOrder : List Clue → Type 0
InOrder [] = Unit
InOrder (c ∷ cs) = ((k : Clue) → k ∈ cs → c.cell < k.cell) × InOrder cs

order_apart : (cs : List Clue) → InOrder cs → ApartBy (λ (c : Clue). c.cell) cs
order_apart [] h = tt
order_apart (c ∷ cs) (h, t) = (λ k m e. let l = h k m in omega arith, order_apart cs t)

-- a cell of the list tells whether it is open
pub open-at : (cs : List Cell) (x : ℕ) → x < length cs → open_cell (get_or cs x Open) ≡ open_at cs x
open-at [] x h = absurd (omega arith)
open-at (c ∷ cs) zero h = refl
open-at (c ∷ cs) (suc x) h = open-at cs x (omega arith)

module _ (p : Puzzle) where
  -- the clues from x on lie at x or after it
  clue_after : (cs : List Cell) (x : ℕ) (c : Clue) → c ∈ clues_from p x cs → x ≤ c.cell
  clue_after [] x c m = absurd (Memᴰ.not-nil m)
  clue_after (Open ∷ cs) x c m = let h : suc x ≤ c.cell = clue_after cs (suc x) c m in omega arith
  clue_after (Shaded ∷ cs) x c m = let h : suc x ≤ c.cell = clue_after cs (suc x) c m in omega arith
  clue_after (Clued d n ∷ cs) x c m = by (Memᴰ.cases_cons m) (clue_after cs (suc x) c)
    where
      by : (c ≡ clue_in p x d n) ⊎ (c ∈ clues_from p (suc x) cs) → (c ∈ clues_from p (suc x) cs → suc x ≤ c.cell)
          → x ≤ c.cell
      by (inl e) go = let h : c.cell ≡ x = ap (λ (k : Clue). k.cell) e in omega arith
      by (inr k) go = let h : suc x ≤ c.cell = go k in omega arith

  clue_order : (cs : List Cell) (x : ℕ) → InOrder (clues_from p x cs)
  clue_order [] x = tt
  clue_order (Open ∷ cs) x = clue_order cs (suc x)
  clue_order (Shaded ∷ cs) x = clue_order cs (suc x)
  clue_order (Clued d n ∷ cs) x = (clue_after cs (suc x), clue_order cs (suc x))

  pub clues_in_order : InOrder (board p).clues
  clues_in_order = clue_order p.cells 0

  -- a line goes on to a neighbour
  pub line_goes : (d : Direction) (x y : ℕ) → line_next p d x ≡ Some y → neighbour p.grid d x ≡ Some y
  line_goes d x y = by (neighbour p.grid d x)
    where
      by : (o : Option ℕ) → unless_stopped (stops_before p) o ≡ Some y → o ≡ Some y
      by None e = e
      by (Some z) e = ap Some (when_some (not (stops_before p z)) z y e).1

  -- where it goes on, by whether it stops before the neighbour
  pub next_by : (d : Direction) (x : ℕ) {y : ℕ} {t : Bool} → neighbour p.grid d x ≡ Some y → stops_before p y ≡ t → line_next p d x ≡ when (not t) y
  next_by d x {y} e h = ap (unless_stopped (stops_before p)) e ∙ ap (λ t. when (not t) y) h

  pub line-ends : (d : Direction) (x : ℕ) → x < size p.grid → line_next p d (get_or (line p d x) 0 x) ≡ None
  line-ends d x h = outward-ends p.grid d (line_next p d) (line_goes d) (size p.grid) x [] x refl (not_far p.grid d x h)

  clue_stays : (cs : List Cell) (x : ℕ) → x + length cs ≤ size p.grid
      → All (λ (c : Clue). (c.cell < size p.grid) × All (λ y. y < size p.grid) c.line) (clues_from p x cs)
  clue_stays [] x h = tt
  clue_stays (Open ∷ cs) x h = clue_stays cs (suc x) (omega arith)
  clue_stays (Shaded ∷ cs) x h = clue_stays cs (suc x) (omega arith)
  clue_stays (Clued d n ∷ cs) x h =
      ((omega arith, outward_stays p.grid d (line_next p d) (line_goes d) (size p.grid) x [] tt), clue_stays cs (suc x) (omega arith))

  pub laws : Filled p → Laws (board p)
  laws w = record {
    wired = wired p.grid;
    open_stays = λ x e. rw w at (open_below p.cells x e);
    clues_apart = order_apart (board p).clues clues_in_order;
    clue_stays = clue_stays p.cells 0 (omega (arith, w));
  }
