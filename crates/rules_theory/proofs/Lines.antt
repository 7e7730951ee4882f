-- Where the lines of each kind end, and what is on them. Assumes nothing.
use Prim.Native.Nat.{ℕ, zero, suc, ◌≤◌, ◌<◌}
use native.Mathlib.Omega.{arith}
use lib.ListN.{length, get_or}
use mathlib.Core.Path.{◌≡◌, refl, sym, ◌∙◌, ap, subst}
use mathlib.Core.Bool.{Bool, true, false, not, ◌&&◌}
use mathlib.Core.Logic.{◌⊎◌, inl, inr}
use Rattle.std.specs.Prelude.{Option, None, Some}
use Rattle.std.proofs.lemmas.Option.{same_Some}
use Rattle.answers.proofs.Options.{some-none}
use mathlib.Core.List.Memᴰ
use mathlib.Core.List.{List, [], ◌∷◌, ◌++◌, append_assoc}
use Rattle.answers.specs.Lists.{All, ◌∈◌}
use Rattle.answers.proofs.Bools.{clash, and_both}
use Rattle.answers.proofs.Elements.{all_at}
use Rattle.rules.specs.declared.Direction.{Direction}
use Rattle.rules.specs.declared.Cell.{Cell}
use Rattle.rules.specs.declared.Cell.TheVariants.{Open, Clue, Shaded}
use Rattle.rules.specs.Record.{Puzzle, size}
use Rattle.rules.specs.Board.{when, neighbour, clue_cell, stops_before_clues, stops_before, unless_stopped, beyond, outward, line_next, line}
use Rattle.rules.proofs.Boards.{next_by, line-ends}
use Rattle.rules.proofs.Lines.{outward-next}
use Rattle.rules_theory.specs.Lines.{to_edge, HasClue, BeforeFirst}

-- 1. The cells met on the way out, with some that stop it

-- those that were met before come last
outward_more : (next : ℕ → Option ℕ) (fuel x : ℕ) (seen : List ℕ) → (more : List ℕ) × (outward next fuel x seen ≡ more ++ seen)
unfolding outward
outward_more next zero x seen = ([], refl)
outward_more next (suc fuel) x seen = by (next x) (λ y. outward_more next fuel y (y ∷ seen))
  where
    by : (o : Option ℕ) → ((y : ℕ) → (more : List ℕ) × (outward next fuel y (y ∷ seen) ≡ more ++ (y ∷ seen)))
        → (more : List ℕ) × (beyond o seen (λ y. outward next fuel y (y ∷ seen)) ≡ more ++ seen)
    by None go = ([], refl)
    by (Some y) go = let (more, e) = go y in (more ++ (y ∷ []), e ∙ sym (append_assoc more (y ∷ []) seen))

module _ (stops : ℕ → Bool) (next : ℕ → Option ℕ) where
  abbrev stopped : ℕ → Option ℕ
  stopped x = unless_stopped stops (next x)

  abbrev Before : List ℕ → List ℕ → Type 0
  Before = BeforeFirst (λ y. stops y ≡ true)

  -- with nothing beyond it, or beyond y
  all_before : {seen : List ℕ} → All (λ y. stops y ≡ false) seen → Before seen seen
  all_before k = record { rest = []; parts = refl; before = λ y m e. clash e (all_at (λ y. stops y ≡ false) k m); first = inl refl }

  stops_there : {y : ℕ} {seen : List ℕ} (far : List ℕ) → All (λ y. stops y ≡ false) seen → stops y ≡ true → Before (far ++ (y ∷ seen)) seen
  stops_there {y} {seen} far k e =
      record {
        rest = far ++ (y ∷ []);
        parts = sym (append_assoc far (y ∷ []) seen);
        before = (all_before k).before;
        first = inr (far, y, refl, e);
      }

  outward_before : (fuel x : ℕ) (seen : List ℕ) → All (λ y. stops y ≡ false) seen → Before (outward next fuel x seen) (outward stopped fuel x seen)
  unfolding outward
  outward_before zero x seen k = all_before k
  outward_before (suc fuel) x seen k = by (next x) (λ y. outward_more next fuel y (y ∷ seen)) (λ y e. outward_before fuel y (y ∷ seen) (e, k))
    where
      by : (o : Option ℕ) → ((y : ℕ) → (more : List ℕ) × (outward next fuel y (y ∷ seen) ≡ more ++ (y ∷ seen)))
          → ((y : ℕ) → stops y ≡ false → Before (outward next fuel y (y ∷ seen)) (outward stopped fuel y (y ∷ seen)))
          → Before (beyond o seen (λ y. outward next fuel y (y ∷ seen))) (beyond (unless_stopped stops o) seen (λ y. outward stopped fuel y (y ∷ seen)))
      by None more go = all_before k
      by (Some y) more go = at (stops y) refl
        where
          at : (t : Bool) → stops y ≡ t
              → Before (outward next fuel y (y ∷ seen)) (beyond (when (not t) y) seen (λ y. outward stopped fuel y (y ∷ seen)))
          at true e = let (far, q) = more y in subst (λ l. Before l seen) (sym q) (stops_there far k e)
          at false e = go y e

-- 2. The line of a grid

-- a clue cell, by its test
clue_is : (c : Cell) → clue_cell c ≡ true → (d : Direction) × (n : ℕ) × (c ≡ Clue d n)
clue_is Open e = clash e refl
clue_is (Clue d n) e = (d, n, refl)
clue_is Shaded e = clash e refl

-- an element of a list
element : (l : List ℕ) (i x : ℕ) → i < length l → get_or l i x ∈ l
element [] i x h = absurd (omega arith)
element (y ∷ l) zero x h = Memᴰ.head refl
element (y ∷ l) (suc i) x h = Memᴰ.tail (element l i x (omega arith))

module _ (p : Puzzle) where
  -- what stops a line is a clue cell, in kind 3
  stopped_by : (y : ℕ) → stops_before p y ≡ true → (stops_before_clues p.grid.kind ≡ true) × HasClue p y
  stopped_by y e = let (k, c) = and_both (stops_before_clues p.grid.kind) _ e in (k, clue_is (get_or p.cells y Open) c)

  module _ (k : stops_before_clues p.grid.kind ≡ false) where
    next_to_edge : (d : Direction) (x : ℕ) → line_next p d x ≡ neighbour p.grid d x
    next_to_edge d x =
        (λ i. unless_stopped (λ y. k i && clue_cell (get_or p.cells y Open)) (neighbour p.grid d x)) ∙ by (neighbour p.grid d x)
      where
        by : (o : Option ℕ) → unless_stopped (λ y. false) o ≡ o
        by None = refl
        by (Some y) = refl

    pub line_to_edge : (d : Direction) (x : ℕ) → line p d x ≡ to_edge p.grid d x
    line_to_edge d x = λ i. outward (λ y. next_to_edge d y i) (size p.grid) x []

  module _ (k : stops_before_clues p.grid.kind ≡ true) where
    clue_stops : (y : ℕ) → HasClue p y → stops_before p y ≡ true
    clue_stops y c = ap (λ t. t && clue_cell (get_or p.cells y Open)) k ∙ ap clue_cell c.2

    pub line_before_clue : (d : Direction) (x : ℕ) → BeforeFirst (HasClue p) (to_edge p.grid d x) (line p d x)
    line_before_clue d x =
        let b = outward_before (stops_before p) (neighbour p.grid d) (size p.grid) x [] tt in
        record { rest = b.rest; parts = b.parts; before = λ y m c. b.before y m (clue_stops y c); first = by b.first }
      where
        by : {cells : List ℕ} → (cells ≡ []) ⊎ ((far : List ℕ) × (y : ℕ) × (cells ≡ far ++ (y ∷ [])) × (stops_before p y ≡ true))
            → (cells ≡ []) ⊎ ((far : List ℕ) × (y : ℕ) × (cells ≡ far ++ (y ∷ [])) × HasClue p y)
        by (inl e) = inl e
        by (inr (far, y, e, s)) = inr (far, y, e, (stopped_by y s).1)

    -- next to a clue a line has no cell
    pub line_empty : (d : Direction) (x y : ℕ) → neighbour p.grid d x ≡ Some y → HasClue p y → line p d x ≡ []
    unfolding outward
    line_empty d x y e c = by (size p.grid)
      where
        by : (n : ℕ) → outward (line_next p d) n x [] ≡ []
        by zero = refl
        by (suc n) = ap (λ o. beyond o [] (λ z. outward (line_next p d) n z (z ∷ []))) (next_by p d x e (clue_stops y c))

  -- beyond the far end is the edge, or, in kind 3, a clue cell
  pub beyond_far_end : (d : Direction) (x : ℕ) → x < size p.grid → (y : ℕ) → neighbour p.grid d (get_or (line p d x) 0 x) ≡ Some y
      → (stops_before_clues p.grid.kind ≡ true) × HasClue p y
  beyond_far_end d x h y e = by (stops_before p y) refl
    where
      by : (t : Bool) → stops_before p y ≡ t → (stops_before_clues p.grid.kind ≡ true) × HasClue p y
      by true s = stopped_by y s
      by false s = absurd (some-none y (sym (next_by p d (get_or (line p d x) 0 x) e s) ∙ line-ends p d x h))

  -- from a cell of the line, or from the clue's own, it goes on to any neighbour that is no clue
  pub goes_on_past : (d : Direction) (x : ℕ) → x < size p.grid → (j y : ℕ) → j ≤ length (line p d x)
      → neighbour p.grid d (get_or (line p d x) j x) ≡ Some y → (HasClue p y → ⊥) → y ∈ line p d x
  goes_on_past d x h zero y l e n = absurd (n (beyond_far_end d x h y e).1)
  goes_on_past d x h (suc j) y l e n =
      let next = outward-next p d x {j = j} (omega arith) in
      subst (λ z. z ∈ line p d x) (same_Some (get_or (line p d x) j x) y (sym next ∙ e)) (element (line p d x) j x (omega arith))
