-- Steps on the board by the code's tests, and the way out to the end of a line. Assumes nothing.
use Prim.Native.Nat.{ℕ, zero, suc, ◌+◌, ◌%◌, ◌≤◌, ◌<◌}
use native.Mathlib.Omega.{arith}
use native.Mathlib.Nat.{mod-lt, div-add-mod'}
use native.Mathlib.Numerals.{add-one}
use lib.Dec.{ltb}
use lib.ListN.{length, get_or}
use borrow.Author.Tests.{lt-ltb}
use mathlib.Core.Path.{◌≡◌, refl, sym, ◌∙◌, ap}
use mathlib.Core.Bool.{Bool, true, false, ◌&&◌}
use Rattle.std.specs.Prelude.{Option, None, Some, unwrap_or}
use mathlib.Core.List.{List, [], ◌∷◌}
use Rattle.answers.proofs.Bools.{both_and}
use Rattle.rules.specs.declared.Direction.{Direction}
use Rattle.rules.specs.declared.Grid.{Grid}
use Rattle.rules.specs.Record.{Puzzle, size, OnBoard}
use Rattle.rules.specs.Board.{when, inside, target, neighbour, beyond, outward, line_next, line}
use Rattle.rules.specs.Walk.{go}
use Rattle.rules.proofs.Boards.{when_true, wired, far, nearer, has, not_far, line_goes}

module _ {g : Grid} {x : ℕ} (o : OnBoard g x) where
  -- a test that holds leads to the neighbour, one that fails leads nowhere
  pub leads_to : {d : Direction} (e : Direction) → d ≡ e → inside g e x ≡ true → Some (target g e x) ≡ neighbour g d x
  leads_to {d} e q h =
      sym (when_true (ltb x (size g) && inside g d x) (target g d x) _
      (both_and _ _ (lt-ltb _ _ o.inside) (ap (λ (d : Direction). inside g d x) q ∙ h)) (ap (λ (d : Direction). target g d x) q))

  pub leads_nowhere : {d : Direction} (e : Direction) → d ≡ e → inside g e x ≡ false → None ≡ neighbour g d x
  leads_nowhere {d} e q h =
      sym (ap (λ (t : Bool). when t (target g d x)) ((λ i. lt-ltb _ _ o.inside i && inside g d x) ∙ ap (λ (d : Direction). inside g d x) q ∙ h))

  pub column_small : x % g.columns < g.columns
  column_small = mod-lt x o.sides.wide

  pub not_first : (x % g.columns ≡ 0 → ⊥) → 1 ≤ x
  not_first h = omega (arith, div-add-mod' x g.columns)

  pub stays_on : (d : Direction) {y : ℕ} → Some y ≡ neighbour g d x → OnBoard g y
  stays_on d {y} e = record { sides = o.sides; inside = ((wired g).inside d x y (sym e)).1 }

-- the walk stays on the board
pub gone_on : {g : Grid} {x y : ℕ} (d : Direction) → OnBoard g x → y ≡ go (neighbour g) d x → OnBoard g y
gone_on {g} {x} {y} d o e = by (neighbour g d x) refl e
  where
    by : (p : Option ℕ) → neighbour g d x ≡ p → y ≡ unwrap_or p x → OnBoard g y
    by None q e = rw e o
    by (Some z) q e = rw e (stays_on o d (sym q))

-- on the way out along a line that leaves x: at y, after so many cells
pub record Outgoing (p : Puzzle) (d : Direction) (x y cells : ℕ) : Type 0 where
  pub inside : y < size p.grid
  pub seen : List ℕ
  pub last : y ≡ get_or seen 0 x
  pub many : cells ≡ length seen
  pub fuel : ℕ
  pub enough : far p.grid d y ≤ fuel
  pub rest : outward (line_next p d) fuel y seen ≡ line p d x
  pub bound : cells + far p.grid d y ≤ size p.grid

pub out-start : (p : Puzzle) {x : ℕ} (d : Direction) → x < size p.grid → Outgoing p d x x 0
out-start p {x} d l =
    let h = not_far p.grid d x l in
    record { inside = l; seen = []; last = refl; many = refl; fuel = size p.grid; enough = h; rest = refl; bound = omega arith }

module _ {p : Puzzle} {d : Direction} {x y cells : ℕ} (o : Outgoing p d x y cells) where
  all_seen : None ≡ line_next p d y → o.seen ≡ line p d x
  unfolding outward
  all_seen e = by o.fuel o.rest
    where
      by : (fuel : ℕ) → outward (line_next p d) fuel y o.seen ≡ line p d x → o.seen ≡ line p d x
      by zero r = r
      by (suc fuel) r = ap (λ (n : Option ℕ). beyond n o.seen (λ z. outward (line_next p d) fuel z (z ∷ o.seen))) e ∙ r

  pub out_end : None ≡ line_next p d y → y ≡ get_or (line p d x) 0 x
  out_end e = o.last ∙ ap (λ (l : List ℕ). get_or l 0 x) (all_seen e)

  pub out_count : None ≡ line_next p d y → cells ≡ length (line p d x)
  out_count e = o.many ∙ ap length (all_seen e)

  module _ {z : ℕ} (e : Some z ≡ line_next p d y) where
    pub out_less : far p.grid d z < far p.grid d y
    out_less = nearer p.grid d y z (has p.grid d y z (line_goes p d y z (sym e)))

    pub out_on : Outgoing p d x z (cells + 1)
    unfolding outward
    out_on = by o.fuel o.enough o.rest
      where
        by : (fuel : ℕ) → far p.grid d y ≤ fuel → outward (line_next p d) fuel y o.seen ≡ line p d x → Outgoing p d x z (cells + 1)
        by zero h r = let l = out_less in absurd (omega arith)
        by (suc fuel) h r =
            let l = out_less in
            let b = o.bound in
            record {
              inside = ((wired p.grid).inside d y z (line_goes p d y z (sym e))).1;
              seen = z ∷ o.seen;
              last = refl;
              many = add-one cells ∙ ap suc o.many;
              fuel = fuel;
              enough = omega arith;
              rest = ap (λ (n : Option ℕ). beyond n o.seen (λ z. outward (line_next p d) fuel z (z ∷ o.seen))) e ∙ r;
              bound = omega arith;
            }
