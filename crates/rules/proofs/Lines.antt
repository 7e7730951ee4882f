-- The line of a clue in cell x, cell by cell from its far end towards the clue: after j cells comes `get_or line j x`, x itself after the whole line.
-- Assumes nothing.
use Prim.Native.Nat.{ℕ, zero, suc, ◌<◌}
use native.Mathlib.Omega.{arith}
use lib.ListN.{length, get_or}
use mathlib.Core.Path.{◌≡◌, refl, sym, ◌∙◌, ap}
use Rattle.std.specs.Prelude.{Option, None, Some, unwrap_or}
use mathlib.Core.List.{List, [], ◌∷◌}
use Rattle.rules.specs.declared.Direction.{Direction}
use Rattle.rules.specs.Directions.{opposite}
use Rattle.rules.specs.Record.{Puzzle, size}
use Rattle.rules.specs.Board.{neighbour, beyond, outward, line_next, line}
use Rattle.rules.specs.Walk.{go}
use Rattle.rules.proofs.Boards.{wired, line_goes}

module _ (next : ℕ → Option ℕ) (x : ℕ) where
  -- each cell of the list comes next to the one after it, the last one to x
  abbrev Chain : List ℕ → Type 0
  Chain [] = Unit
  Chain (y ∷ ys) = (next (get_or ys 0 x) ≡ Some y) × Chain ys

  chain_outward : (fuel y : ℕ) (seen : List ℕ) → y ≡ get_or seen 0 x → Chain seen → Chain (outward next fuel y seen)
  unfolding outward
  chain_outward zero y seen e k = k
  chain_outward (suc fuel) y seen e k = by (next y) refl (λ z q. chain_outward fuel z (z ∷ seen) refl (ap next (sym e) ∙ q, k))
    where
      by : (o : Option ℕ) → next y ≡ o → ((z : ℕ) → next y ≡ Some z → Chain (outward next fuel z (z ∷ seen)))
          → Chain (beyond o seen (λ z. outward next fuel z (z ∷ seen)))
      by None q more = k
      by (Some z) q more = more z q

  chain_at : (ys : List ℕ) → Chain ys → (j : ℕ) → j < length ys → next (get_or ys (suc j) x) ≡ Some (get_or ys j x)
  chain_at [] k j h = absurd (omega arith)
  chain_at (y ∷ ys) k zero h = k.0
  chain_at (y ∷ ys) k (suc j) h = chain_at ys k.1 j (omega arith)

module _ (p : Puzzle) (d : Direction) (x : ℕ) where
  module _ {j : ℕ} (h : j < length (line p d x)) where
    -- each cell is the neighbour of the one after it, the last one the clue's
    pub outward-next : neighbour p.grid d (get_or (line p d x) (suc j) x) ≡ Some (get_or (line p d x) j x)
    outward-next =
        let next = line_next p d in
        line_goes p d _ _ (chain_at next x (line p d x) (chain_outward next x (size p.grid) x [] refl tt) j h)

    -- the next one lies towards the clue
    pub line-next : neighbour p.grid (opposite d) (get_or (line p d x) j x) ≡ Some (get_or (line p d x) (suc j) x)
    line-next = (wired p.grid).back d (get_or (line p d x) (suc j) x) (get_or (line p d x) j x) outward-next

    pub line-inside : get_or (line p d x) j x < size p.grid
    line-inside = ((wired p.grid).inside d (get_or (line p d x) (suc j) x) (get_or (line p d x) j x) outward-next).1

    -- a loop goes on there by the neighbour in the opposite direction
    pub line-go : {y z : ℕ} {back : Direction} → y ≡ get_or (line p d x) j x → back ≡ opposite d → z ≡ go (neighbour p.grid) back y
        → z ≡ get_or (line p d x) (suc j) x
    line-go e o q = q ∙ (λ t. go (neighbour p.grid) (o t) (e t)) ∙ ap (λ n. unwrap_or n (get_or (line p d x) j x)) line-next
