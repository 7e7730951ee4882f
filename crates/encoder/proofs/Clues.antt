-- The clues met so far, in a loop over the cells: what `place_t` and the list of clue lines go by, and where a clue stands among them. Assumes nothing.
use Prim.Native.Nat.{ℕ, zero, suc, ◌+◌, ◌<◌}
use native.Mathlib.Omega.{arith}
use native.Mathlib.Numerals.{add-one}
use lib.ListN.{length, get_or, take}
use mathlib.Core.Path.{◌≡◌, sym, ◌∙◌, ap}
use mathlib.Core.List.{List, [], ◌∷◌, ◌++◌, append_assoc, append-nil}
use Rattle.rules.specs.declared.Direction.{Direction}
use Rattle.rules.specs.declared.Cell.{Cell}
use Rattle.rules.specs.declared.Cell.TheVariants.{Open, Clue as Clued}
use Rattle.rules.specs.Record.{Puzzle}
use Rattle.rules.specs.Board.{clue_in, clue_of, clues_from}
use Rattle.encoder.proofs.Places.{At, at_head, at_right}

module _ (p : Puzzle) where
  -- the clues of the first x cells, and one cell more
  next-from : (cs : List Cell) (y x : ℕ) → x < length cs → clues_from p y (take (suc x) cs) ≡ clues_from p y (take x cs) ++ clue_of p (y + x) (get_or cs x Open)
  next-from [] y x h = absurd (omega arith)
  next-from (c ∷ cs) y zero h = let e : y + 0 ≡ y = omega arith in append-nil (clue_of p y c) ∙ ap (λ z. clue_of p z c) (sym e)
  next-from (c ∷ cs) y (suc x) h =
      let e : suc y + x ≡ y + suc x = omega arith in
      ap (λ l. clue_of p y c ++ l) (next-from cs (suc y) x (omega arith))
      ∙ sym (append_assoc (clue_of p y c) (clues_from p (suc y) (take x cs)) (clue_of p (suc y + x) (get_or cs x Open)))
      ∙ ap (λ z. (clue_of p y c ++ clues_from p (suc y) (take x cs)) ++ clue_of p z (get_or cs x Open)) e

  pub clues_next : (x : ℕ) → x < length p.cells
      → clues_from p 0 (take (x + 1) p.cells) ≡ clues_from p 0 (take x p.cells) ++ clue_of p x (get_or p.cells x Open)
  clues_next x h =
      let e : 0 + x ≡ x = omega arith in
      rw (add-one x) (next-from p.cells 0 x h ∙ ap (λ z. clues_from p 0 (take x p.cells) ++ clue_of p z (get_or p.cells x Open)) e)

  -- a clue in cell x: those of the first x cells stand before it
  at_from : (cs : List Cell) (y x : ℕ) → x < length cs → {d : Direction} {n : ℕ} → get_or cs x Open ≡ Clued d n
      → At (clues_from p y cs) (clue_in p (y + x) d n) (clues_from p y (take x cs))
  at_from [] y x h e = absurd (omega arith)
  at_from (c ∷ cs) y zero h {d} {n} e = let z : y + 0 ≡ y = omega arith in rw (z, e) (at_head (clue_in p y d n) (clues_from p (suc y) cs))
  at_from (c ∷ cs) y (suc x) h e = let z : y + suc x ≡ suc y + x = omega arith in rw z (at_right (clue_of p y c) (at_from cs (suc y) x (omega arith) e))

  pub at_clue : (x : ℕ) → x < length p.cells → {d : Direction} {n : ℕ} → get_or p.cells x Open ≡ Clued d n
      → At (clues_from p 0 p.cells) (clue_in p x d n) (clues_from p 0 (take x p.cells))
  at_clue x h e = let z : 0 + x ≡ x = omega arith in rw z at (at_from p.cells 0 x h e)
