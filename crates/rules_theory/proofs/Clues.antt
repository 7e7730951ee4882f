-- The clues of a board are those of its cells. Assumes nothing.
use Prim.Native.Nat.{ℕ, zero, suc, ◌+◌, ◌<◌}
use native.Mathlib.Omega.{arith}
use lib.ListN.{length, get_or}
use mathlib.Core.Path.{◌≡◌, refl, sym, ◌∙◌, ap, subst}
use mathlib.Core.Logic.{◌⊎◌, inl, inr}
use mathlib.Core.List.Memᴰ
use mathlib.Core.List.{List, [], ◌∷◌}
use Rattle.answers.specs.Lists.{◌∈◌}
use Rattle.rules.specs.declared.Direction.{Direction}
use Rattle.rules.specs.declared.Cell.{Cell}
use Rattle.rules.specs.declared.Cell.TheVariants.{Open, Clue as Clued, Shaded}
use Rattle.rules.specs.Record.{Puzzle}
use Rattle.rules.specs.Board.{Clue, line, clue_in, clues_from, board}

module _ (p : Puzzle) where
  -- k is the clue of a cell
  pub record ClueAt (k : Clue) : Type 0 where
    pub direction : Direction
    pub within : k.cell < length p.cells
    pub read : get_or p.cells k.cell Open ≡ Clued direction k.number
    pub along : k.line ≡ line p direction k.cell

  -- the same among the cells from y on
  record ClueFrom (cs : List Cell) (y : ℕ) (k : Clue) : Type 0 where
    index : ℕ
    place : k.cell ≡ y + index
    direction : Direction
    within : index < length cs
    read : get_or cs index Open ≡ Clued direction k.number
    along : k.line ≡ line p direction k.cell

  later : {cs : List Cell} {y : ℕ} {k : Clue} (c : Cell) → ClueFrom cs (suc y) k → ClueFrom (c ∷ cs) y k
  later c h =
      let i = h.place in
      let l = h.within in
      record { index = suc h.index; place = omega arith; direction = h.direction; within = omega arith; read = h.read; along = h.along }

  of_from : (cs : List Cell) (y : ℕ) (k : Clue) → k ∈ clues_from p y cs → ClueFrom cs y k
  of_from [] y k m = absurd (Memᴰ.not-nil m)
  of_from (Open ∷ cs) y k m = later Open (of_from cs (suc y) k m)
  of_from (Shaded ∷ cs) y k m = later Shaded (of_from cs (suc y) k m)
  of_from (Clued d n ∷ cs) y k m = by (Memᴰ.cases_cons m) (of_from cs (suc y) k)
    where
      by : (k ≡ clue_in p y d n) ⊎ (k ∈ clues_from p (suc y) cs) → (k ∈ clues_from p (suc y) cs → ClueFrom cs (suc y) k) → ClueFrom (Clued d n ∷ cs) y k
      by (inl e) go =
          let cell = ap (λ (k : Clue). k.cell) e in
          record {
            index = 0;
            place = omega arith;
            direction = d;
            within = omega arith;
            read = ap (λ (k : Clue). Clued d k.number) (sym e);
            along = ap (λ (k : Clue). k.line) e ∙ ap (line p d) (sym cell);
          }
      by (inr r) go = later (Clued d n) (go r)

  in_from : (cs : List Cell) (y j : ℕ) {d : Direction} {n : ℕ} → j < length cs → get_or cs j Open ≡ Clued d n → clue_in p (y + j) d n ∈ clues_from p y cs
  in_from [] y j h e = absurd (omega arith)
  in_from (c ∷ cs) y zero {d} {n} h e = let q : y + 0 ≡ y = omega arith in rw (q, e) (Memᴰ.head refl)
  in_from (c ∷ cs) y (suc j) {d} {n} h e =
      let q : suc y + j ≡ y + suc j = omega arith in
      subst (λ x. clue_in p x d n ∈ clues_from p y (c ∷ cs)) q (by c (in_from cs (suc y) j (omega arith) e))
    where
      by : (c : Cell) → clue_in p (suc y + j) d n ∈ clues_from p (suc y) cs → clue_in p (suc y + j) d n ∈ clues_from p y (c ∷ cs)
      by Open m = m
      by Shaded m = m
      by (Clued b m) k = Memᴰ.tail k

  pub of_clues : (k : Clue) → k ∈ (board p).clues → ClueAt k
  of_clues k m =
      let h = of_from p.cells 0 k m in
      let e : h.index ≡ k.cell = (let q = h.place in omega arith) in
      let l = h.within in
      record { direction = h.direction; within = omega arith; read = ap (λ x. get_or p.cells x Open) (sym e) ∙ h.read; along = h.along }

  pub in_clues : (k : Clue) → ClueAt k → k ∈ (board p).clues
  in_clues k h =
      let e : 0 + k.cell ≡ k.cell = omega arith in
      let is : clue_in p (0 + k.cell) h.direction k.number ≡ k =
      ap (λ x. clue_in p x h.direction k.number) e ∙ (λ i. record { cell = k.cell; number = k.number; line = sym h.along i }) in
      subst (λ k. k ∈ (board p).clues) is (in_from p.cells 0 k.cell h.within h.read)
