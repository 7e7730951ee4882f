-- The loop along a line that writes. Assumes nothing.
use Rattle.std.proofs.Common.{ℕ, zero, suc, ◌+◌, ◌<◌, ◌≤◌, ◌≡◌, sym, ◌∙◌, ap, subst, [], ◌∷◌, ◌++◌, length, get_or, drop, map, add-one, arith}
use lib.IntN.{ℤ}
use lib.Seq.{drop-cons}
use Rattle.answers.specs.declared.Writer.{Writer}
use Rattle.answers.specs.Writer.{Puts}
use Rattle.answers.specs.Lists.{All, joined}
use Rattle.answers.proofs.Elements.{all_left, all_right}
use Rattle.answers.proofs.Putting.{Putting, puts_recast}
use Rattle.rules.specs.declared.Direction.{Direction}
use Rattle.rules.specs.Directions.{opposite}
use Rattle.rules.specs.Record.{Puzzle, size}
use Rattle.rules.specs.Board.{neighbour, line}
use Rattle.rules.specs.Walk.{go}
use Rattle.rules.proofs.Lines.{line-inside, line-go}
use Rattle.cnf.specs.Literals.{most_variables}
use Rattle.encoder.specs.Bounds.{NotBeyond}
use Rattle.encoder_shapes.specs.Limits.{WithinLimits}
use Rattle.encoder_shapes.specs.Shapes.{no, not_both, implies_either}
use Rattle.encoder_shapes.proofs.Turns.{limits_recast, limits_right, put_on}
use Rattle.encoder_lines.specs.Line.{count_step_shut, count_step_below, count_step_row, count_step_parts, count_step_each}

-- after j cells from the far end: y comes next, and its row begins at row; the rest of the line is still to be put
pub record Lining (old now : Writer ℤ) (p : Puzzle) (d : Direction) (x : ℕ) (black : ℕ → ℕ) (first n y row j : ℕ) : Type 0 where
  pub here : y ≡ get_or (line p d x) j x
  pub put : Putting old (count_step_each first n (map black (line p d x))) now (count_step_each row n (map black (drop j (line p d x))))
  pub limits : WithinLimits now.place (count_step_each row n (map black (drop j (line p d x))))

module _ (p : Puzzle) (d : Direction) (x : ℕ) where
  pub next_cell : (black : ℕ → ℕ) (row n j : ℕ) → j < length (line p d x)
      → count_step_each row n (map black (drop j (line p d x)))
      ≡ joined (count_step_parts row (black (get_or (line p d x) j x)) n) ++ count_step_each (row + (n + 1)) n (map black (drop (j + 1) (line p d x)))
  next_cell black row n j h = rw (add-one j) (ap (λ l. count_step_each row n (map black l)) (drop-cons (line p d x) j x h))

-- a row that can be put begins at a variable's number
no_small : (v : ℕ) → NotBeyond most_variables (no v) → v ≤ most_variables
no_small zero h = omega arith
no_small (suc v) h = h

row_few : (row z n : ℕ) → All (NotBeyond most_variables) (count_step_row z row (row + (n + 1)) n) → row ≤ most_variables
row_few row zero n a =
    let first = subst (λ k. All (NotBeyond most_variables) (count_step_shut row (row + (n + 1)) k)) (add-one n) a in omega (arith, no_small (row + 0) first.0)
row_few row (suc z) n a =
    let next = row + (n + 1) in
    let last = joined (implies_either (row + n) (suc z) (next + n) ∷ not_both (row + n) (suc z) ∷ []) in
    let r = all_right (NotBeyond most_variables) (count_step_below row next (suc z) n) last a in
    omega (arith, no_small (row + n) r.0)

module _ {old now : Writer ℤ} {p : Puzzle} {d : Direction} {x : ℕ} {black : ℕ → ℕ} {first n y row j : ℕ}
    (w : Lining old now p d x black first n y row j) (h : j < length (line p d x)) where
  pub line_there : y < size p.grid
  line_there = rw w.here (line-inside p d x h)

  pub line_row : row ≤ most_variables
  line_row =
      let parts = rw (next_cell p d x black row n j h) at w.limits.literals in
      row_few row (black (get_or (line p d x) j x)) n (all_left (NotBeyond most_variables) _ _ (all_left (NotBeyond most_variables) _ _ parts))

  pub line_on : {new : Writer ℤ} {z y₂ : ℕ} {back : Direction} → z ≡ black y → Puts now (joined (count_step_parts row z n)) new → back ≡ opposite d
      → y₂ ≡ go (neighbour p.grid) back y → Lining old new p d x black first n y₂ (row + (n + 1)) (j + 1)
  line_on e put o q =
      let cell = joined (count_step_parts row (black (get_or (line p d x) j x)) n) in
      let others = count_step_each (row + (n + 1)) n (map black (drop (j + 1) (line p d x))) in
      let split = next_cell p d x black row n j h in
      let written = puts_recast (ap (λ z. joined (count_step_parts row z n)) (e ∙ ap black w.here)) put in
      record {
        here = line-go p d x h w.here o q ∙ ap (λ k. get_or (line p d x) k x) (sym (add-one j));
        put = put_on cell others (rw split at w.put) written;
        limits = limits_right cell others (limits_recast split w.limits) written;
      }
