-- What is still to be put of a line and of a sheet, and the bounds of what they count. Assumes nothing.
use Prim.Native.Nat.{ℕ, ◌+◌, ◌-◌, ◌*◌, ◌≤◌}
use native.Mathlib.Omega.{arith}
use native.Mathlib.Nat.{mul-le-mul_right, le-mul_of_pos_right}
use lib.ListN.{length}
use mathlib.Core.Path.{◌≡◌, ap}
use mathlib.Core.List.{List, [], ◌∷◌, ◌++◌}
use Rattle.answers.specs.Lists.{from, each}
use Rattle.answers.proofs.Elements.{each_next}
use Rattle.answers.proofs.Putting.{putting}
use Rattle.text.specs.Decimal.{line_feed}
use Rattle.rules.specs.declared.Grid.{Grid}
use Rattle.rules.specs.Record.{most_cells, puzzle, Sides}
use Rattle.sheet.specs.Sheet.{with_line_feed, shown_at, line_text, sheet_text, sheet_bytes}
use Rattle.sheet.proofs.Widths.{shown_width, sheet_length}

-- 1. Bounds

module _ {g : Grid} (h : Sides g) where
  pub rows_few : g.rows ≤ most_cells
  rows_few = omega (arith, le-mul_of_pos_right g.rows h.wide, h.few)

  pub sheet_small : sheet_bytes g ≤ 8 * most_cells
  sheet_small =
      let m : (2 * g.rows - 1) * (3 * g.columns + 1) ≤ 2 * g.rows * (3 * g.columns + 1) = mul-le-mul_right (3 * g.columns + 1) (omega arith) in
      omega (arith, rows_few, h.few)

-- 2. What is still to be put, of a line and of a sheet

module _ (g : Grid) (s ds : List ℕ) where
  abbrev pub cells_left : ℕ → ℕ → ℕ → List ℕ
  cells_left i end x = each (from x (end - x)) (shown_at (puzzle g s) ds i) ++ (line_feed ∷ [])

  abbrev pub line_of : ℕ → List ℕ
  line_of i = with_line_feed (line_text (puzzle g s) ds i)

  abbrev pub lines_left : ℕ → List ℕ
  lines_left i = each (from i (2 * g.rows - 1 - i)) line_of

  pub sheet_lines_all : sheet_text (puzzle g s) ds ≡ lines_left 0
  unfolding sheet_text
  sheet_lines_all = let e : 2 * g.rows - 1 ≡ 2 * g.rows - 1 - 0 = omega arith in ap (λ n. each (from 0 n) line_of) e

  pub sheet_fits : Sides g → length (sheet_text (puzzle g s) ds) ≤ 8 * most_cells
  sheet_fits h = omega (arith, sheet_length g s ds, sheet_small h)

-- with these the check finds what the cells of a line put, and the lines of a sheet
pub ruleset cells = (putting, each_next, shown_width)

pub ruleset sheet_lines = (putting, each_next, sheet_lines_all, sheet_fits)
