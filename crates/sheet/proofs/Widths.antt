-- The widths of a sheet: three characters a cell, 3 times columns a line, and the length of the whole. Assumes nothing.
use Prim.Native.Nat.{ℕ, suc, ◌+◌, ◌-◌, ◌*◌, ◌/◌, ◌%◌, ◌≤◌, ◌<◌}
use native.Mathlib.Omega.{arith}
use lib.Dec.{eqb, ltb}
use lib.ListN.{length, get_or, length-append, get_or-eq_default}
use borrow.Author.Tests.{ltb-true, ltb-false}
use mathlib.Core.Path.{◌≡◌, refl, sym, ◌∙◌, ap}
use mathlib.Core.Bool.{Bool, true, false, cond}
use mathlib.Core.List.{List, [], ◌∷◌, ◌++◌}
use Rattle.answers.specs.Lists.{up_to}
use Rattle.answers.proofs.Elements.{length-each, length_from}
use Rattle.text.specs.Decimal.{line_feed, space, digit, decimal}
use Rattle.text.proofs.Decimals.{decimal_one, decimal_more}
use Rattle.rules.specs.declared.Cell.{Cell}
use Rattle.rules.specs.declared.Cell.TheVariants.{Open, Clue, Shaded}
use Rattle.rules.specs.declared.Grid.{Grid}
use Rattle.rules.specs.Record.{size, puzzle}
use Rattle.rules.proofs.Records.{number_of, number_small, puzzle-filled}
use Rattle.sheet.specs.Sheet.{right_aligned, black_text, white_text, TwoDigits, cell_text, under_text, row_cells, with_line_feed, shown_at, line_text, sheet_text}
use Rattle.sheet.specs.Sheet.{sheet_bytes}

-- a number of one digit, and of two
pub narrow_number : {n : ℕ} → n < 10 → right_aligned 2 (decimal n) ≡ space ∷ digit n ∷ []
narrow_number h = ap (right_aligned 2) (sym (decimal_one h))

pub wide_number : {n : ℕ} → 10 ≤ n → n < 100 → right_aligned 2 (decimal n) ≡ digit (n / 10) ∷ digit (n % 10) ∷ []
wide_number {n} h l =
    let front : digit (n / 10) ∷ [] ≡ decimal (n / 10) = decimal_one (omega arith) in
    ap (right_aligned 2) (sym (decimal_more h) ∙ ap (λ ds. ds ++ (digit (n % 10) ∷ [])) (sym front))

number_width : (n : ℕ) → n < 100 → length (right_aligned 2 (decimal n)) ≡ 2
number_width n h = by (ltb n 10) refl
  where
    by : (t : Bool) → ltb n 10 ≡ t → length (right_aligned 2 (decimal n)) ≡ 2
    by true e = ap length (narrow_number (ltb-true n 10 e))
    by false e = ap length (wide_number (ltb-false n 10 e) h)

-- three characters for each cell
cell_width : (c : Cell) (v : ℕ) → TwoDigits c → length (cell_text c v) ≡ 3
cell_width Open v h = by (eqb v 0x10)
  where
    by : (t : Bool) → length (cond t black_text (white_text v)) ≡ 3
    by true = refl
    by false = refl
cell_width (Clue d n) v h = ap suc (number_width n h)
cell_width Shaded v h = refl

-- a clue's number is at most 44
small_number : (c : Cell) → number_of c ≤ 44 → TwoDigits c
small_number Open h = tt
small_number (Clue d n) h = omega arith
small_number Shaded h = tt

pub two_digits : (g : Grid) (s : List ℕ) (x : ℕ) → TwoDigits (get_or (puzzle g s).cells x Open)
two_digits g s x = by (ltb x (size g)) refl
  where
    by : (t : Bool) → ltb x (size g) ≡ t → TwoDigits (get_or (puzzle g s).cells x Open)
    by true e = small_number (get_or (puzzle g s).cells x Open) (number_small g s x (ltb-true x (size g) e))
    by false e =
        let out : length (puzzle g s).cells ≤ x = omega (arith, ltb-false x (size g) e, puzzle-filled g s) in
        rw (get_or-eq_default (puzzle g s).cells Open out) tt

module _ (g : Grid) (s ds : List ℕ) where
  pub shown_width : (i x : ℕ) → length (shown_at (puzzle g s) ds i x) ≡ 3
  shown_width i x = by (eqb (i % 2) 0)
    where
      by : (t : Bool) → length (cond t (cell_text (get_or (puzzle g s).cells x Open) (get_or ds x 0)) (under_text (get_or ds x 0))) ≡ 3
      by true = cell_width (get_or (puzzle g s).cells x Open) (get_or ds x 0) (two_digits g s x)
      by false = refl

  pub line_width : (i : ℕ) → length (line_text (puzzle g s) ds i) ≡ 3 * g.columns
  line_width i =
      let w = length-each (shown_at (puzzle g s) ds i) 3 (row_cells g (i / 2)) (shown_width i) in
      omega (arith, length_from (i / 2 * g.columns) g.columns)

  pub sheet_length : length (sheet_text (puzzle g s) ds) ≡ sheet_bytes g
  unfolding sheet_text
  sheet_length =
      length-each (λ i. with_line_feed (line_text (puzzle g s) ds i)) (3 * g.columns + 1) (up_to (2 * g.rows - 1))
      (λ i. length-append (line_text (puzzle g s) ds i) (line_feed ∷ []) ∙ ap (λ n. n + 1) (line_width i)) ∙
      ap (λ n. n * (3 * g.columns + 1)) (length_from 0 (2 * g.rows - 1))
