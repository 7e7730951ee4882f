-- The lines of a sheet, and the characters at a place of it. Assumes nothing.
use Prim.Native.Nat.{ℕ, zero, suc, ◌+◌, ◌-◌, ◌*◌, ◌/◌, ◌%◌, ◌<◌}
use native.Mathlib.Omega.{arith}
use native.Mathlib.Nat.{mul-zero, mul-suc}
use lib.Dec.{eqb, ltb}
use lib.ListN.{length, get_or, take, drop}
use lib.Seq.{take_at, drop-append-add, get_or-take, get_or-drop}
use borrow.Author.Tests.{ne_eqb, ltb-true, ltb-false}
use mathlib.Core.Path.{◌≡◌, refl, sym, ◌∙◌, ap, subst}
use mathlib.Core.Bool.{Bool, true, false, cond}
use mathlib.Core.List.{List, [], ◌∷◌, ◌++◌, map}
use Rattle.answers.specs.Lists.{All, from, up_to, each}
use Rattle.answers.proofs.Elements.{all_each, made_at}
use Rattle.text.specs.Decimal.{line_feed, space, decimal}
use Rattle.rules.specs.declared.Direction.{Direction}
use Rattle.rules.specs.declared.Direction.TheVariants.{North as north, East as east, South as south, West as west}
use Rattle.rules.specs.declared.Cell.{Cell}
use Rattle.rules.specs.declared.Cell.TheVariants.{Open, Clue, Shaded}
use Rattle.rules.specs.declared.Grid.{Grid}
use Rattle.rules.specs.Record.{puzzle}
use Rattle.rules.specs.Drawing.{byte_link}
use Rattle.sheet.specs.Sheet.{dash, bar, letter, right_aligned, black_text, white_text, TwoDigits, cell_text, under_text, cell_number, row_cells}
use Rattle.sheet.specs.Sheet.{with_line_feed, shown_at, line_text, sheet_text}
use Rattle.sheet.specs.Reading.{in_front, lines_of, column_text, character}
use Rattle.sheet.proofs.Widths.{narrow_number, wide_number, two_digits, shown_width}

-- 1. Lines

-- no LF among the characters
abbrev pub Plain : List ℕ → Type 0
Plain line = All (λ b. b ≡ line_feed → ⊥) line

line_first : (line rest : List ℕ) → Plain line → lines_of (with_line_feed line ++ rest) ≡ line ∷ lines_of rest
unfolding lines_of
line_first [] rest h = refl
line_first (b ∷ line) rest h =
    ap (λ t. cond t ([] ∷ lines_of (with_line_feed line ++ rest)) (in_front b (lines_of (with_line_feed line ++ rest)))) (ne_eqb b line_feed h.0) ∙
    ap (in_front b) (line_first line rest h.1)

lines-each : (f : ℕ → List ℕ) → ((x : ℕ) → Plain (f x)) → (xs : List ℕ) → lines_of (each xs (λ x. with_line_feed (f x))) ≡ map f xs
unfolding lines_of
lines-each f h [] = refl
lines-each f h (x ∷ xs) = line_first (f x) _ (h x) ∙ ap (λ ls. f x ∷ ls) (lines-each f h xs)

-- what is shown has no LF
side_plain : (t : Bool) (b : ℕ) → (b ≡ line_feed → ⊥) → cond t b space ≡ line_feed → ⊥
side_plain true b h = h
side_plain false b h = λ e. omega arith

letter_plain : (d : Direction) → letter d ≡ line_feed → ⊥
letter_plain north e = omega arith
letter_plain east e = omega arith
letter_plain south e = omega arith
letter_plain west e = omega arith

number_plain : (n : ℕ) → n < 100 → Plain (right_aligned 2 (decimal n))
number_plain n h = by (ltb n 10) refl
  where
    by : (t : Bool) → ltb n 10 ≡ t → Plain (right_aligned 2 (decimal n))
    by true e = subst Plain (sym (narrow_number (ltb-true n 10 e))) (λ e. omega arith, (λ e. omega arith, tt))
    by false e = subst Plain (sym (wide_number (ltb-false n 10 e) h)) (λ e. omega arith, (λ e. omega arith, tt))

cell_plain : (c : Cell) (v : ℕ) → TwoDigits c → Plain (cell_text c v)
cell_plain Open v h = by (eqb v 0x10)
  where
    by : (t : Bool) → Plain (cond t black_text (white_text v))
    by true = (λ e. omega arith, (λ e. omega arith, (λ e. omega arith, tt)))
    by false = (
      side_plain (byte_link v west) dash (λ e. omega arith),
      (λ e. omega arith, (side_plain (byte_link v east) dash (λ e. omega arith), tt)),
    )
cell_plain (Clue d n) v h = (letter_plain d, number_plain n h)
cell_plain Shaded v h = (λ e. omega arith, (λ e. omega arith, (λ e. omega arith, tt)))

under_plain : (v : ℕ) → Plain (under_text v)
under_plain v = (λ e. omega arith, (side_plain (byte_link v south) bar (λ e. omega arith), (λ e. omega arith, tt)))

-- 2. Parts of the same width

-- the c-th of n parts that are m wide
part_at : (f : ℕ → List ℕ) (m : ℕ) → ((x : ℕ) → length (f x) ≡ m) → (a n c : ℕ) → c < n → take m (drop (m * c) (each (from a n) f)) ≡ f (a + c)
part_at f m w a zero c h = absurd (omega arith)
part_at f m w a (suc n) zero h =
    let e : a + 0 ≡ a = omega arith in
    ap (λ k. take m (drop k (each (from a (suc n)) f))) (mul-zero m) ∙ take_at (f a) _ m (w a) ∙ ap f (sym e)
part_at f m w a (suc n) (suc c) h =
    let e : suc a + c ≡ a + suc c = omega arith in
    let k : m * suc c ≡ length (f a) + m * c = let l = w a in omega (arith, mul-suc m c) in
    ap (λ k. take m (drop k (each (from a (suc n)) f))) k ∙
    ap (take m) (drop-append-add (f a) _ (m * c)) ∙
    part_at f m w (suc a) n c (omega arith) ∙
    ap f e

-- 3. A sheet

module _ (g : Grid) (s ds : List ℕ) where
  abbrev line_at : ℕ → List ℕ
  line_at = line_text (puzzle g s) ds

  shown_plain : (i x : ℕ) → Plain (shown_at (puzzle g s) ds i x)
  shown_plain i x = by (eqb (i % 2) 0)
    where
      by : (t : Bool) → Plain (cond t (cell_text (get_or (puzzle g s).cells x Open) (get_or ds x 0)) (under_text (get_or ds x 0)))
      by true = cell_plain (get_or (puzzle g s).cells x Open) (get_or ds x 0) (two_digits g s x)
      by false = under_plain (get_or ds x 0)

  pub sheet_lines : lines_of (sheet_text (puzzle g s) ds) ≡ map line_at (up_to (2 * g.rows - 1))
  unfolding sheet_text
  sheet_lines =
      lines-each line_at (λ i. all_each (λ b. b ≡ line_feed → ⊥) (shown_at (puzzle g s) ds i) (row_cells g (i / 2)) (λ x m. shown_plain i x))
      (up_to (2 * g.rows - 1))

  pub line_is : (i : ℕ) → i < 2 * g.rows - 1 → get_or (lines_of (sheet_text (puzzle g s) ds)) i [] ≡ line_at i
  line_is i inside = ap (λ ls. get_or ls i []) sheet_lines ∙ made_at line_at [] (2 * g.rows - 1) i inside

  -- what stands in column c of line i
  column_shows : (i c : ℕ) → i < 2 * g.rows - 1 → c < g.columns
      → column_text (sheet_text (puzzle g s) ds) i c ≡ shown_at (puzzle g s) ds i (cell_number g (i / 2) c)
  column_shows i c inside narrow =
      ap (λ l. take 3 (drop (3 * c) l)) (line_is i inside) ∙ part_at (shown_at (puzzle g s) ds i) 3 (shown_width g s ds i) _ g.columns c narrow

  -- of row r: its cell, and what stands under it
  module _ (r c : ℕ) (low : r < g.rows) (narrow : c < g.columns) where
    abbrev x : ℕ
    x = cell_number g r c

    pub row_text : column_text (sheet_text (puzzle g s) ds) (2 * r) c ≡ cell_text (get_or (puzzle g s).cells x Open) (get_or ds x 0)
    row_text =
        let even : 2 * r % 2 ≡ 0 = omega arith in
        let row : 2 * r / 2 ≡ r = omega arith in
        column_shows (2 * r) c (omega arith) narrow ∙ (rw (even, row))

    pub under-text : r + 1 < g.rows → column_text (sheet_text (puzzle g s) ds) (2 * r + 1) c ≡ under_text (get_or ds x 0)
    under-text h =
        let odd : (2 * r + 1) % 2 ≡ 1 = omega arith in
        let row : (2 * r + 1) / 2 ≡ r = omega arith in
        column_shows (2 * r + 1) c (omega arith) narrow ∙ (rw (odd, row))

-- a character of a column
pub character_is : (text : List ℕ) (i c k : ℕ) → k < 3 → character (lines_of text) i (3 * c + k) ≡ get_or (column_text text i c) k 0
character_is text i c k h = let l = get_or (lines_of text) i [] in sym (get_or-take 3 (drop (3 * c) l) k 0 h ∙ get_or-drop (3 * c) l k 0)
