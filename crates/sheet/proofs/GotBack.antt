-- Grid and drawing are got back from the sheet of an accepted record and a solution. Assumes nothing.
use Prim.Native.Nat.{ℕ, zero, suc, ◌+◌, ◌-◌, ◌*◌, ◌/◌, ◌%◌, ◌≤◌, ◌<◌}
use native.Mathlib.Omega.{arith}
use native.Mathlib.Nat.{zero-mul, suc-mul, mod-lt, div-add-mod', div-lt_iff_lt-mul}
use lib.Arith.{digits_lt}
use lib.Dec.{eqb, ltb}
use lib.ListN.{length, get_or, get_or-eq_default}
use lib.Seq.{ext_get_or}
use borrow.Author.Tests.{ne_eqb, leb-true, ltb-true, ltb-false}
use mathlib.Core.Path.{◌≡◌, refl, sym, ◌∙◌, ap, subst}
use mathlib.Core.Bool.{Bool, true, false, cond}
use mathlib.Core.Logic.{inl, inr}
use mathlib.Core.List.{List, [], ◌∷◌, map}
use Rattle.answers.specs.Lists.{up_to}
use Rattle.answers.proofs.Bools.{off, same_tests}
use Rattle.answers.proofs.Elements.{made_long, made_at}
use Rattle.text.specs.Decimal.{space, digit, decimal}
use Rattle.rules.specs.declared.Direction.{Direction}
use Rattle.rules.specs.declared.Direction.TheVariants.{North as north, East as east, South as south, West as west}
use Rattle.rules.specs.declared.Cell.{Cell}
use Rattle.rules.specs.declared.Cell.TheVariants.{Open, Clue, Shaded}
use Rattle.rules.specs.declared.Grid.{Grid}
use Rattle.rules.specs.Record.{Puzzle, grid_of, size, puzzle, IsAccepted}
use Rattle.rules.specs.Board.{open_cell, board_of}
use Rattle.rules.specs.Drawing.{link_sum, byte_link, link_at, Allowed, SolutionBytes}
use Rattle.rules.proofs.Boards.{has, open-at}
use Rattle.rules.proofs.Records.{accepted_some, accepted_fits, puzzle-filled}
use Rattle.rules_theory.proofs.Bytes.{sum_small, sum_back, sum_same}
use Rattle.sheet.specs.Sheet.{hash, plus, dash, bar, letter, right_aligned, side, black_text, white_text, open_text, TwoDigits, cell_text, cell_number}
use Rattle.sheet.specs.Sheet.{line_text, sheet_text, sheet_of}
use Rattle.sheet.specs.Reading.{lines_of, digit_value, cell_of_text, byte_of_text, character, bar_under, bar_over, cell_shown, link_shown, byte_shown}
use Rattle.sheet.specs.Reading.{rows_shown, columns_shown, by_cell, read_sheet, grid_and_drawing}
use Rattle.sheet.proofs.Widths.{narrow_number, wide_number, two_digits, line_width}
use Rattle.sheet.proofs.Lines.{sheet_lines, line_is, row_text, under-text, character_is}

-- 1. One cell: what three characters show

digit-back : (d : ℕ) → digit_value (digit d) ≡ d
digit-back d = ap (λ t. cond t 0 (digit d - 48)) (ne_eqb (digit d) space (λ e. omega arith)) ∙ (omega arith)

abbrev number_value : List ℕ → ℕ
number_value bs = digit_value (get_or bs 0 0) * 10 + digit_value (get_or bs 1 0)

number-back : (n : ℕ) → n < 100 → number_value (right_aligned 2 (decimal n)) ≡ n
number-back n h = by (ltb n 10) refl
  where
    by : (t : Bool) → ltb n 10 ≡ t → number_value (right_aligned 2 (decimal n)) ≡ n
    by true e = ap number_value (narrow_number (ltb-true n 10 e)) ∙ omega (arith, digit-back n)
    by false e = ap number_value (wide_number (ltb-false n 10 e) h) ∙ omega (arith, digit-back (n / 10), digit-back (n % 10))

-- the cell of a cell's three characters
abbrev cell_back : List ℕ → Cell
cell_back bs = cell_of_text (get_or bs 0 0) (get_or bs 1 0) (get_or bs 2 0)

cell-back : (c : Cell) (v : ℕ) → TwoDigits c → cell_back (cell_text c v) ≡ c
cell-back Open v h = by (eqb v 0x10)
  where
    white_open : (t : Bool) (b c : ℕ) → cell_of_text (cond t dash space) b c ≡ Open
    white_open true b c = refl
    white_open false b c = refl

    by : (t : Bool) → cell_back (cond t black_text (white_text v)) ≡ Open
    by true = refl
    by false = white_open (byte_link v west) plus (side v east)
cell-back (Clue d n) v h = by d
  where
    by : (d : Direction) → cell_back (letter d ∷ right_aligned 2 (decimal n)) ≡ Clue d n
    by north = ap (Clue north) (number-back n h)
    by east = ap (Clue east) (number-back n h)
    by south = ap (Clue south) (number-back n h)
    by west = ap (Clue west) (number-back n h)
cell-back Shaded v h = refl

-- the byte of a cell, where the links shown are those of a white cell's byte
byte_back : (c : Cell) (v : ℕ) → Allowed (open_cell c) v → (link : Direction → Bool)
    → (cell_text c v ≡ white_text v → (d : Direction) → link d ≡ byte_link v d) → byte_of_text c (get_or (cell_text c v) 1 0) link ≡ v
byte_back Open v (inl e) link h = rw e refl
byte_back Open v (inr (p, e)) link h =
    let small = sum_small p in
    let white : open_text v ≡ white_text v = ap (λ t. cond t black_text (white_text v)) (ne_eqb v 0x10 (λ z. omega arith)) in
    ap (λ bs. cond (eqb (get_or bs 1 0) hash) 0x10 (link_sum link)) white ∙ sum_same link (byte_link v) (h white) ∙ sum_back v (omega arith)
byte_back (Clue d n) v e link h = sym e
byte_back Shaded v e link h = sym e

-- a character that is there or else a space
told : (b : ℕ) → eqb b b ≡ true → eqb space b ≡ false → (t : Bool) → eqb (cond t b space) b ≡ t
told b same other true = same
told b same other false = other

-- 2. The cells of a sheet

module _ (s ds : List ℕ) (acc : IsAccepted s) (solution : SolutionBytes (board_of s) ds) where
  abbrev g : Grid
  g = grid_of s

  abbrev p : Puzzle
  p = puzzle g s

  abbrev lines : List (List ℕ)
  lines = lines_of (sheet_text p ds)

  abbrev byte : ℕ → ℕ → ℕ
  byte r c = get_or ds (cell_number g r c) 0

  module _ (r c : ℕ) (low : r < g.rows) (narrow : c < g.columns) where
    row_shows : (k : ℕ) → k < 3 → character lines (2 * r) (3 * c + k) ≡ get_or (cell_text (get_or p.cells (cell_number g r c) Open) (byte r c)) k 0
    row_shows k h = character_is (sheet_text p ds) (2 * r) c k h ∙ ap (λ bs. get_or bs k 0) (row_text g s ds r c low narrow)

    row_first : character lines (2 * r) (3 * c) ≡ get_or (cell_text (get_or p.cells (cell_number g r c) Open) (byte r c)) 0 0
    row_first = let e : 3 * c ≡ 3 * c + 0 = omega arith in ap (character lines (2 * r)) e ∙ row_shows 0 (omega arith)

    cell_is : cell_shown lines r c ≡ get_or p.cells (cell_number g r c) Open
    cell_is =
        (λ i. cell_of_text (row_first i) (row_shows 1 (omega arith) i) (row_shows 2 (omega arith) i)) ∙
        cell-back (get_or p.cells (cell_number g r c) Open) (byte r c) (two_digits g s (cell_number g r c))

    -- a link to the south has a cell there
    south_inside : byte_link (byte r c) south ≡ true → cell_number g r c + g.columns < size g
    south_inside h =
        let (y, next, _) = solution.solution.links.matched (cell_number g r c) south h in
        ltb-true _ _ (has g south (cell_number g r c) y next).there

    bar-under : bar_under lines r c ≡ byte_link (byte r c) south
    bar-under = by (ltb (r + 1) g.rows) refl
      where
        by : (t : Bool) → ltb (r + 1) g.rows ≡ t → bar_under lines r c ≡ byte_link (byte r c) south
        by true e =
            let shows = under-text g s ds r c low narrow (ltb-true _ _ e) in
            ap (λ b. eqb b bar) (character_is (sheet_text p ds) (2 * r + 1) c 1 (omega arith) ∙ ap (λ bs. get_or bs 1 0) shows) ∙
            told bar refl refl (byte_link (byte r c) south)
        by false e =
            let last : g.rows ≡ r + 1 = let l : g.rows ≤ r + 1 = ltb-false _ _ e in omega arith in
            let long : length lines ≡ 2 * g.rows - 1 = ap length (sheet_lines g s ds) ∙ made_long (line_text p ds) (2 * g.rows - 1) in
            let none_there = get_or-eq_default lines [] {n = 2 * r + 1} (omega arith) in
            ap (λ l. eqb (get_or l (3 * c + 1) 0) bar) none_there ∙
            sym (off _ (λ h.
            let inside = south_inside h in
            let whole : g.rows * g.columns ≡ (r + 1) * g.columns = ap (λ n. n * g.columns) last in
            omega (arith, suc-mul r g.columns)))

  -- a link to the north is one to the south of the cell above
  links_meet : (r c : ℕ) → suc r < g.rows → c < g.columns → byte_link (byte r c) south ≡ byte_link (byte (suc r) c) north
  links_meet r c low narrow = same_tests _ _ down up
    where
      above : cell_number g r c + g.columns ≡ cell_number g (suc r) c
      above = omega (arith, suc-mul r g.columns)

      down : byte_link (byte r c) south ≡ true → byte_link (byte (suc r) c) north ≡ true
      down h =
          let (x, next, back) = solution.solution.links.matched (cell_number g r c) south h in
          let e : x ≡ cell_number g (suc r) c = sym (has g south (cell_number g r c) x next).is ∙ above in
          subst (λ x. link_at ds x north ≡ true) e back

      up : byte_link (byte (suc r) c) north ≡ true → byte_link (byte r c) south ≡ true
      up h =
          let (y, next, back) = solution.solution.links.matched (cell_number g (suc r) c) north h in
          let is : cell_number g (suc r) c - g.columns ≡ y = (has g north (cell_number g (suc r) c) y next).is in
          let e : y ≡ cell_number g r c = omega (arith, above) in
          subst (λ y. link_at ds y south ≡ true) e back

  bar-over : (r c : ℕ) → r < g.rows → c < g.columns → bar_over lines r c ≡ byte_link (byte r c) north
  bar-over zero c low narrow =
      sym (off _ (λ h.
      let (y, next, _) = solution.solution.links.matched (cell_number g 0 c) north h in
      let inside : g.columns ≤ 0 * g.columns + c = leb-true _ _ (has g north (cell_number g 0 c) y next).there in
      omega (arith, zero-mul g.columns)))
  bar-over (suc r) c low narrow = bar-under r c (omega arith) narrow ∙ links_meet r c low narrow

  module _ (r c : ℕ) (low : r < g.rows) (narrow : c < g.columns) where
    abbrev cell : Cell
    cell = get_or p.cells (cell_number g r c) Open

    -- the links of a white cell
    links_are : cell_text cell (byte r c) ≡ white_text (byte r c) → (d : Direction) → link_shown lines r c d ≡ byte_link (byte r c) d
    links_are white north = bar-over r c low narrow
    links_are white east =
        ap (λ b. eqb b dash) (row_shows r c low narrow 2 (omega arith) ∙ ap (λ bs. get_or bs 2 0) white) ∙ told dash refl refl (byte_link (byte r c) east)
    links_are white south = bar-under r c low narrow
    links_are white west =
        ap (λ b. eqb b dash) (row_first r c low narrow ∙ ap (λ bs. get_or bs 0 0) white) ∙ told dash refl refl (byte_link (byte r c) west)

    allowed : Allowed (open_cell cell) (byte r c)
    allowed =
        let inside : cell_number g r c < size g = digits_lt low narrow in
        let filled : cell_number g r c < length p.cells = omega (arith, puzzle-filled g s) in
        subst (λ o. Allowed o (byte r c)) (sym (open-at p.cells (cell_number g r c) filled)) (solution.allowed (cell_number g r c) inside)

    byte_is : byte_shown lines r c ≡ byte r c
    byte_is =
        (λ i. byte_of_text (cell_is r c low narrow i) (row_shows r c low narrow 1 (omega arith) i) (link_shown lines r c)) ∙
        byte_back cell (byte r c) allowed (link_shown lines r c) links_are

  -- 3. The whole

  columns_some : 0 < g.columns
  columns_some = (accepted_fits s acc).sides.wide

  rows_are : rows_shown lines ≡ g.rows
  rows_are =
      let long : length lines ≡ 2 * g.rows - 1 = ap length (sheet_lines g s ds) ∙ made_long (line_text p ds) (2 * g.rows - 1) in
      omega (arith, accepted_some s acc)

  columns_are : columns_shown lines ≡ g.columns
  columns_are =
      let first = ap length (line_is g s ds 0 (omega (arith, accepted_some s acc))) in
      omega (arith, line_width g s ds 0)

  module _ {A : Type 0} (d : A) (f : ℕ → ℕ → A) (xs : List A) (long : length xs ≡ size g)
      (each : (r c : ℕ) → r < g.rows → c < g.columns → f r c ≡ get_or xs (cell_number g r c) d) where
    abbrev at : ℕ → A
    at x = f (x / g.columns) (x % g.columns)

    at_is : (x : ℕ) → x < size g → at x ≡ get_or xs x d
    at_is x h =
        let low : x / g.columns < g.rows = (div-lt_iff_lt-mul columns_some).1 h in
        let is : cell_number g (x / g.columns) (x % g.columns) ≡ x = div-add-mod' x g.columns in
        each _ _ low (mod-lt x columns_some) ∙ ap (λ x. get_or xs x d) is

    cells_are : by_cell lines f ≡ xs
    cells_are =
        (λ i. map (λ x. f (x / columns_are i) (x % columns_are i)) (up_to (rows_are i * columns_are i))) ∙
        ext_get_or d _ _ (made_long at (size g) ∙ sym long)
        (λ x h. let k : x < size g = omega (arith, made_long at (size g)) in made_at at d (size g) x k ∙ at_is x k)

  pub got_back : read_sheet (sheet_of s ds) ≡ grid_and_drawing s ds
  got_back = λ i.
      record {
        rows = rows_are i;
        columns = columns_are i;
        cells = cells_are Open (cell_shown lines) p.cells (puzzle-filled g s) cell_is i;
        drawing = cells_are 0 (byte_shown lines) ds solution.long byte_is i;
      }
