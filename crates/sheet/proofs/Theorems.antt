-- What document 02's E7 says of a sheet and of the call that writes it. Assumes nothing.
use Prim.Native.Nat.{ℕ, ◌+◌, ◌-◌, ◌*◌, ◌/◌, ◌%◌, ◌≤◌, ◌<◌}
use native.Mathlib.Omega.{arith}
use native.Mathlib.Nat.{mul-le-mul}
use lib.Arith.{digits_lt}
use lib.Dec.{eqb}
use lib.ListN.{length, get_or, drop}
use borrow.Author.Tests.{not-true}
use mathlib.Core.Path.{◌≡◌, refl, sym, ◌∙◌, ap}
use mathlib.Core.Bool.{true, not, cond}
use mathlib.Core.List.{List, [], ◌∷◌, ◌++◌, map}
use Rattle.answers.specs.declared.Outcome.{Outcome}
use Rattle.answers.specs.Lists.{All, from, up_to, each}
use Rattle.answers.specs.Outcome.{answer, refusal, Row, row, unless, first_refusal}
use Rattle.answers.specs.Lent.{too_short, filled, unless_refused}
use Rattle.answers.proofs.Bools.{clash, and_both}
use Rattle.answers.proofs.Elements.{all_map, made_long}
use Rattle.answers.proofs.Rows.{Clear, answered_clear, clear_answered, still_refused, refusals_append}
use Rattle.answers.proofs.Settled.{short_by, long_enough}
use Rattle.rules.specs.declared.Cell.{Cell}
use Rattle.rules.specs.declared.Cell.TheVariants.{Open, Clue, Shaded}
use Rattle.rules.specs.Record.{grid_of, size, puzzle, grid_cell, record_rows, IsAccepted}
use Rattle.rules.specs.Board.{open_cell, board_of}
use Rattle.rules.specs.Drawing.{black_at, SolutionBytes}
use Rattle.rules.specs.Judge.{judge_rows, judge_answer, says_yes, white_at}
use Rattle.rules.proofs.Boards.{open-at}
use Rattle.rules.proofs.Records.{accepted_rows, accepted_columns, clear_parts, clear_accepted, puzzle-filled}
use Rattle.rules_theory.specs.RecordKinds.{SameGrid}
use Rattle.sheet.specs.Sheet.{black_text, white_text, cell_text, under_text, cell_number, with_line_feed, line_text, sheet_text, sheet_bytes, sheet_of}
use Rattle.sheet.specs.Reading.{lines_of, column_text, Shown, read_sheet}
use Rattle.sheet.specs.SheetCall.{sheet_answer, sheet_leaves}
use Rattle.sheet.proofs.Widths.{line_width, sheet_length}
use Rattle.sheet.proofs.Lines.{sheet_lines, row_text, under-text}
use Rattle.sheet.proofs.GotBack.{got_back}

-- 1. Lines

each_map : (f : ℕ → List ℕ) (g : List ℕ → List ℕ) (xs : List ℕ) → each (map f xs) g ≡ each xs (λ x. g (f x))
each_map f g [] = refl
each_map f g (x ∷ xs) = ap (λ ys. g (f x) ++ ys) (each_map f g xs)

module _ (s ds : List ℕ) where
  abbrev line : ℕ → List ℕ
  line = line_text (puzzle (grid_of s) s) ds

  abbrev places : List ℕ
  places = up_to (2 * (grid_of s).rows - 1)

  pub lines_many : length (lines_of (sheet_of s ds)) ≡ 2 * (grid_of s).rows - 1
  lines_many = ap length (sheet_lines (grid_of s) s ds) ∙ made_long line (2 * (grid_of s).rows - 1)

  abbrev Wide : List ℕ → Type 0
  Wide l = length l ≡ 3 * (grid_of s).columns

  pub lines_wide : All Wide (lines_of (sheet_of s ds))
  lines_wide = rw (sheet_lines (grid_of s) s ds) (all_map Wide line places (λ i m. line_width (grid_of s) s ds i))

  pub lines_whole : each (lines_of (sheet_of s ds)) with_line_feed ≡ sheet_of s ds
  unfolding sheet_text
  lines_whole = ap (λ ls. each ls with_line_feed) (sheet_lines (grid_of s) s ds) ∙ each_map line with_line_feed places

-- 2. Cells

is_open_lem : (c : Cell) → open_cell c ≡ true → c ≡ Open
is_open_lem Open h = refl
is_open_lem (Clue d n) h = clash h refl
is_open_lem Shaded h = clash h refl

module _ (s ds : List ℕ) {r c : ℕ} (low : r < (grid_of s).rows) (narrow : c < (grid_of s).columns) where
  abbrev x : ℕ
  x = cell_number (grid_of s) r c

  pub shows : {e : Cell} → grid_cell s x ≡ e → column_text (sheet_of s ds) (2 * r) c ≡ cell_text e (get_or ds x 0)
  shows e = row_text (grid_of s) s ds r c low narrow ∙ ap (λ e. cell_text e (get_or ds x 0)) e

  pub shows_under : r + 1 < (grid_of s).rows → column_text (sheet_of s ds) (2 * r + 1) c ≡ under_text (get_or ds x 0)
  shows_under = under-text (grid_of s) s ds r c low narrow

  open-cell : (board_of s).is_open x ≡ true → grid_cell s x ≡ Open
  open-cell h =
      let inside : x < length (puzzle (grid_of s) s).cells = let inside : x < size (grid_of s) = digits_lt low narrow in
      omega (arith, puzzle-filled (grid_of s) s) in
      is_open_lem (grid_cell s x) (open-at (puzzle (grid_of s) s).cells x inside ∙ h)

  pub shows_black : SolutionBytes (board_of s) ds → black_at ds x ≡ true → column_text (sheet_of s ds) (2 * r) c ≡ black_text
  shows_black solution h =
      shows (open-cell (solution.solution.only_open x h)) ∙ ap (λ t. cond t black_text (white_text (get_or ds x 0))) h

  pub shows_white : white_at (board_of s) ds x ≡ true → column_text (sheet_of s ds) (2 * r) c ≡ white_text (get_or ds x 0)
  shows_white h =
      let (o, w) = and_both ((board_of s).is_open x) (not (black_at ds x)) h in
      shows (open-cell o) ∙ ap (λ t. cond t black_text (white_text (get_or ds x 0))) (not-true (black_at ds x) w)

-- 3. Got back

module _ {s t ds es : List ℕ} where
  -- records of the same grid, whatever their kinds, have the same sheets
  pub same_sheet : SameGrid s t → ds ≡ es → sheet_of s ds ≡ sheet_of t es
  unfolding sheet_text
  same_sheet same e = λ i.
      each (up_to (2 * same.rows i - 1)) (λ k.
      with_line_feed (each (from (k / 2 * same.columns i) (same.columns i)) (λ x.
      cond (eqb (k % 2) 0) (cell_text (get_or (same.cells i) x Open) (get_or (e i) x 0)) (under_text (get_or (e i) x 0)))))

  -- and equal sheets come from the same grid and drawing
  module _ (acc : IsAccepted s) (acc' : IsAccepted t) (solution : SolutionBytes (board_of s) ds) (solution' : SolutionBytes (board_of t) es) where
    pub same_grid : sheet_of s ds ≡ sheet_of t es → SameGrid s t × (ds ≡ es)
    same_grid e =
        let shown = sym (got_back s ds acc solution) ∙ ap read_sheet e ∙ got_back t es acc' solution' in (
          record { rows = ap (λ (g : Shown). g.rows) shown; columns = ap (λ (g : Shown). g.columns) shown; cells = ap (λ (g : Shown). g.cells) shown },
          ap (λ (g : Shown). g.drawing) shown,
        )

-- 4. The call

pub most_bytes : (s : List ℕ) → IsAccepted s → sheet_bytes (grid_of s) ≤ 12104
most_bytes s acc =
    let rows = accepted_rows s acc in
    let columns = accepted_columns s acc in
    let tall : 2 * (grid_of s).rows - 1 ≤ 89 = omega arith in
    let wide : 3 * (grid_of s).columns + 1 ≤ 136 = omega arith in
    mul-le-mul tall wide

module _ (s ds out : List ℕ) where
  abbrev judging : List Row
  judging = record_rows s ++ judge_rows (board_of s) ds

  abbrev room : List Row
  room = row 6 (too_short (length out) (length (sheet_of s ds))) ∷ []

  abbrev done : Outcome
  done = answer (length (sheet_of s ds)) 0 0

  pub refused_by_judge : ((judge_answer s ds).number ≡ 0 → ⊥) → sheet_answer s ds out ≡ judge_answer s ds
  refused_by_judge n = sym (still_refused judging room says_yes done refl n)

  module _ (yes : judge_answer s ds ≡ says_yes) where
    clear : Clear judging
    clear = answered_clear judging says_yes refl (ap (λ (t : Outcome). t.number) yes)

    accepted : IsAccepted s
    accepted = clear_accepted s (clear_parts s (judge_rows (board_of s) ds) clear).0

    left_to_room : sheet_answer s ds out ≡ first_refusal room done
    left_to_room = refusals_append judging room done ∙ clear_answered judging _ clear

    pub refused_short : length out < sheet_bytes (grid_of s) → sheet_answer s ds out ≡ refusal 6 (sheet_bytes (grid_of s))
    refused_short h =
        let long = sheet_length (grid_of s) s ds in
        let most = most_bytes s accepted in
        left_to_room ∙ ap (λ o. unless 6 o done) (short_by (length out) (omega arith) (omega arith)) ∙ ap (refusal 6) long

    pub written : sheet_bytes (grid_of s) ≤ length out
        → (sheet_answer s ds out ≡ answer (sheet_bytes (grid_of s)) 0 0) × (sheet_leaves s ds out ≡ sheet_of s ds ++ drop (sheet_bytes (grid_of s)) out)
    written h =
        let long = sheet_length (grid_of s) s ds in
        let outcome = left_to_room ∙ ap (λ o. unless 6 o done) (long_enough (length out) (omega arith)) in (
          outcome ∙ ap (λ n. answer n 0 0) long,
          ap (λ t. unless_refused t out (filled out (sheet_of s ds))) outcome ∙ ap (λ n. sheet_of s ds ++ drop n out) long,
        )
