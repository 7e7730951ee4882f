-- Document 02, E7, "The proof sheet", as one statement, in its order and words; what is in quotation marks is the request's.
-- The sheet of a record s and a drawing ds is `sheet_of s ds` of sheet/specs/Sheet.antt. The call is `sheet_call::write`; by its contract what it tells is
-- `sheet_answer`, and what it leaves in the lent buffer `sheet_leaves`. `lines_of` gives the lines of a text, `column_text` the three characters of a column in a
-- line, both counted from 0: row r is line 2r, and the line below it is line 2r + 1.
use Rattle.std.specs.Prelude.{ℕ, ◌+◌, ◌-◌, ◌*◌, ◌≤◌, ◌<◌, length, drop, ◌≡◌, true, cond, ◌↔◌, List, [], ◌∷◌, ◌++◌}
use Rattle.answers.specs.Lists.{All, each}
use Rattle.answers.specs.Outcome.{refusal, answer}
use Rattle.answers.specs.ByRows.{ByRows}
use Rattle.text.specs.Decimal.{space, decimal}
use Rattle.rules.specs.declared.Direction.{Direction}
use Rattle.rules.specs.declared.Direction.TheVariants.{East as east, South as south, West as west}
use Rattle.rules.specs.declared.Cell.TheVariants.{Clue, Shaded}
use Rattle.rules.specs.Record.{grid_of, grid_cell, IsAccepted}
use Rattle.rules.specs.Board.{board_of}
use Rattle.rules.specs.Drawing.{link_at, black_at, SolutionBytes}
use Rattle.rules.specs.Judge.{judge_answer, says_yes, white_at}
use Rattle.rules_theory.specs.RecordKinds.{SameGrid}
use Rattle.sheet.specs.Sheet.{dot, hash, plus, dash, bar, letter, right_aligned, cell_number, with_line_feed, sheet_of}
use Rattle.sheet.specs.Reading.{lines_of, column_text, read_sheet, grid_and_drawing}
use Rattle.sheet.specs.SheetCall.{sheet_rows, sheet_answer, sheet_leaves}
use Rattle.sheet.specs.Cases.{CaseHolds, sheet_cases}

-- the sides of a record's grid
abbrev pub rows_of : List ℕ → ℕ
rows_of s = (grid_of s).rows

abbrev pub columns_of : List ℕ → ℕ
columns_of s = (grid_of s).columns

-- a cell of it is in row r and column c, both counted from 0; its number is `cell_number` of sheet/specs/Sheet.antt
pub record CellIn (s : List ℕ) (r c : ℕ) : Type 0 where
  pub row : r < rows_of s
  pub column : c < columns_of s

-- the bytes of a sheet
abbrev pub bytes_needed : List ℕ → ℕ
bytes_needed s = (2 * rows_of s - 1) * (3 * columns_of s + 1)

pub record RequestE7 : Type 0 where
  -- "Layout wants a judged drawing as plain text with exact widths. It has 2 times rows − 1 lines, each 3 times columns characters and LF."
  -- (So the number of its bytes is known, and is at most 12,104.)
  pub lines : (s ds : List ℕ) → length (lines_of (sheet_of s ds)) ≡ 2 * rows_of s - 1
  pub characters : (s ds : List ℕ) → All (λ (l : List ℕ). length l ≡ 3 * columns_of s) (lines_of (sheet_of s ds))
  pub line_feeds : (s ds : List ℕ) → each (lines_of (sheet_of s ds)) with_line_feed ≡ sheet_of s ds
  pub bytes : (s ds : List ℕ) → length (sheet_of s ds) ≡ bytes_needed s
  pub most_bytes : (s : List ℕ) → IsAccepted s → bytes_needed s ≤ 12104
  -- "A cell row shows a clue as its letter N, E, S or W and the number right-aligned in two;"
  pub clue : (s ds : List ℕ) (r c : ℕ) → CellIn s r c → (d : Direction) (n : ℕ) → grid_cell s (cell_number (grid_of s) r c) ≡ Clue d n
      → column_text (sheet_of s ds) (2 * r) c ≡ letter d ∷ right_aligned 2 (decimal n)
  -- "a shaded cell as `...`;"
  pub shaded : (s ds : List ℕ) (r c : ℕ) → CellIn s r c → grid_cell s (cell_number (grid_of s) r c) ≡ Shaded
      → column_text (sheet_of s ds) (2 * r) c ≡ dot ∷ dot ∷ dot ∷ []
  -- "a black cell as ` # `;"
  pub black : (s ds : List ℕ) → SolutionBytes (board_of s) ds → (r c : ℕ) → CellIn s r c → black_at ds (cell_number (grid_of s) r c) ≡ true
      → column_text (sheet_of s ds) (2 * r) c ≡ space ∷ hash ∷ space ∷ []
  -- "a white cell as `+` with `-` on each side that has a link, else a space."
  pub white : (s ds : List ℕ) (r c : ℕ) → CellIn s r c → let x = cell_number (grid_of s) r c in white_at (board_of s) ds x ≡ true
      → column_text (sheet_of s ds) (2 * r) c ≡ cond (link_at ds x west) dash space ∷ plus ∷ cond (link_at ds x east) dash space ∷ []
  -- "A line between rows has `|` under the middle of each cell with a south link, spaces elsewhere."
  pub between : (s ds : List ℕ) (r c : ℕ) → CellIn s r c → r + 1 < rows_of s
      → column_text (sheet_of s ds) (2 * r + 1) c ≡ space ∷ cond (link_at ds (cell_number (grid_of s) r c) south) bar space ∷ space ∷ []
  -- "The open 2×2 solution gives ` +--+ `, ` |  | `, ` +--+ `."
  -- (Computed, and with it a grid of 3×20 cells with all sorts of cells and a number of two digits, whose sheet has 305 bytes, and one of kind 2 with all four
  -- directions.)
  pub samples : All CaseHolds sheet_cases
  -- "Grid and drawing can be got back from the sheet, save for the record's kind."
  -- (Sides, cells and drawing are read from it. So equal sheets come from the same grid and drawing; and whatever the kinds of two records, the same grid and
  -- drawing give equal sheets.)
  pub got_back : (s ds : List ℕ) → IsAccepted s → SolutionBytes (board_of s) ds → read_sheet (sheet_of s ds) ≡ grid_and_drawing s ds
  pub same_sheets : (s t ds es : List ℕ) → IsAccepted s → IsAccepted t → SolutionBytes (board_of s) ds → SolutionBytes (board_of t) es
      → sheet_of s ds ≡ sheet_of t es ↔ SameGrid s t × (ds ≡ es)
  -- "The judge's refusals apply, then 6 for a sheet buffer that is too short."
  -- (The rows in order; what the judge refuses is refused as by the judge; where it says yes, 6 has beside it the bytes needed.)
  pub by_rows : (s ds out : List ℕ)
      → ByRows (1 ∷ 2 ∷ 3 ∷ 4 ∷ 5 ∷ 7 ∷ 10 ∷ 11 ∷ 12 ∷ 13 ∷ 14 ∷ 15 ∷ 6 ∷ []) (sheet_rows s ds out) (sheet_answer s ds out) (sheet_leaves s ds out ≡ out)
  pub refused_by_judge : (s ds out : List ℕ) → ((judge_answer s ds).number ≡ 0 → ⊥) → sheet_answer s ds out ≡ judge_answer s ds
  pub refused_short : (s ds out : List ℕ) → judge_answer s ds ≡ says_yes → length out < bytes_needed s → sheet_answer s ds out ≡ refusal 6 (bytes_needed s)
  -- "The count of bytes written is returned and those past it are untouched."
  pub written : (s ds out : List ℕ) → judge_answer s ds ≡ says_yes → bytes_needed s ≤ length out
      → (sheet_answer s ds out ≡ answer (bytes_needed s) 0 0) × (sheet_leaves s ds out ≡ sheet_of s ds ++ drop (bytes_needed s) out)
