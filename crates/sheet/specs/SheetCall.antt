-- The call that writes a sheet: what it tells, and what it leaves in the lent buffer.
use Rattle.std.specs.Prelude.{ℕ, length, List, [], ◌∷◌, ◌++◌}
use Rattle.answers.specs.declared.Outcome.{Outcome}
use Rattle.answers.specs.Outcome.{answer, Row, row, first_refusal}
use Rattle.answers.specs.Lent.{too_short, filled, unless_refused}
use Rattle.rules.specs.declared.Grid.{Grid}
use Rattle.rules.specs.Record.{puzzle, grid_of, record_rows}
use Rattle.rules.specs.Board.{grid_board}
use Rattle.rules.specs.Judge.{judge_rows}
use Rattle.sheet.specs.Sheet.{sheet_text, sheet_of}

-- the judge's rows after the record's, then 6, of a grid that was read
abbrev pub sheet_grid_rows : Grid → List ℕ → List ℕ → List ℕ → List Row
sheet_grid_rows g s ds out = judge_rows (grid_board g s) ds ++ (row 6 (too_short (length out) (length (sheet_text (puzzle g s) ds))) ∷ [])

-- sheet 1-5, 7, 10-15, 6
abbrev pub sheet_rows : List ℕ → List ℕ → List ℕ → List Row
sheet_rows s ds out = record_rows s ++ sheet_grid_rows (grid_of s) s ds out

-- the count of bytes written
abbrev pub sheet_answer : List ℕ → List ℕ → List ℕ → Outcome
sheet_answer s ds out = first_refusal (sheet_rows s ds out) (answer (length (sheet_of s ds)) 0 0)

abbrev pub sheet_leaves : List ℕ → List ℕ → List ℕ → List ℕ
sheet_leaves s ds out = unless_refused (sheet_answer s ds out) out (filled out (sheet_of s ds))
