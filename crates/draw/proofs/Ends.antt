-- How the program ends after the call of `solve_record`, and that what it prints fits. Assumes nothing.
use Prim.Native.Nat.{ℕ, ◌≤◌}
use native.Mathlib.Omega.{arith}
use lib.ListN.{length, take}
use mathlib.Core.Path.{◌≡◌}
use mathlib.Core.List.{List}
use Rattle.answers.specs.Lent.{Wrote}
use Rattle.answers.proofs.Lent.{wrote_recast}
use Rattle.rules.specs.declared.board.Board as code
use Rattle.rules.specs.Read.{puzzle_on}
use Rattle.rules.specs.Record.{grid_of, size, puzzle}
use Rattle.sheet.specs.Sheet.{sheet_text, sheet_of}
use Rattle.sheet.proofs.Widths.{sheet_length}
use Rattle.sheet.proofs.Theorems.{most_bytes}
use Rattle.program_solution.specs.Solutions.{solution_drawing, WroteLine, WroteDrawing}
use Rattle.program_solution.proofs.Printing as printing
use Rattle.program_solution.proofs.Printing.{text_inside, drawn_cells}
use Rattle.draw.specs.Printed.{printed_sheet}

-- the sheet of the solution
abbrev text : List ℕ → List ℕ
text s = sheet_of s (solution_drawing s)

pub ends-line : {s ds bs es cs : List ℕ} {n : ℕ} → WroteLine s ds bs n es cs → Wrote bs 0 (printed_sheet s) cs n
ends-line {s} w = printing.ends-line (text s) w

pub ends-drawn : {s ds bs es cs out : List ℕ} {b : code.Board} {n r : ℕ} → WroteDrawing s ds bs b es cs → n ≡ size b.grid
    → Wrote cs 0 (sheet_text (puzzle_on b) (take n es)) out r → Wrote bs 0 (printed_sheet s) out r
ends-drawn w e p = printing.ends-drawn w (wrote_recast (λ i. sheet_text (puzzle (w.grid i) (w.same_record i)) (drawn_cells w e i)) p)

-- what the program prints fits 65,536 bytes
pub sheet_fits : (s : List ℕ) → length (printed_sheet s) ≤ 65536
sheet_fits s =
    text_inside s (text s) 65536 (omega arith) (λ acc. omega (arith, most_bytes s acc, sheet_length (grid_of s) s (solution_drawing s)))
