-- How the program ends after the call of `solve_record`, and that what it prints fits. Assumes nothing.
use Prim.Native.Nat.{ℕ, ◌≤◌}
use native.Mathlib.Omega.{arith}
use lib.ListN.{length, take}
use mathlib.Core.Path.{◌≡◌}
use mathlib.Core.List.{List}
use Rattle.answers.specs.Lent.{Wrote}
use Rattle.answers.proofs.Lent.{wrote_recast}
use Rattle.rules.specs.declared.board.Board as code
use Rattle.rules.specs.Record.{grid_of, size}
use Rattle.rules.proofs.Records.{accepted_fits}
use Rattle.program_text.specs.Lines.{drawing_text}
use Rattle.program_text.specs.Programs.{printed_solution}
use Rattle.program_text.proofs.Lines.{drawing_length}
use Rattle.program_solution.specs.Solutions.{solution_drawing, WroteLine, WroteDrawing}
use Rattle.program_solution.proofs.Printing as printing
use Rattle.program_solution.proofs.Printing.{text_inside, drawing_long, drawn_cells}

-- the text of the drawing
abbrev text : List ℕ → List ℕ
text s = drawing_text (grid_of s).columns (solution_drawing s)

pub ends-line : {s ds bs es cs : List ℕ} {n : ℕ} → WroteLine s ds bs n es cs → Wrote bs 0 (printed_solution s) cs n
ends-line {s} w = printing.ends-line (text s) w

pub ends-drawn : {s ds bs es cs out : List ℕ} {b : code.Board} {n r : ℕ} → WroteDrawing s ds bs b es cs → n ≡ size b.grid
    → Wrote cs 0 (drawing_text b.grid.columns (take n es)) out r → Wrote bs 0 (printed_solution s) out r
ends-drawn w e p = printing.ends-drawn w (wrote_recast (λ i. drawing_text (w.grid i).columns (drawn_cells w e i)) p)

-- what the program prints fits 65,536 bytes
pub solution_fits : (s : List ℕ) → length (printed_solution s) ≤ 65536
solution_fits s =
    text_inside s (text s) 65536 (omega arith)
    (λ acc.
    let few = (accepted_fits s acc).sides.few in
    omega (arith, drawing_length (grid_of s).columns 0 (solution_drawing s), drawing_long s))
