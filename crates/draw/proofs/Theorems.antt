-- What is printed says of the grid. Nothing is assumed but what the statement says.
use Prim.Native.Nat.{ℕ}
use native.Mathlib.Omega.{arith}
use mathlib.Core.Path.{◌≡◌, refl, ap}
use mathlib.Core.Logic.{◌⊎◌, inl, inr}
use mathlib.Core.List.{List}
use Rattle.rules.specs.Board.{board_of}
use Rattle.rules.specs.Drawing.{SolutionBytes}
use Rattle.search.specs.Run.{Ending, Found, None, Halted, ending_number}
use Rattle.solver.proofs.Begun.{solved_none, solved_drawing}
use Rattle.sheet.specs.Sheet.{sheet_of}
use Rattle.program_text.specs.Lines.{none_line, halted_line}
use Rattle.program_text.specs.Programs.{program_number, budget, searched, end_text}
use Rattle.program_text.proofs.Limits.{unrefused}
use Rattle.program_solution.proofs.Printing.{text_ended}
use Rattle.program_solution.specs.Solutions.{solution_drawing}
use Rattle.draw.specs.Printed.{printed_sheet}

-- a solution's sheet
pub record PrintsSheet (s : List ℕ) : Type 0 where
  pub drawing : List ℕ
  pub is_solution : SolutionBytes (board_of s) drawing
  pub printed : printed_sheet s ≡ sheet_of s drawing

-- `none`, and the grid has no solution
pub record PrintsNone (s : List ℕ) : Type 0 where
  pub unsolved : (ds : List ℕ) → SolutionBytes (board_of s) ds → ⊥
  pub printed : printed_sheet s ≡ none_line

-- Of a record that is not refused the sheet of a solution is printed, or `none` for a grid without a solution, or `halted`.
pub prints_solution : (s : List ℕ) → program_number s ≡ 0 → PrintsSheet s ⊎ PrintsNone s ⊎ (printed_sheet s ≡ halted_line)
prints_solution s taken = by (searched (board_of s)).ending refl
  where
    ends : {x : Ending} → (searched (board_of s)).ending ≡ x → printed_sheet s ≡ end_text x (sheet_of s (solution_drawing s))
    ends = text_ended s (sheet_of s (solution_drawing s)) taken

    number : {x : Ending} → (searched (board_of s)).ending ≡ x → ending_number (searched (board_of s)).ending ≡ ending_number x
    number e = ap ending_number e

    by : (x : Ending) → (searched (board_of s)).ending ≡ x → PrintsSheet s ⊎ PrintsNone s ⊎ (printed_sheet s ≡ halted_line)
    by Found e = inl (record { drawing = solution_drawing s; is_solution = solved_drawing s (unrefused s taken).0 budget e; printed = ends e })
    by None e =
        inr (inl (record {
          unsolved = (solved_none s (unrefused s taken).0 budget (λ h. let n = number e in omega arith)).0 (number e);
          printed = ends e;
        }))
    by Halted e = inr (inr (ends e))
