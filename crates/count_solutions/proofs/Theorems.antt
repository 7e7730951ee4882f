-- What the printed line says of the grid. Nothing is assumed but what the statement says.
use Prim.Native.Nat.{ℕ}
use lib.Dec.{eqb}
use lib.ListN.{length}
use mathlib.Core.Path.{◌≡◌, refl, sym, ◌∙◌, ap}
use mathlib.Core.Bool.{cond}
use mathlib.Core.Logic.{◌↔◌}
use mathlib.Core.List.{List}
use Rattle.rules.specs.Board.{board_of}
use Rattle.rules.specs.Drawing.{SolutionBytes}
use Rattle.rules.specs.Solutions.{OneSolution as HasOne, SeveralSolutions as HasSeveral}
use Rattle.solver.specs.SolutionCount.{SolutionCount, NoSolution, OneSolution, SeveralSolutions, Unknown, solution_count_of}
use Rattle.solver.proofs.SolutionCounts.{count_exactly}
use Rattle.program_text.specs.Lines.{none_line, one_line, several_line, halted_line}
use Rattle.program_text.specs.Programs.{program_number, budget}
use Rattle.program_text.proofs.Limits.{unrefused, printed_text}
use Rattle.count_solutions.specs.Printed.{count_line, printed_count}

-- the lines differ in length
abbrev many_back : ℕ → SolutionCount
many_back n = cond (eqb n 4) OneSolution (cond (eqb n 5) NoSolution (cond (eqb n 8) SeveralSolutions Unknown))

back : (m : SolutionCount) → many_back (length (count_line m)) ≡ m
back NoSolution = refl
back OneSolution = refl
back SeveralSolutions = refl
back Unknown = refl

same_line : (m x : SolutionCount) → count_line m ≡ count_line x → m ≡ x
same_line m x e = sym (back m) ∙ ap (λ (bs : List ℕ). many_back (length bs)) e ∙ back x

-- Of a record that is not refused, and unless `halted` is printed:
module _ (s : List ℕ) (taken : program_number s ≡ 0) (settled : printed_count s ≡ halted_line → ⊥) where
  prints : count_line (solution_count_of (board_of s) budget) ≡ printed_count s
  prints = printed_text _ taken

  line_exactly : (x : SolutionCount) {P : Type 0} → solution_count_of (board_of s) budget ≡ x ↔ P → printed_count s ≡ count_line x ↔ P
  line_exactly x h = (λ e. h.0 (same_line (solution_count_of (board_of s) budget) x (prints ∙ e)), λ p. sym prints ∙ ap count_line (h.1 p))

  -- `none` is printed exactly if the grid has no solution, `one` exactly if it has one, `several` exactly if it has two that differ.
  pub prints_exactly : (printed_count s ≡ none_line ↔ ((ds : List ℕ) → SolutionBytes (board_of s) ds → ⊥))
      × (printed_count s ≡ one_line ↔ HasOne s)
      × (printed_count s ≡ several_line ↔ HasSeveral s)
  prints_exactly =
      let h = count_exactly s (unrefused s taken).0 budget (λ e. settled (sym prints ∙ ap count_line e)) in
      (line_exactly NoSolution h.0, line_exactly OneSolution h.1, line_exactly SeveralSolutions h.2)
