-- What is true of the solver's call, each result in one statement. Nothing is assumed but what a statement says.
use Prim.Native.Nat.{ℕ}
use lib.ListN.{take}
use lib.Seq.{take_at}
use mathlib.Core.Path.{◌≡◌, refl, sym, ◌∙◌, ap}
use mathlib.Core.Logic.{◌↔◌}
use mathlib.Core.List.{List, [], ◌∷◌}
use Rattle.answers.specs.declared.Outcome.{Outcome}
use Rattle.answers.specs.Lent.{filled, unless_refused}
use Rattle.answers.specs.ByRows.{ByRows}
use Rattle.answers.proofs.ByRows.{by_rows}
use Rattle.answers.proofs.Rows.{Clear, answered_clear, clear_answered}
use Rattle.answers.proofs.Settled.{untouched}
use Rattle.rules.specs.Record.{IsAccepted}
use Rattle.rules.specs.Board.{board_of}
use Rattle.rules.specs.Drawing.{SolutionBytes}
use Rattle.rules.proofs.Records.{clear_parts, clear_accepted}
use Rattle.encoder.specs.Variables.{variable_count}
use Rattle.encoder.specs.Decoding.{decoded}
use Rattle.search.specs.Run.{Found, None, Halted, ending_number, done_outcome}
use Rattle.search.proofs.Endings.{same_ending}
use Rattle.solver.specs.SolverCall.{Lent, solved, trail_bytes, room_rows, solver_rows, solver_answer, at_found, written, solver_leaves}
use Rattle.solver.proofs.Begun as begun

module _ (s : List ℕ) (budget : ℕ) (lent : Lent) where
  -- A call is refused by its rows in order, and every lent buffer then stays as it was.
  pub turned_down : ByRows (1 ∷ 2 ∷ 3 ∷ 4 ∷ 5 ∷ 6 ∷ 6 ∷ 6 ∷ 6 ∷ 6 ∷ 6 ∷ []) (solver_rows s lent) (solver_answer s budget lent) (solver_leaves s budget lent ≡ lent)
  turned_down =
      by_rows (done_outcome (solved (board_of s) budget)) refl _ (solver_rows s lent) refl refl
      (untouched (solver_answer s budget lent) lent (written (board_of s) (solved (board_of s) budget) lent))

  -- Unless refused:
  module _ (answered : (solver_answer s budget lent).number ≡ 0) where
    clear : Clear (solver_rows s lent)
    clear = answered_clear (solver_rows s lent) (done_outcome (solved (board_of s) budget)) refl answered

    -- the grid is accepted;
    pub accepted : IsAccepted s
    accepted = clear_accepted s (clear_parts s (room_rows (board_of s) lent) clear).0

    says : solver_answer s budget lent ≡ done_outcome (solved (board_of s) budget)
    says = clear_answered (solver_rows s lent) _ clear

    -- not halted, it says "none" exactly when the grid has no solution;
    pub none_exactly : ((solver_answer s budget lent).first ≡ ending_number Halted → ⊥)
        → (solver_answer s budget lent).first ≡ ending_number None ↔ ((ds : List ℕ) → SolutionBytes (board_of s) ds → ⊥)
    none_exactly = rw says (begun.solved_none s accepted budget)

    -- and at "found" the first N bytes of the drawing that it leaves are a solution.
    pub found_solution : (solver_answer s budget lent).first ≡ ending_number Found
        → SolutionBytes (board_of s) (take (board_of s).size (solver_leaves s budget lent).drawing)
    found_solution e =
        let found = same_ending (solved (board_of s) budget).ending Found (sym (ap (λ (t : Outcome). t.first) says) ∙ e) in
        let S = begun.solved_drawing s accepted budget found in
        let left : (solver_leaves s budget lent).drawing ≡ filled lent.drawing ds =
        (λ i. (unless_refused (says i) lent (written (board_of s) (solved (board_of s) budget) lent)).drawing)
        ∙ ap (λ x. at_found x lent.drawing (filled lent.drawing ds)) found in
        rw left (rw (take_at ds _ (board_of s).size S.long) S)
      where
        ds : List ℕ
        ds = decoded (board_of s) (trail_bytes (variable_count (board_of s)) (solved (board_of s) budget).trail)
