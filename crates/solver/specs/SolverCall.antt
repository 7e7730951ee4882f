-- The solver's call: the search begun empty on a grid's clauses, and at "found" the drawing to which its trail decodes.
use Rattle.std.specs.Prelude.{ℕ, ℤ, length, List, [], ◌∷◌, ◌++◌}
use Rattle.answers.specs.declared.Outcome.{Outcome}
use Rattle.answers.specs.Outcome.{Row, row, first_refusal}
use Rattle.answers.specs.Lent.{too_short, filled, unless_refused}
use Rattle.rules.specs.Record.{record_rows}
use Rattle.rules.specs.Board.{Board, board_of}
use Rattle.encoder.specs.Variables.{variable_count}
use Rattle.encoder.specs.Clauses.{clause_list}
use Rattle.encoder.specs.Decoding.{bytes_of, decoded}
use Rattle.search.specs.Trail.{Trail, Slices, filled_slices, image, values_of}
use Rattle.search.specs.Run.{Ending, Found, None, Halted, Done, done_outcome}
use Rattle.solver.specs.Work.{work_of, grid_work_rows}
use Rattle.solver.specs.Listing.{begun}

-- the lent buffers
pub record Lent : Type 0 where
  pub list : List ℤ
  pub slices : Slices
  pub values : List ℕ
  pub drawing : List ℕ

-- the search begun empty on the grid's clauses
abbrev pub solved : Board → ℕ → Done
solved b budget = begun (variable_count b) (clause_list b) budget

-- a trail with all V entries used is also an assignment: its V bytes
abbrev pub trail_bytes : ℕ → Trail → List ℕ
trail_bytes v t = bytes_of (values_of v t)

-- 6, in the order list, trail, marks, clause numbers, values, drawing; beside it the elements needed
abbrev pub room_rows : Board → Lent → List Row
room_rows b lent =
    grid_work_rows b (work_of lent.list lent.slices) ++ (
    row 6 (too_short (length lent.values) (variable_count b)) ∷
    row 6 (too_short (length lent.drawing) b.size) ∷
    []
    )

-- solver 1-5, 6
abbrev pub solver_rows : List ℕ → Lent → List Row
solver_rows s lent = record_rows s ++ room_rows (board_of s) lent

-- found 1, none 2, halted 3; the steps made; the used count
abbrev pub solver_answer : List ℕ → ℕ → Lent → Outcome
solver_answer s budget lent = first_refusal (solver_rows s lent) (done_outcome (solved (board_of s) budget))

-- values and drawing are written only at "found"
abbrev pub at_found : {A : Type 0} → Ending → A → A → A
at_found Found before after = after
at_found None before after = before
at_found Halted before after = before

-- the clause list, and the trail at which the search ends; at "found" the trail's bytes and the drawing to which they decode
abbrev pub written : Board → Done → Lent → Lent
written b done lent =
    record {
      list = filled lent.list (clause_list b);
      slices = filled_slices lent.slices (image (variable_count b) done.trail);
      values = at_found done.ending lent.values (filled lent.values (trail_bytes (variable_count b) done.trail));
      drawing = at_found done.ending lent.drawing (filled lent.drawing (decoded b (trail_bytes (variable_count b) done.trail)));
    }

abbrev pub solver_leaves : List ℕ → ℕ → Lent → Lent
solver_leaves s budget lent = unless_refused (solver_answer s budget lent) lent (written (board_of s) (solved (board_of s) budget) lent)
