-- What the functions ask and give.
use Rattle.std.specs.Prelude.{ℕ, ◌≤◌, ℤ, length, take, ◌≡◌, List}
use Rattle.answers.specs.Lent.{filled}
use Rattle.rules.specs.declared.Grid.{Grid}
use Rattle.rules.specs.Board.{board_of}
use Rattle.encoder.specs.Variables.{variable_count}
use Rattle.encoder.specs.Clauses.{clause_list}
use Rattle.encoder.specs.Decoding.{decoded}
use Rattle.search.specs.Trail.{Slices, filled_slices, image}
use Rattle.search.specs.Run.{done_outcome}
use Rattle.search_call.specs.declared.End.{End}
use Rattle.search_call.specs.Answers.{end_outcome}
use Rattle.solver.specs.SolverCall.{solved, trail_bytes, at_found}
use Rattle.solver_listing.specs.Read.{IsRead}
use Rattle.solver_call.specs.declared.Needs.{Needs}
use Rattle.solver_call.specs.Room.{needs_of}

-- a grid and its record, a list that begins with the grid's clauses, and buffers that have room
pub record Fits (g : Grid) (s : List ℕ) (needed : Needs) (ls : List ℤ) (lent : Slices) (vs ds : List ℕ) : Type 0 where
  pub read : IsRead g s
  pub needs : needed ≡ needs_of (board_of s)
  pub clauses : take needed.elements ls ≡ clause_list (board_of s)
  pub list : needed.elements ≤ length ls
  pub trail : needed.variables ≤ length lent.trail
  pub marks : needed.variables ≤ length lent.marks
  pub numbers : needed.variables ≤ length lent.numbers
  pub values : needed.variables ≤ length vs
  pub drawing : needed.cells ≤ length ds

-- from the slices, values and drawing, what is answered and left in them
pub record Ends (s : List ℕ) (budget : ℕ) (lent : Slices) (vs ds : List ℕ) (e : End) (left : Slices) (ws es : List ℕ) : Type 0 where
  pub outcome : end_outcome e ≡ done_outcome (solved (board_of s) budget)
  pub slices : left ≡ filled_slices lent (image (variable_count (board_of s)) (solved (board_of s) budget).trail)
  pub values : ws ≡ at_found (solved (board_of s) budget).ending vs (filled vs (trail_bytes (variable_count (board_of s)) (solved (board_of s) budget).trail))
  pub drawing : es
      ≡ at_found (solved (board_of s) budget).ending ds
      (filled ds (decoded (board_of s) (trail_bytes (variable_count (board_of s)) (solved (board_of s) budget).trail)))
