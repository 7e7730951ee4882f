-- A search begun empty on a grid's clauses.
use Rattle.std.specs.Prelude.{ℕ, ◌≡◌, List}
use Rattle.rules.specs.Record.{IsAccepted}
use Rattle.rules.specs.Board.{board_of}
use Rattle.encoder.specs.Variables.{variable_count}
use Rattle.encoder.specs.Clauses.{clause_list}
use Rattle.search.specs.Trail.{HasLength}
use Rattle.search.specs.Call.{Search}

-- the grid is accepted, V is that grid's, the used count is 0, and of each slice V elements are lent
pub record BegunOn (s : List ℕ) (c : Search) : Type 0 where
  pub grid : IsAccepted s
  pub variables : c.variables ≡ variable_count (board_of s)
  pub list : c.list ≡ clause_list (board_of s)
  pub empty : c.used ≡ 0
  pub slices : HasLength c.variables c.slices
