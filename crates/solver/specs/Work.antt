-- The work buffers of the calls that search a grid's clauses: a clause list and the slices of a search.
use Rattle.std.specs.Prelude.{ℕ, ℤ, length, List, [], ◌∷◌}
use Rattle.answers.specs.Outcome.{Row, row}
use Rattle.answers.specs.Lent.{too_short, filled}
use Rattle.rules.specs.Board.{Board}
use Rattle.encoder.specs.Variables.{variable_count}
use Rattle.encoder.specs.Clauses.{clause_list}
use Rattle.search.specs.Trail.{Trail, Slices, filled_slices, image}

pub record Work : Type 0 where
  pub list : List ℤ
  pub slices : Slices

abbrev pub work_of : List ℤ → Slices → Work
work_of list slices = record { list = list; slices = slices }

-- 6, sought in the order clause list, trail, marks, clause numbers; beside it the elements needed, which are those of the list, and V
abbrev pub work_rows : ℕ → ℕ → Work → List Row
work_rows elements v w =
    row 6 (too_short (length w.list) elements) ∷
    row 6 (too_short (length w.slices.trail) v) ∷
    row 6 (too_short (length w.slices.marks) v) ∷
    row 6 (too_short (length w.slices.numbers) v) ∷
    []

-- of a grid
abbrev pub grid_work_rows : Board → Work → List Row
grid_work_rows b w = work_rows (length (clause_list b)) (variable_count b) w

-- the clause list is written as the encoder, the slices as the last search leaves them; elements past what is needed are untouched
abbrev pub worked : Board → Trail → Work → Work
worked b t w = work_of (filled w.list (clause_list b)) (filled_slices w.slices (image (variable_count b) t))
