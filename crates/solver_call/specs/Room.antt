-- What a grid needs, and the rows of 6 that need it.
use Rattle.std.specs.Prelude.{length, List, [], ◌∷◌, ◌++◌}
use Rattle.answers.specs.Outcome.{Row, row}
use Rattle.answers.specs.Lent.{too_short}
use Rattle.rules.specs.Board.{Board}
use Rattle.encoder.specs.Variables.{variable_count}
use Rattle.encoder.specs.Clauses.{clause_list}
use Rattle.solver.specs.Work.{work_of, work_rows}
use Rattle.solver.specs.SolverCall.{Lent}
use Rattle.solver_call.specs.declared.Needs.{Needs}

abbrev pub needs_of : Board → Needs
needs_of b = record { elements = length (clause_list b); variables = variable_count b; cells = b.size }

-- the rows of the values and of the drawing
abbrev pub drawing_rows : Lent → Needs → List Row
drawing_rows lent needed =
    row 6 (too_short (length lent.values) needed.variables) ∷
    row 6 (too_short (length lent.drawing) needed.cells) ∷
    []

-- the solver's rows of 6, by what is needed
abbrev pub short_rows : Lent → Needs → List Row
short_rows lent needed =
    work_rows needed.elements needed.variables (work_of lent.list lent.slices) ++ drawing_rows lent needed
