-- What the solver's answers tell, and the lent buffers as one record.
use Rattle.std.specs.Prelude.{ℕ, ℤ, List, Result, Ok, Err}
use Rattle.answers.specs.declared.Outcome.{Outcome}
use Rattle.answers.specs.Outcome.{refusal}
use Rattle.rules.specs.Record.{record_refusal_outcome}
use Rattle.search.specs.Trail.{slices}
use Rattle.search_call.specs.declared.End.{End}
use Rattle.search_call.specs.Answers.{end_outcome}
use Rattle.solver.specs.SolverCall.{Lent}
use Rattle.solver_call.specs.declared.SolveRefusal.{SolveRefusal}
use Rattle.solver_call.specs.declared.SolveRefusal.TheVariants.{Record, TooShort}

abbrev pub solve_refusal_outcome : SolveRefusal → Outcome
solve_refusal_outcome (Record r) = record_refusal_outcome r
solve_refusal_outcome (TooShort n) = refusal 6 n

-- how the search ended, or the refusal
abbrev pub solved_outcome : Result End SolveRefusal → Outcome
solved_outcome (Ok e) = end_outcome e
solved_outcome (Err u) = solve_refusal_outcome u

-- the lent buffers
abbrev pub lent_of : List ℤ → List ℤ → List ℕ → List ℕ → List ℕ → List ℕ → Lent
lent_of list trail marks numbers values drawing = record { list = list; slices = slices trail marks numbers; values = values; drawing = drawing }
