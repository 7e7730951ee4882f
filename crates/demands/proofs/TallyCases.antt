-- The calls of E11's tally hold. They are computed here, and not in `solver`, whose edits would compute them again. Assumes nothing.
use mathlib.Core.Path.{◌≡◌, refl}
use mathlib.Core.List.{map}
use Rattle.answers.specs.First.{first_from}
use Rattle.rules.specs.Board.{outward}
use Rattle.encoder.specs.Variables.{variables, same, place}
use Rattle.encoder.specs.Clauses.{clauses, clause_list}
use Rattle.search.specs.Trail.{laid, trail_of, variable_value, values_from}
use Rattle.search.specs.Step.{every_literal, over_clauses, forced_at, failed_clause, forced_place, lowest_unassigned, undo, step}
use Rattle.search.specs.Run.{run, following}
use Rattle.solver.specs.Listing.{carried_on}
use Rattle.solver.specs.Cases.{tally_cases, tally_called}

pub tally_cases_hold : map tally_called tally_cases ≡ tally_cases
unfolding first_from outward variables same place clauses clause_list laid trail_of variable_value values_from every_literal over_clauses forced_at failed_clause
    forced_place lowest_unassigned undo step run following carried_on
tally_cases_hold = refl
