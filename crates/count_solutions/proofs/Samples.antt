-- What the program prints for document 01's sample records. Assumes nothing.
use mathlib.Core.Path.{◌≡◌, refl}
use Rattle.answers.specs.First.{first_from}
use Rattle.encoder.specs.Variables.{variables, same, place}
use Rattle.encoder.specs.Clauses.{clauses, clause_list}
use Rattle.search.specs.Trail.{variable_value}
use Rattle.search.specs.Step.{every_literal, over_clauses, forced_at, failed_clause, forced_place, lowest_unassigned, undo, step}
use Rattle.search.specs.Run.{run, following}
use Rattle.program_text.specs.Lines.{none_line, one_line}
use Rattle.program_text.proofs.Samples.{one_open, four_open}
use Rattle.count_solutions.specs.Printed.{printed_count}

pub samples : (printed_count one_open ≡ none_line) × (printed_count four_open ≡ one_line)
unfolding first_from variables same place clauses clause_list variable_value every_literal over_clauses
    forced_at failed_clause forced_place lowest_unassigned undo step run following
samples = (refl, refl)
