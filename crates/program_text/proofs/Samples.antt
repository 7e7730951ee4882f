-- What the programs print for document 01's sample records. Assumes nothing.
use Prim.Native.Nat.{ℕ}
use mathlib.Core.Path.{◌≡◌, refl}
use mathlib.Core.List.{List, [], ◌∷◌}
use Rattle.answers.specs.First.{first_from}
use Rattle.text.specs.Decimal.{decimal_in}
use Rattle.dimacs.specs.Text.{lines}
use Rattle.dimacs.specs.Sample.{one_cell_text}
use Rattle.encoder.specs.Variables.{variables, same, place}
use Rattle.encoder.specs.Clauses.{clauses, clause_list}
use Rattle.search.specs.Trail.{variable_value, values_from}
use Rattle.search.specs.Step.{every_literal, over_clauses, forced_at, failed_clause, forced_place, lowest_unassigned, undo, step}
use Rattle.search.specs.Run.{run}
use Rattle.program_text.specs.Lines.{drawing_from}
use Rattle.program_text.specs.Programs.{printed_clauses, printed_solution}

-- `07 00 01 00 01 01 00`: 1×1 open
abbrev pub one_open : List ℕ
one_open = 7 ∷ 0 ∷ 1 ∷ 0 ∷ 1 ∷ 1 ∷ 0 ∷ []

-- `0a 00 01 00 02 02 00 00 00 00`: 2×2 open
abbrev pub four_open : List ℕ
four_open = 10 ∷ 0 ∷ 1 ∷ 0 ∷ 2 ∷ 2 ∷ 0 ∷ 0 ∷ 0 ∷ 0 ∷ []

-- `06 0c`, `03 09`
abbrev four_text : List ℕ
four_text =
    48 ∷ 54 ∷ 32 ∷ 48 ∷ 99 ∷ 10 ∷
    48 ∷ 51 ∷ 32 ∷ 48 ∷ 57 ∷ 10 ∷
    []

pub samples : (printed_clauses one_open ≡ one_cell_text) × (printed_solution four_open ≡ four_text)
unfolding first_from decimal_in lines variables same place clauses clause_list variable_value values_from every_literal over_clauses
    forced_at failed_clause forced_place lowest_unassigned undo step run drawing_from
samples = (refl, refl)
