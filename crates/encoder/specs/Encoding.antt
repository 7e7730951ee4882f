-- The encoder's call: what it tells, and what it leaves in the lent list.
use Rattle.std.specs.Prelude.{ℕ, length, ℤ, List, [], ◌∷◌, ◌++◌}
use Rattle.answers.specs.declared.Outcome.{Outcome}
use Rattle.answers.specs.Outcome.{answer, Row, row, first_refusal}
use Rattle.answers.specs.Lent.{too_short, filled, unless_refused}
use Rattle.rules.specs.Record.{record_rows}
use Rattle.rules.specs.Board.{Board, board_of}
use Rattle.encoder.specs.Variables.{variable_count}
use Rattle.encoder.specs.Clauses.{clauses, clause_list}

-- 6, of a grid that was read
abbrev pub encoder_grid_rows : Board → List ℤ → List Row
encoder_grid_rows b out = row 6 (too_short (length out) (length (clause_list b))) ∷ []

-- encoder 1-5, 6
abbrev pub encoder_rows : List ℕ → List ℤ → List Row
encoder_rows s out = record_rows s ++ encoder_grid_rows (board_of s) out

-- the count of elements written, V and the number of clauses
abbrev pub encoder_answer : List ℕ → List ℤ → Outcome
encoder_answer s out = first_refusal (encoder_rows s out) (answer (length (clause_list (board_of s))) (variable_count (board_of s)) (length (clauses (board_of s))))

abbrev pub encoder_leaves : List ℕ → List ℤ → List ℤ
encoder_leaves s out = unless_refused (encoder_answer s out) out (filled out (clause_list (board_of s)))
