-- What the call tells of V, a clause list and the words of a batch.
use Rattle.std.specs.Prelude.{ℕ, eqb, ℤ, length, Bool, not, List, [], ◌∷◌}
use Rattle.answers.specs.declared.Outcome.{Outcome}
use Rattle.answers.specs.Outcome.{answer, Row, row, cause, first_refusal}
use Rattle.cnf.specs.Literals.{too_many_variables, wrong_list}
use Rattle.cnf_batch.specs.Batch.{satisfied_word}

-- 21: words not V long
abbrev pub wrong_words : ℕ → List ℕ → Bool
wrong_words v words = not (eqb (length words) v)

-- "21 .. after 17 for V and before 16"
abbrev pub batch_rows : ℕ → List ℤ → List ℕ → List Row
batch_rows v ls words =
    row 17 (cause (too_many_variables v)) ∷
    row 21 (cause (wrong_words v words)) ∷
    row 16 (wrong_list v ls) ∷
    []

abbrev pub batch_answer : ℕ → List ℤ → List ℕ → Outcome
batch_answer v ls words = first_refusal (batch_rows v ls words) (answer (satisfied_word words ls) 0 0)

-- what the reading of the list tells, with as many variables as words: 16, else the word
abbrev pub reading_rows : List ℕ → List ℤ → List Row
reading_rows words ls = row 16 (wrong_list (length words) ls) ∷ []

abbrev pub reading_answer : List ℕ → List ℤ → Outcome
reading_answer words ls = first_refusal (reading_rows words ls) (answer (satisfied_word words ls) 0 0)
