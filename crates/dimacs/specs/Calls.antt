-- What the text writer and the text reader tell, and what they leave in the lent buffer.
use Rattle.std.specs.Prelude.{ℕ, ℤ, length, List, [], ◌∷◌}
use Rattle.answers.specs.declared.Outcome.{Outcome}
use Rattle.answers.specs.Outcome.{answer, Row, row, cause, first_refusal}
use Rattle.answers.specs.Lent.{too_short, filled, unless_refused}
use Rattle.cnf.specs.Literals.{too_many_variables, wrong_list}
use Rattle.dimacs.specs.Text.{text_of}
use Rattle.dimacs.specs.Reader.{refused_at, list_read, header_read}

-- writer 17 (for V alone), 16, 6
abbrev pub writer_rows : ℕ → List ℤ → ℕ → List Row
writer_rows v ls room =
    row 17 (cause (too_many_variables v)) ∷
    row 16 (wrong_list v ls) ∷
    row 6 (too_short room (length (text_of v ls))) ∷
    []

-- V, a list, a lent buffer: the count of bytes
abbrev pub writer_answer : ℕ → List ℤ → List ℕ → Outcome
writer_answer v ls buf = first_refusal (writer_rows v ls (length buf)) (answer (length (text_of v ls)) 0 0)

abbrev pub writer_leaves : ℕ → List ℤ → List ℕ → List ℕ
writer_leaves v ls buf = unless_refused (writer_answer v ls buf) buf (filled buf (text_of v ls))

-- text reader 19, 6
abbrev pub reader_rows : List ℕ → ℕ → List Row
reader_rows text room =
    row 19 (refused_at text) ∷
    row 6 (too_short room (length (list_read text))) ∷
    []

-- a text, a lent buffer: the count of elements, V and the number of clauses
abbrev pub reader_answer : List ℕ → List ℤ → Outcome
reader_answer text buf =
    first_refusal (reader_rows text (length buf)) (answer (length (list_read text)) (header_read text).variables (header_read text).clauses)

abbrev pub reader_leaves : List ℕ → List ℤ → List ℤ
reader_leaves text buf = unless_refused (reader_answer text buf) buf (filled buf (list_read text))
