-- The list after the header: its elements, or the place of the refusal; and the clauses that an element leaves closed.
use Rattle.std.specs.Prelude.{ℕ, eqb, ℤ, length, drop, true, false, List, Result, Ok, Err, Option, None, Some}
use Rattle.answers.specs.Lists.{tally}
use Rattle.dimacs.specs.Automaton.{refused_from}
use Rattle.dimacs.specs.Reader.{Header, clause, step_byte, accepts, list_from}
use Rattle.dimacs_cursor.specs.declared.BadByte.{BadByte}

-- the elements from a place on, up to the refusal if there is one
abbrev pub list_at : List ℕ → Header → ℕ → List ℤ
list_at text h at = list_from (clause h 0 false true) (drop at text)

abbrev pub body_refused_at : List ℕ → Header → ℕ → Option ℕ
body_refused_at text h at = refused_from step_byte accepts (clause h 0 false true) (drop at text) at

abbrev pub listed_or : Option ℕ → ℕ → Result ℕ BadByte
listed_or None n = Ok n
listed_or (Some p) n = Err (record { at = p })

-- the count of the elements, or the place of the refusal
abbrev pub listed : List ℕ → Header → ℕ → Result ℕ BadByte
listed text h at = listed_or (body_refused_at text h at) (length (list_at text h at))

abbrev pub closed_after : ℕ → ℕ → ℕ
closed_after k x = tally (eqb x 0) k
