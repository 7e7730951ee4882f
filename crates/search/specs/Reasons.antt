-- Document 02, E10, "The clause behind each entry": the clause of an entry's number, and row 22 of "Turned down".
use Rattle.std.specs.Prelude.{ℕ, ◌-◌, eqb, ℤ, length, drop, Bool, not, ◌&&◌, ◌||◌, List, Option}
use Rattle.answers.specs.First.{first_where, or_else}
use Rattle.answers.specs.Outcome.{cause}
use Rattle.cnf.specs.Literals.{code_of}
use Rattle.cnf.specs.Clauses.{place_after}
use Rattle.search.specs.Trail.{Entry, Slices, entry_at, trail_of, variable_value}
use Rattle.search.specs.Step.{every_literal, fails, passes_but}

-- a literal that is not l
abbrev pub differs : ℤ → ℤ → Bool
differs l k = not (eqb (code_of k) (code_of l))

-- the clause at hand holds l, and every literal in it that differs from that one passes the test. (At the list's end there is none: then neither `every_literal`
-- holds.)
abbrev pub is_reason : (ℤ → Bool) → ℤ → List ℤ → Bool
is_reason p l c = not (every_literal (differs l) c) && every_literal (passes_but p l) c

-- the list from the clause with a number, from 1, on; the end of the list, if there is none, which is no reason for anything
abbrev pub from_number : List ℤ → ℕ → List ℤ
from_number ls n = drop (place_after (n - 1) ls) ls

-- an entry that has a number beside a mark 1, or one whose clause is no reason for its literal, by a test for false literals
abbrev pub wrong_number : (ℤ → Bool) → List ℤ → Entry → Bool
wrong_number p ls e = not (eqb e.number 0) && (eqb e.mark 1 || not (is_reason p e.literal (from_number ls e.number)))

-- a literal is false by the entries before it
abbrev pub wrong_number_at : List ℤ → Slices → ℕ → Bool
wrong_number_at ls s i = wrong_number (fails (variable_value (trail_of s i))) ls (entry_at s i)

-- 22: third slice not V long (beside it 0) or breaking this (the first entry)
abbrev pub wrong_numbers : ℕ → List ℤ → Slices → ℕ → Option ℕ
wrong_numbers v ls s used = or_else (cause (not (eqb (length s.numbers) v))) (first_where (wrong_number_at ls s) used)
