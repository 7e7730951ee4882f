-- "One step does the first that applies", and the choices of a step. What a `let` binds is computed only where it is read.
use Rattle.std.specs.Prelude.{ℕ, suc, eqb, ltb, ℤ, pos, negsuc, neg_ℤ, get_or, Bool, true, false, ◌&&◌, ◌||◌, cond, List, [], ◌∷◌, Option, None, Some}
use Rattle.answers.specs.First.{found, first_where, or_else}
use Rattle.cnf.specs.Literals.{closes, code_of, variable_at}
use Rattle.cnf.specs.Clauses.{clause_number}
use Rattle.search.specs.Trail.{Entry, entry, Trail, Value, True, False, Unassigned, is_false, is_unassigned, variable_value, Values, literal_value}

-- the literals of the clause at hand, up to the 0 that closes it (in an accepted list there is one), all pass a test
unfoldable pub every_literal : (ℤ → Bool) → List ℤ → Bool
every_literal p [] = false
every_literal p (l ∷ ls) =
    let rest : Bool = every_literal p ls in
    let on : Bool = p l && rest in
    closes l || on

-- what is found at the clauses in list order: `look` gets the place where a clause begins, and the list from there on; `join` gets what it finds, and what is
-- found at the clauses after it; `begins` tells whether a clause begins at i
unfoldable pub over_clauses : (Option ℕ → Option ℕ → Option ℕ) → (ℕ → List ℤ → Option ℕ) → Bool → ℕ → List ℤ → Option ℕ
over_clauses join look begins i [] = None
over_clauses join look begins i (l ∷ ls) =
    let rest : Option ℕ = over_clauses join look (closes l) (suc i) ls in
    cond begins (join (look i (l ∷ ls)) rest) rest

-- a false literal
abbrev pub fails : Values → ℤ → Bool
fails w l = is_false (literal_value w l)

-- a failed clause: its literals are all false
abbrev pub failed_at : Values → ℕ → List ℤ → Option ℕ
failed_at w i c = found (every_literal (fails w) c) i None

-- a literal that is l, or passes the test
abbrev pub passes_but : (ℤ → Bool) → ℤ → ℤ → Bool
passes_but p l k = eqb (code_of k) (code_of l) || p k

-- a literal that is l, or false
abbrev pub fails_but : Values → ℤ → ℤ → Bool
fails_but w l k = passes_but (fails w) l k

-- what a literal of a clause leaves to be found: nothing if it is true, what the rest gives if it is false, else itself
abbrev pub by_value : Value → Option ℕ → Option ℕ → Option ℕ
by_value True here rest = None
by_value False here rest = rest
by_value Unassigned here rest = here

-- a clause without a true literal whose unassigned literals are all one literal: the place of the first of them
unfoldable pub forced_at : Values → ℕ → List ℤ → Option ℕ
forced_at w i [] = None
forced_at w i (l ∷ ls) =
    let rest : Option ℕ = forced_at w (suc i) ls in
    let here : Option ℕ = found (every_literal (fails_but w l) ls) i None in
    let on : Option ℕ = by_value (literal_value w l) here rest in
    cond (closes l) None on

-- the first failed clause: the place where it begins
unfoldable pub failed_clause : Values → List ℤ → Option ℕ
failed_clause w ls = over_clauses or_else (failed_at w) true 0 ls

-- of two places the one with the lower variable; the first, where it is the same
abbrev pub lower_place : List ℤ → Option ℕ → Option ℕ → Option ℕ
lower_place ls None o = o
lower_place ls (Some p) None = Some p
lower_place ls (Some p) (Some q) = found (ltb (variable_at ls q) (variable_at ls p)) q (Some p)

-- of the clauses that force a literal the one with the lowest variable, and the earliest of those: the place, in the list, of the literal to append
unfoldable pub forced_place : Values → List ℤ → Option ℕ
forced_place w ls = over_clauses (lower_place ls) (forced_at w) true 0 ls

-- the lowest unassigned variable, by its index from 0
unfoldable pub lowest_unassigned : ℕ → Values → Option ℕ
lowest_unassigned v w = first_where (λ n. is_unassigned (w (suc n))) v

-- negate it, mark it 0; the number of a negated choice is 0
abbrev pub negated : Entry → Entry
negated e = entry (neg_ℤ e.literal) 0 0

-- undo back to the last entry marked 1, negate it, mark it 0
unfoldable pub undo : Trail → Option Trail
undo [] = None
undo (e ∷ t) =
    let back : Option Trail = undo t in
    cond (eqb e.mark 1) (Some (negated e ∷ t)) back

-- after a step: a trail, or an answer
pub data Next : Type 0 where
  Moved : Trail → Next
  AnsweredFound : Next
  AnsweredNone : Next

-- if no mark is 1, answer "none"
abbrev pub undone : Option Trail → Next
undone (Some u) = Moved u
undone None = AnsweredNone

abbrev pub undoes : Trail → Next
undoes t = undone (undo t)

-- a failed clause: undo
abbrev pub on_failed : Option ℕ → Trail → Next → Next
on_failed (Some i) t later = undoes t
on_failed None t later = later

-- a clause that forces a literal: append that, mark 0, with the clause's number
abbrev pub on_forced : Option ℕ → List ℤ → Trail → Next → Next
on_forced (Some i) ls t later = Moved (entry (get_or ls i (pos 0)) 0 (clause_number ls i) ∷ t)
on_forced None ls t later = later

-- an unassigned variable: append the lowest, negated, mark 1 (the number of a choice is 0); else answer "found"
abbrev pub on_unassigned : Option ℕ → Trail → Next
on_unassigned (Some n) t = Moved (entry (negsuc n) 1 0 ∷ t)
on_unassigned None t = AnsweredFound

-- one step does the first that applies
unfoldable pub step : ℕ → List ℤ → Trail → Next
step v ls t =
    let last : Next = on_unassigned (lowest_unassigned v (variable_value t)) t in
    let later : Next = on_forced (forced_place (variable_value t) ls) ls t last in
    on_failed (failed_clause (variable_value t) ls) t later
