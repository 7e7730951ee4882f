-- What a call tells, and the table "Turned down" of document 01 as a list of its rows.
use Rattle.std.specs.Prelude.{ℕ, Bool, true, false, List, [], ◌∷◌, Option, None, Some}
use Rattle.answers.specs.declared.Outcome.{Outcome}

-- refused: the number and the value beside it
abbrev pub refusal : ℕ → ℕ → Outcome
refusal number beside = record { number = number; first = beside; second = 0; third = 0 }

-- answered: the call's values, 0 where it has fewer than three
abbrev pub answer : ℕ → ℕ → ℕ → Outcome
answer first second third = record { number = 0; first = first; second = second; third = third }

-- the values as four words
abbrev pub words : Outcome → List ℕ
words t = t.first ∷ t.second ∷ t.third ∷ 0 ∷ []

-- a row of the table: its number, and the value beside it where its cause is there
pub record Row : Type 0 where
  pub number : ℕ
  pub beside : Option ℕ

abbrev pub row : ℕ → Option ℕ → Row
row number beside = record { number = number; beside = beside }

-- a cause without a place of its own: 0 stands beside it
abbrev pub cause : Bool → Option ℕ
cause true = Some 0
cause false = None

abbrev pub unless : ℕ → Option ℕ → Outcome → Outcome
unless number None t = t
unless number (Some beside) t = refusal number beside

-- the first row whose cause is there refuses the call; without one it is answered
abbrev pub first_refusal : List Row → Outcome → Outcome
first_refusal [] t = t
first_refusal (r ∷ rs) t = unless r.number r.beside (first_refusal rs t)
