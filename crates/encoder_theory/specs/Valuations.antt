-- Clauses and assignments by the variables' names instead of their numbers.
use Rattle.std.specs.Prelude.{get_or, ◌≡◌, Bool, true, false, List}
use Rattle.answers.specs.Lists.{All, Some}
use Rattle.rules.specs.Board.{Board}
use Rattle.encoder.specs.Variables.{Variable, variables, place}
use Rattle.encoder.specs.Clauses.{Literal, plus, minus, Clause}

-- a literal is true
abbrev pub True : (Variable → Bool) → Literal → Type 0
True w (plus v) = w v ≡ true
True w (minus v) = w v ≡ false

-- every clause has a true literal
abbrev pub Sat : (Variable → Bool) → Clause → Type 0
Sat w c = Some (True w) c

abbrev pub Holds : (Variable → Bool) → List Clause → Type 0
Holds w cs = All (Sat w) cs

-- the values that an assignment gives the variables, false to what is no variable
abbrev pub valuation : Board → List Bool → Variable → Bool
valuation b a v = get_or a (place v (variables b)) false
