-- The encoder's cases hold, in one statement. Each is computed.
use mathlib.Core.Path.{◌≡◌, refl}
use mathlib.Core.List.{map}
use Rattle.answers.specs.First.{first_from}
use Rattle.rules.specs.Board.{outward}
use Rattle.encoder.specs.Variables.{same, variables, place}
use Rattle.encoder.specs.Clauses.{clauses, clause_list}
use Rattle.encoder.specs.Cases.{cases, encodes}

pub cases_hold : map encodes cases ≡ cases
unfolding first_from outward same variables place clauses clause_list
cases_hold = refl
