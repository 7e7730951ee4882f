-- The starred lists hold, those of E9, and the calls of E10. Each is computed.
use mathlib.Core.Path.{◌≡◌, refl}
use lib.IntN.{pos, negsuc}
use Rattle.std.specs.Prelude.{Some}
use mathlib.Core.List.{[], ◌∷◌, map}
use Rattle.answers.specs.First.{first_from}
use Rattle.answers.specs.Lists.{All}
use Rattle.cnf.specs.Clauses.{place_after}
use Rattle.search.specs.Trail.{entry, laid, trail_of, variable_value}
use Rattle.search.specs.Step.{every_literal, over_clauses, forced_at, failed_clause, forced_place, lowest_unassigned, undo, step}
use Rattle.search.specs.Run.{run, following}
use Rattle.search.specs.Cases.{Case, cases, from_empty, ForcedCase, forced_cases, searches, NumberCase, number_cases, called}

pub cases_hold : map from_empty cases ≡ map (λ (c : Case). c.says) cases
unfolding first_from trail_of variable_value every_literal over_clauses forced_at failed_clause forced_place lowest_unassigned undo step run
cases_hold = refl

pub forced_cases_hold : All (λ (c : ForcedCase). searches c ≡ c) forced_cases
unfolding first_from laid trail_of variable_value every_literal over_clauses forced_at failed_clause forced_place lowest_unassigned undo step run
forced_cases_hold = (refl, (refl, (refl, (refl, (refl, (refl, (refl, (refl, tt))))))))

pub number_cases_hold : All (λ (c : NumberCase). called c ≡ c) number_cases
unfolding first_from laid trail_of variable_value every_literal over_clauses forced_at failed_clause forced_place lowest_unassigned undo step run following place_after
number_cases_hold =
    (refl, (refl, (refl, (refl, (refl, (refl, (refl, (refl, (refl, (refl, (refl, (refl, (refl, (refl, (refl, (refl, (refl, (refl, tt))))))))))))))))))

-- undoing takes the number away, whatever it was
pub negated_unnumbered : undo (entry (pos 1) 1 5 ∷ []) ≡ Some (entry (negsuc 0) 0 0 ∷ [])
unfolding undo
negated_unnumbered = refl
