-- Calls in which two things apply at once, computed: the one that comes first decides.
use lib.IntN.{pos, negsuc}
use mathlib.Core.Path.{◌≡◌, refl}
use mathlib.Core.List.{[], ◌∷◌}
use Rattle.answers.specs.First.{first_from}
use Rattle.answers.specs.Outcome.{refusal, answer}
use Rattle.search.specs.Trail.{laid, trail_of, variable_value}
use Rattle.search.specs.Step.{every_literal, over_clauses, forced_at, failed_clause, forced_place, lowest_unassigned, undo, step}
use Rattle.search.specs.Run.{run}
use Rattle.search.specs.Call.{search_on, by_search}

-- no trail of V entries, and a literal beyond V: 17
pub lengths_first : (by_search (search_on 1 (pos 5 ∷ []) [] [] [] 0) 1).outcome ≡ refusal 17 0
unfolding first_from trail_of
lengths_first = refl

-- a literal beyond V in the list, and one in the trail: 16
pub list_first : (by_search (search_on 1 (pos 5 ∷ []) (pos 7 ∷ []) (0 ∷ []) (0 ∷ []) 1) 1).outcome ≡ refusal 16 0
unfolding first_from trail_of
list_first = refl

-- after −1 was forced, the clause 1 has failed and the clause 2 would force: none at step 2
pub failed_first :
    (by_search (search_on 2 (negsuc 0 ∷ pos 0 ∷ pos 1 ∷ pos 0 ∷ pos 2 ∷ pos 0 ∷ []) (pos 0 ∷ pos 0 ∷ []) (0 ∷ 0 ∷ []) (0 ∷ 0 ∷ []) 0) 9).outcome
    ≡ answer 2 2 1
unfolding first_from trail_of variable_value every_literal over_clauses forced_at failed_clause forced_place lowest_unassigned undo step run
failed_first = refl

-- a choice is appended negated and marked 1
pub choice_negated : (by_search (search_on 1 [] (pos 0 ∷ []) (0 ∷ []) (0 ∷ []) 0) 1).slices.trail ≡ negsuc 0 ∷ []
unfolding first_from laid trail_of variable_value every_literal over_clauses forced_at failed_clause forced_place lowest_unassigned undo step run
choice_negated = refl

pub choice_marked : (by_search (search_on 1 [] (pos 0 ∷ []) (0 ∷ []) (0 ∷ []) 0) 1).slices.marks ≡ 1 ∷ []
unfolding first_from laid trail_of variable_value every_literal over_clauses forced_at failed_clause forced_place lowest_unassigned undo step run
choice_marked = refl

-- with budget 0 the unused entries and marks are written 0
pub budget_none : (by_search (search_on 2 [] (pos 1 ∷ pos 9 ∷ []) (1 ∷ 9 ∷ []) (0 ∷ 0 ∷ []) 1) 0).slices.trail ≡ pos 1 ∷ pos 0 ∷ []
unfolding first_from laid trail_of variable_value run
budget_none = refl
