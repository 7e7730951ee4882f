-- Calls of `next`, computed: what is dropped, what is counted, what is refused first.
use lib.IntN.{pos, negsuc}
use mathlib.Core.Path.{◌≡◌, refl}
use mathlib.Core.List.{[], ◌∷◌}
use Rattle.answers.specs.First.{first_from}
use Rattle.answers.specs.Outcome.{refusal, answer}
use Rattle.search.specs.Trail.{laid, trail_of, variable_value}
use Rattle.search.specs.Step.{every_literal, over_clauses, forced_at, failed_clause, forced_place, lowest_unassigned, undo, step}
use Rattle.search.specs.Run.{run, following}
use Rattle.search.specs.Call.{search_on, by_search, by_next}

-- a trail that is not full, with an entry beyond V: 18
pub entries_first : (by_next (search_on 2 [] (pos 7 ∷ pos 0 ∷ []) (0 ∷ 0 ∷ []) (0 ∷ 0 ∷ []) 1) 1).outcome ≡ refusal 18 0
unfolding first_from trail_of variable_value failed_clause over_clauses undo following
entries_first = refl

-- not full, or under it the clause 1 is untrue: 20, with budget 0 too
pub not_full : (by_next (search_on 1 [] (pos 0 ∷ []) (0 ∷ []) (0 ∷ []) 0) 0).outcome ≡ refusal 20 0
unfolding first_from trail_of variable_value failed_clause over_clauses following
not_full = refl

pub clause_untrue : (by_next (search_on 1 (pos 1 ∷ pos 0 ∷ []) (negsuc 0 ∷ []) (1 ∷ []) (0 ∷ []) 1) 0).outcome ≡ refusal 20 0
unfolding first_from trail_of variable_value every_literal failed_clause over_clauses following
clause_untrue = refl

-- with budget 0 nothing is dropped
pub nothing_dropped : (by_next (search_on 1 [] (negsuc 0 ∷ []) (1 ∷ []) (0 ∷ []) 1) 0).slices.trail ≡ negsuc 0 ∷ []
unfolding first_from laid trail_of variable_value failed_clause over_clauses following
nothing_dropped = refl

-- the drop is a step, and the other value is found at the second
pub drop-counted : (by_next (search_on 1 [] (negsuc 0 ∷ []) (1 ∷ []) (0 ∷ []) 1) 9).outcome ≡ answer 1 2 1
unfolding first_from trail_of variable_value every_literal over_clauses forced_at failed_clause forced_place lowest_unassigned undo step run following
drop-counted = refl

pub other-found : (by_next (search_on 1 [] (negsuc 0 ∷ []) (1 ∷ []) (0 ∷ []) 1) 9).slices.trail ≡ pos 1 ∷ []
unfolding first_from laid trail_of variable_value every_literal over_clauses forced_at failed_clause forced_place lowest_unassigned undo step run following
other-found = refl

-- no mark is 1: "none" at the drop, and the entries stay
pub none_left : (by_next (search_on 1 [] (negsuc 0 ∷ []) (0 ∷ []) (0 ∷ []) 1) 9).outcome ≡ answer 2 1 1
unfolding first_from trail_of variable_value failed_clause over_clauses undo following
none_left = refl

pub entries_kept : (by_next (search_on 1 [] (negsuc 0 ∷ []) (0 ∷ []) (0 ∷ []) 1) 9).slices.trail ≡ negsuc 0 ∷ []
unfolding first_from laid trail_of variable_value failed_clause over_clauses undo following
entries_kept = refl

-- such a trail still satisfies the list: a search on it says "found"
pub found_still : (by_search (search_on 1 [] (negsuc 0 ∷ []) (0 ∷ []) (0 ∷ []) 1) 9).outcome ≡ answer 1 1 1
unfolding first_from trail_of variable_value every_literal over_clauses forced_at failed_clause forced_place lowest_unassigned undo step run
found_still = refl

-- halted after the drop, the trail may be full again: the steps tell, and the search goes on
pub halted_full : (by_next (search_on 1 [] (negsuc 0 ∷ []) (1 ∷ []) (0 ∷ []) 1) 1).outcome ≡ answer 3 1 1
unfolding first_from trail_of variable_value failed_clause over_clauses undo run following
halted_full = refl
