-- Document 02's request E9 holds. What it says stands in specs/RequestE9.antt; what is cited here is proved in search_theory. Assumes nothing.
use mathlib.Core.Path.{◌≡◌, refl, sym}
use mathlib.Core.List.{map}
use Rattle.answers.specs.First.{first_from}
use Rattle.answers.specs.Lists.{All}
use Rattle.rules.specs.Board.{outward}
use Rattle.encoder.specs.Variables.{same, variables, place}
use Rattle.encoder.specs.Clauses.{clauses, clause_list}
use Rattle.encoder.specs.Cases as grids
use Rattle.encoder.proofs.Cases.{cases_hold}
use Rattle.search.specs.Trail.{trail_of, variable_value}
use Rattle.search.specs.Step.{every_literal, over_clauses, forced_at, failed_clause, forced_place, lowest_unassigned, undo, step}
use Rattle.search.specs.Run.{run}
use Rattle.search.proofs.Cases.{forced_cases_hold}
use Rattle.search_theory.specs.ListedSteps.{undoes, forces}
use Rattle.search_theory.proofs.Choices.{choice_laws, forcing_found, only_forcing}
use Rattle.search_theory.proofs.Undo.{undoing}
use Rattle.search_theory.proofs.ListedSteps as steps
use Rattle.search_theory.proofs.Listing as listing
use Rattle.demands.specs.Stars.{GridHolds}
use Rattle.demands.specs.RequestE9.{RequestE9, order_grids}
use Rattle.demands.proofs.Stars.{at_each, computes, claims, none_holds, printed_text}

computed : map computes order_grids ≡ map claims order_grids
unfolding first_from outward same variables place clauses clause_list trail_of variable_value every_literal over_clauses forced_at failed_clause forced_place
    lowest_unassigned undo step run
computed = refl

grids_hold : All GridHolds order_grids
grids_hold = by (at_each computes claims order_grids computed) (at_each grids.encodes (λ g. g) grids.cases cases_hold)
  where
    by : All (λ g. computes g ≡ claims g) order_grids → All (λ g. grids.encodes g ≡ g) grids.cases → All GridHolds order_grids
    by c e = (none_holds _ c.0 e.0 printed_text refl refl, (none_holds _ c.1.0 e.1.1.1.1.1.0 tt refl refl, tt))

pub request_e9 : RequestE9
request_e9 =
    record {
      one_forcing = λ ls closed t. forcing_found (choice_laws 0 ls (variable_value t) closed);
      no_other_forcing = λ ls t i j k l. only_forcing (variable_value t);
      takes = λ v ls closed t n k l f. sym (steps.only_step v ls closed t (forces n f));
      undoes_first = λ v ls closed t k f. sym (steps.only_step v ls closed t (undoes f (undoing t)));
      stepped = λ x c ok. steps.stepped ok;
      no_others = λ x c ok. steps.only_stepped ok;
      grids = grids_hold;
      same_order = λ c ok e found h. listing.lists_all ok e h;
      one_order = λ v ls found others. listing.one_listing;
      samples = forced_cases_hold;
    }
