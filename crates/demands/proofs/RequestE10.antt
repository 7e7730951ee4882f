-- Document 02's request E10 holds. What it says stands in specs/RequestE10.antt; what is cited here is proved in search_theory. Assumes nothing.
use lib.ListN.{length}
use mathlib.Core.Path.{◌≡◌, sym, ap, subst}
use mathlib.Core.Logic.{◌↔◌}
use Rattle.answers.specs.Outcome.{cause}
use Rattle.answers.proofs.Rows.{no-cause}
use Rattle.search.specs.Trail.{HasLength}
use Rattle.search.specs.Call.{Search, Handed, Searching, begins, IsTaken}
use Rattle.search.proofs.Cases.{number_cases_hold}
use Rattle.search_theory.specs.ListedSteps.{negates, forces, chooses}
use Rattle.search_theory.specs.Reasons.{AllExplained}
use Rattle.search_theory.proofs.Accepted.{image_long, right_list, right_numbers, taken_long, taken_explained}
use Rattle.search_theory.proofs.Handed.{comes, hands-done, resumed_taken}
use Rattle.search_theory.proofs.ListedSteps as steps
use Rattle.search_theory.proofs.Numbers as numbers
use Rattle.search_theory.proofs.Reasons.{number-place}
use Rattle.search_theory.proofs.Undo.{undoing, only_undoing}
use Rattle.demands.specs.RequestE10.{NoneBefore22, RequestE10}
use Rattle.demands.proofs.Demands.{demand_1, demand_2, demand_3}
use Rattle.demands.proofs.RequestE1.{request_e1}
use Rattle.demands.proofs.RequestE2.{request_e2}
use Rattle.demands.proofs.RequestE9.{request_e9}

takes : (c : Search) → IsTaken Searching c ↔ (NoneBefore22 c × (length c.slices.numbers ≡ c.variables) × AllExplained c.list (begins c))
takes c = (
  λ ok. let (c17, (c16, (c18, c22))) = ok.clear in
      (record { none_17 = no-cause _ c17; none_16 = c16; none_18 = c18 }, (taken_long ok).numbers, taken_explained ok),
  λ h.
      let numbers = right_numbers c.list (right_list c.variables c.list h.0.none_16).1 c.slices c.used h.1 h.2 in
      record { clear = (ap cause h.0.none_17, (h.0.none_16, (h.0.none_18, (numbers, tt)))) },
)

pub request_e10 : RequestE10
request_e10 =
    record {
      why_forced = λ x c ok budget i. numbers.only_way_left ok budget i;
      gets_V = λ x c ok. taken_long ok;
      leaves-V = λ x c ok budget.
          subst (λ (h : Handed). HasLength c.variables h.slices) (sym (hands-done ok budget)) (image_long c.variables _ (comes ok budget).legal);
      forced_number = λ v ls closed t n k l f. sym (steps.only_step v ls closed t (forces n f));
      chosen_number = λ v ls closed t n m k f. sym (steps.only_step v ls closed t (chooses n m f));
      negated-number = λ t k e f. sym (only_undoing (negates f) (undoing t));
      unused_zero = λ x c ok budget. numbers.unused_zero ok budget;
      after_steps = λ c ok n u. numbers.search_explained ok;
      after-drop = λ c ok t d n u. numbers.next_explained ok d;
      when_left = λ x c ok. numbers.left_explained ok;
      refuses = λ v ls closed s used i. number-place ls closed s v used i;
      takes = takes;
      unused_unread = λ c ns long same x budget. (numbers.unused_unread c ns long same x budget, numbers.unused_left c ns long same x budget);
      taken_again = λ x c ok. resumed_taken ok;
      earlier = record { demand_1 = demand_1; demand_2 = demand_2; demand_3 = demand_3; e1 = request_e1; e2 = request_e2; e9 = request_e9 };
      search_rows = demand_1.search;
      next_rows = request_e1.turned_down;
      samples = number_cases_hold;
    }
