-- Document 02's request E1 holds. What it says stands in specs/RequestE1.antt; what is cited here is proved in search_theory and solver. Assumes nothing.
use mathlib.Core.Path.{refl}
use Rattle.answers.proofs.ByRows.{by_rows}
use Rattle.answers.proofs.Settled.{untouched}
use Rattle.search.specs.Trail.{image}
use Rattle.search.specs.Run.{Done, done_outcome}
use Rattle.search.specs.Call.{Following, rows_of, begins, runs, by_next}
use Rattle.search_theory.proofs.Handed.{next_exactly}
use Rattle.search_theory.proofs.Theorems as theorems
use Rattle.search_theory.proofs.Undo.{undoes_to, undoes_nothing}
use Rattle.search_theory.proofs.ListedSteps as steps
use Rattle.search_theory.proofs.Listing as listing
use Rattle.solver.proofs.Begun as begun
use Rattle.demands.specs.RequestE1.{RequestE1}

pub request_e1 : RequestE1
request_e1 =
    record {
      stepped = λ c ok. steps.stepped ok;
      no_others = λ c ok. steps.only_stepped ok;
      only_open = λ c ok h. theorems.only_open ok (undoes_nothing (begins c) h);
      drop-opens = λ c ok u h. theorems.drop-opens ok u (undoes_to h);
      same_others = λ c ok. theorems.same_open ok;
      unless_halted = λ c ok. theorems.unless_halted ok;
      few_steps = λ c ok. theorems.few_steps ok;
      halted_steps = λ c ok. theorems.halted_steps ok;
      lists_all = λ c ok e found h. listing.lists_all ok e h;
      carried_on = λ c ok. listing.carried_on_lem ok;
      lists_solutions = begun.lists_solutions;
      one_exactly = begun.one_exactly;
      one_listed = begun.one_listed;
      turned_down = λ c budget.
          let d : Done = runs Following c budget in
          by_rows (done_outcome d) refl _ (rows_of c Following) refl refl (untouched (by_next c budget).outcome c.slices (image c.variables d.trail));
      taken_exactly = λ c. next_exactly;
    }
