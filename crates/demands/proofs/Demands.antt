-- The three demands of the request hold. What each says stands in specs/Demands.antt; what is cited here is proved in the theories and in the files
-- beside this one. Assumes nothing.
use lib.ListN.{length}
use mathlib.Core.Path.{refl, sym, ◌∙◌, ap}
use mathlib.Core.List.{◌++◌}
use Rattle.answers.specs.declared.Outcome.{Outcome}
use Rattle.answers.specs.Outcome.{answer}
use Rattle.answers.specs.Lent.{filled, unless_refused}
use Rattle.answers.proofs.First.{first_some, some_first}
use Rattle.answers.proofs.Rows.{answered_clear, clear_answered}
use Rattle.answers.proofs.ByRows.{by_rows, short}
use Rattle.answers.proofs.Settled.{untouched}
use Rattle.rules.specs.Record.{grid_of, record_rows, grid_answer}
use Rattle.rules.specs.Board.{board_of}
use Rattle.rules.specs.Judge.{judge_rows, says_yes}
use Rattle.rules_theory.proofs.Theorems as rules
use Rattle.dimacs.specs.Text.{text_of}
use Rattle.dimacs.specs.Reader.{list_read, header_read}
use Rattle.dimacs.specs.Calls.{writer_rows, reader_rows, writer_answer, reader_answer}
use Rattle.dimacs_theory.proofs.Theorems as dimacs
use Rattle.encoder.specs.Variables.{variable_count}
use Rattle.encoder.specs.Clauses.{clauses, clause_list}
use Rattle.encoder.specs.Encoding.{encoder_rows, encoder_answer}
use Rattle.encoder_theory.proofs.Theorems as encoder
use Rattle.search.specs.Trail.{image}
use Rattle.search.specs.Run.{Done, done_outcome}
use Rattle.search.specs.Call.{Searching, rows_of, runs, by_search}
use Rattle.search_theory.proofs.Theorems as search
use Rattle.search_theory.proofs.Places as places
use Rattle.search_theory.proofs.ListedSteps as steps
use Rattle.solver.proofs.Begun as begun
use Rattle.demands.specs.Demands.{Demand1, Demand2, Demand3}
use Rattle.demands.proofs.DecoderTable.{decoder_call}

pub demand_1 : Demand1
demand_1 =
    record {
      record_reader = λ s. by_rows (grid_answer (grid_of s)) refl _ (record_rows s) refl refl (λ n. tt);
      judge = λ s ds. by_rows says_yes refl _ (record_rows s ++ judge_rows (board_of s) ds) refl refl (λ n. tt);
      encoder = λ s out.
          by_rows (answer (length (clause_list (board_of s))) (variable_count (board_of s)) (length (clauses (board_of s)))) refl _ (encoder_rows s out) refl refl
          (untouched (encoder_answer s out) out (filled out (clause_list (board_of s))));
      decoder = λ s values lent. decoder_call s values lent _ refl;
      search = λ c budget.
          let d : Done = runs Searching c budget in
          by_rows (done_outcome d) refl _ (rows_of c Searching) refl refl (untouched (by_search c budget).outcome c.slices (image c.variables d.trail));
      writer = λ v ls out.
          by_rows (answer (length (text_of v ls)) 0 0) refl _ (writer_rows v ls (length out)) refl refl
          (untouched (writer_answer v ls out) out (filled out (text_of v ls)));
      text_reader = λ text out.
          by_rows (answer (length (list_read text)) (header_read text).variables (header_read text).clauses) refl _ (reader_rows text (length out)) refl refl
          (untouched (reader_answer text out) out (filled out (list_read text)));
      first_place = λ p n m. (first_some p n m, some_first p n);
      value-place = encoder.value-place;
      clue_place = rules.clue_place;
      loop_place = rules.loop_place;
      list_place = places.list_place;
      entry_place = places.entry_place;
      too_short = short;
      text_place = dimacs.place_19;
    }

pub demand_2 : Demand2
unfolding clause_list clauses
demand_2 =
    record {
      judge_right = rules.judge_right;
      clauses = λ b. refl;
      encoded = λ s out e.
          let outcome = clear_answered (encoder_rows s out) _ (answered_clear (encoder_rows s out) _ refl e) in (
            outcome ∙ ap (answer (length (clause_list (board_of s))) (variable_count (board_of s))) (sym (encoder.clause-count (board_of s))),
            ap (λ (t : Outcome). unless_refused t out (filled out (clause_list (board_of s)))) outcome,
          );
      text = λ v ls buf e.
          let outcome = clear_answered (writer_rows v ls (length buf)) _ (answered_clear (writer_rows v ls (length buf)) _ refl e) in
          record { outcome = outcome; left = ap (λ (t : Outcome). unless_refused t buf (filled buf (text_of v ls))) outcome };
      reads_back = dimacs.write_read;
      written_again = dimacs.read_write;
      listed_steps = λ c ok. steps.stepped ok;
      no_others = λ c ok. steps.only_stepped ok;
    }

pub demand_3 : Demand3
demand_3 =
    record {
      decodes = encoder.decodes_to_solution;
      comes_from_one = λ s acc ds S.
          let (a, h, d) = encoder.comes_from_one s acc ds S in
          (a, h, d, λ c k e. encoder.comes_from_only_one s acc ds c a k e h d);
      same_open = λ c ok. search.same_open ok;
      unless_halted = λ c ok. search.unless_halted ok;
      few_steps = λ c ok. search.few_steps ok;
      halted_steps = λ c ok. search.halted_steps ok;
      begun_taken = begun.begun_taken;
      none_exactly = begun.none_exactly;
      found_decodes = begun.found_decodes;
    }
