-- Document 02's request E8 holds. What it says stands in specs/RequestE8.antt; what is cited here is proved in cnf_batch. Assumes nothing.
use lib.ListN.{length-map}
use mathlib.Core.Path.{refl}
use Rattle.answers.specs.Outcome.{answer}
use Rattle.answers.proofs.ByRows.{by_rows}
use Rattle.cnf_batch.specs.Words.{bit_set}
use Rattle.cnf_batch.specs.Batch.{satisfied_word}
use Rattle.cnf_batch.specs.Call.{batch_rows}
use Rattle.cnf_batch.proofs.EachList as lists
use Rattle.cnf_batch.proofs.Theorems as batch
use Rattle.cnf_batch.proofs.Cases.{cases_hold}
use Rattle.demands.specs.RequestE8.{RequestE8}

pub request_e8 : RequestE8
request_e8 =
    record {
      assigns = λ words i. length-map words (bit_set i);
      values = lists.value_in_list;
      any_lists = batch.any_lists;
      answered = batch.answered;
      set_exactly = lists.set_exactly;
      one_word = lists.satisfied_small;
      only_word = lists.only_word;
      empty_list = batch.empty_list;
      empty_clause = batch.empty_clause;
      clauses_singly = batch.clause_by_clause;
      list_singly = batch.judged_alike;
      by_rows = λ v ls words. by_rows (answer (satisfied_word words ls) 0 0) refl _ (batch_rows v ls words) refl refl (λ n. tt);
      refused-variables = batch.refused-variables;
      refused-words = batch.refused-words;
      refused_list = batch.refused_list;
      samples = cases_hold;
    }
