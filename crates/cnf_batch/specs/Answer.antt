-- Document 01's number and values of the answers.
use Rattle.std.specs.Prelude.{ℕ, Result, Ok, Err}
use Rattle.answers.specs.declared.Outcome.{Outcome}
use Rattle.answers.specs.Outcome.{refusal, answer}
use Rattle.cnf_batch.specs.declared.BatchRefusal.{BatchRefusal}
use Rattle.cnf_batch.specs.declared.BatchRefusal.TheVariants.{Variables, Words, List as WrongList}

abbrev pub batch_refusal_outcome : BatchRefusal → Outcome
batch_refusal_outcome Variables = refusal 17 0
batch_refusal_outcome Words = refusal 21 0
batch_refusal_outcome (WrongList i) = refusal 16 i

abbrev pub batch_outcome : Result ℕ BatchRefusal → Outcome
batch_outcome (Ok w) = answer w 0 0
batch_outcome (Err why) = batch_refusal_outcome why
