-- Document 01's number and values of the answers of writer and reader.
use Rattle.std.specs.Prelude.{ℕ, Result, Ok, Err}
use Rattle.answers.specs.declared.Outcome.{Outcome}
use Rattle.answers.specs.Outcome.{refusal, answer}
use Rattle.dimacs.specs.declared.WriteRefusal.{WriteRefusal}
use Rattle.dimacs.specs.declared.ListRead.{ListRead}
use Rattle.dimacs.specs.declared.WriteRefusal.TheVariants.{Variables, List as WrongList, Room as WriteRoom}
use Rattle.dimacs.specs.declared.ReadRefusal.{ReadRefusal}
use Rattle.dimacs.specs.declared.ReadRefusal.TheVariants.{Text as WrongText, Room as ReadRoom}

abbrev pub write_refusal_outcome : WriteRefusal → Outcome
write_refusal_outcome Variables = refusal 17 0
write_refusal_outcome (WrongList i) = refusal 16 i
write_refusal_outcome (WriteRoom n) = refusal 6 n

abbrev pub written_outcome : Result ℕ WriteRefusal → Outcome
written_outcome (Ok n) = answer n 0 0
written_outcome (Err why) = write_refusal_outcome why

abbrev pub read_refusal_outcome : ReadRefusal → Outcome
read_refusal_outcome (WrongText at) = refusal 19 at
read_refusal_outcome (ReadRoom n) = refusal 6 n

abbrev pub list_read_outcome : ListRead → Outcome
list_read_outcome r = answer r.elements r.variables r.clauses

abbrev pub reading_outcome : Result ListRead ReadRefusal → Outcome
reading_outcome (Ok r) = list_read_outcome r
reading_outcome (Err why) = read_refusal_outcome why
