-- What the answers tell, in document 01's numbers.
use Rattle.std.specs.Prelude.{ℕ, Result, Ok, Err}
use Rattle.answers.specs.declared.Outcome.{Outcome}
use Rattle.answers.specs.Outcome.{refusal, answer}
use Rattle.rules.specs.Judge.{judge_refusal_outcome}
use Rattle.sheet_call.specs.declared.SheetRefusal.{SheetRefusal}
use Rattle.sheet_call.specs.declared.SheetRefusal.TheVariants.{Judge, TooShort}

abbrev pub sheet_refusal_outcome : SheetRefusal → Outcome
sheet_refusal_outcome (Judge f) = judge_refusal_outcome f
sheet_refusal_outcome (TooShort n) = refusal 6 n

-- the count of bytes written
abbrev pub sheet_answer_outcome : Result ℕ SheetRefusal → Outcome
sheet_answer_outcome (Ok n) = answer n 0 0
sheet_answer_outcome (Err u) = sheet_refusal_outcome u
