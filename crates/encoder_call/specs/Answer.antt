-- What the encoder's answer tells, and what the functions ask that write a grid's clauses.
use Rattle.std.specs.Prelude.{ℕ, List, Result, Ok, Err}
use Rattle.answers.specs.declared.Outcome.{Outcome}
use Rattle.answers.specs.Outcome.{refusal, answer}
use Rattle.rules.specs.declared.Grid.{Grid}
use Rattle.rules.specs.Record.{record_refusal_outcome, RecordFits}
use Rattle.rules.specs.Board.{grid_board}
use Rattle.encoder.specs.Bounds.{BoundedBoard}
use Rattle.encoder_size.specs.declared.Counts.{Counts}
use Rattle.encoder_call.specs.declared.EncodeRefusal.{EncodeRefusal}
use Rattle.encoder_call.specs.declared.EncodeRefusal.TheVariants.{Record, TooShort}

abbrev pub encode_refusal_outcome : EncodeRefusal → Outcome
encode_refusal_outcome (Record r) = record_refusal_outcome r
encode_refusal_outcome (TooShort n) = refusal 6 n

-- the count of elements written, V and the number of clauses
abbrev pub counts_outcome : Counts → Outcome
counts_outcome c = answer c.elements c.variables c.clauses

abbrev pub encoded_outcome : Result Counts EncodeRefusal → Outcome
encoded_outcome (Ok c) = counts_outcome c
encoded_outcome (Err u) = encode_refusal_outcome u

-- what the functions ask that write a grid's clauses: its record, and that nothing is too large (the reader sees to both)
pub record Encodable (g : Grid) (s : List ℕ) : Type 0 where
  pub record_fits : RecordFits g s
  pub bounded : BoundedBoard (grid_board g s)
