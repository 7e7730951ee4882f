-- What the decoder's answer tells, and its rows of "Turned down" between the record reader's and the judge's.
use Rattle.std.specs.Prelude.{ℕ, eqb, length, not, List, [], ◌∷◌, Result, Ok, Err}
use Rattle.answers.specs.declared.Outcome.{Outcome}
use Rattle.answers.specs.Outcome.{refusal, Row, row, cause}
use Rattle.rules.specs.Record.{record_refusal_outcome}
use Rattle.rules.specs.Judge.{says_yes, rule_refusal_outcome}
use Rattle.encoder.specs.Decoding.{wrong_value}
use Rattle.decoder.specs.declared.DecodeRefusal.{DecodeRefusal}
use Rattle.decoder.specs.declared.DecodeRefusal.TheVariants.{Record, ValuesLength, DrawingLength, Value, Rule}

abbrev pub decode_refusal_outcome : DecodeRefusal → Outcome
decode_refusal_outcome (Record r) = record_refusal_outcome r
decode_refusal_outcome ValuesLength = refusal 8 0
decode_refusal_outcome DrawingLength = refusal 7 0
decode_refusal_outcome (Value n) = refusal 9 n
decode_refusal_outcome (Rule f) = rule_refusal_outcome f

abbrev pub decoded_outcome : Result Unit DecodeRefusal → Outcome
decoded_outcome (Ok tt) = says_yes
decoded_outcome (Err u) = decode_refusal_outcome u

-- 8, 7 and 9 by V, N and the length of the lent drawing: the first of `decoder_grid_rows`
abbrev pub value_rows : ℕ → ℕ → List ℕ → ℕ → List Row
value_rows v n values lent =
    row 8 (cause (not (eqb (length values) v))) ∷
    row 7 (cause (not (eqb lent n))) ∷
    row 9 (wrong_value values) ∷
    []
