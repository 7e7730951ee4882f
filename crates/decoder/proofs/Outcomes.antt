-- Document 01's number and value tell every answer of the decoder from every other. Assumes nothing.
use Prim.Native.Nat.{◌≤◌}
use native.Mathlib.Omega.{arith}
use lib.Dec.{eqb, leb}
use mathlib.Core.Path.{◌≡◌, refl, ap}
use mathlib.Core.Bool.{cond}
use Rattle.std.specs.Prelude.{Result, Ok, Err}
use Rattle.answers.specs.declared.Outcome.{Outcome}
use Rattle.answers.proofs.OneToOne.{OneToOne, one_to_one, Between, number-eqb, number_under, number_over}
use Rattle.rules.proofs.Outcomes.{record_numbers, record_refusals, rule_numbers, rule_refusals}
use Rattle.decoder.specs.declared.DecodeRefusal.{DecodeRefusal}
use Rattle.decoder.specs.declared.DecodeRefusal.TheVariants.{Record, ValuesLength, DrawingLength, Value, Rule}
use Rattle.decoder.specs.Answer.{decode_refusal_outcome, decoded_outcome}

-- the refusals are the reader's, 7 to 9, and the rules'
pub decode_numbers : Between decode_refusal_outcome 1 15
decode_numbers = record { bounds = by }
  where
    by : (r : DecodeRefusal) → (1 ≤ (decode_refusal_outcome r).number) × ((decode_refusal_outcome r).number ≤ 15)
    by (Record r) = let b = record_numbers.bounds r in (b.0, omega arith)
    by ValuesLength = (omega arith, omega arith)
    by DrawingLength = (omega arith, omega arith)
    by (Value n) = (omega arith, omega arith)
    by (Rule r) = let b = rule_numbers.bounds r in (omega arith, b.1)

pub decode_refusals : OneToOne decode_refusal_outcome
decode_refusals = record { from = from; back = back }
  where
    from : Outcome → DecodeRefusal
    from t =
        cond (leb t.number 5) (Record (record_refusals.from t))
        (cond (leb t.number 7) DrawingLength
        (cond (leb t.number 8) ValuesLength
        (cond (leb t.number 9) (Value t.first)
        (Rule (rule_refusals.from t)))))

    back : (r : DecodeRefusal) → from (decode_refusal_outcome r) ≡ r
    back (Record r) = rw (number_under record_numbers r {n = 5} (omega arith)) (ap Record (record_refusals.back r))
    back ValuesLength = refl
    back DrawingLength = refl
    back (Value n) = refl
    back (Rule r) =
        rw (
          number_over rule_numbers r {n = 5} (omega arith),
          number_over rule_numbers r {n = 7} (omega arith),
          number_over rule_numbers r {n = 8} (omega arith),
          number_over rule_numbers r {n = 9} (omega arith),
        )
        (ap Rule (rule_refusals.back r))

pub decodings : OneToOne decoded_outcome
decodings = record { from = from; back = back }
  where
    from : Outcome → Result Unit DecodeRefusal
    from t = cond (eqb t.number 0) (Ok tt) (Err (decode_refusals.from t))

    back : (d : Result Unit DecodeRefusal) → from (decoded_outcome d) ≡ d
    back (Ok tt) = refl
    back (Err r) = rw (number-eqb decode_numbers r {n = 0} (omega arith)) (ap Err (decode_refusals.back r))

pub decoded_outcome_one_to_one : (a b : Result Unit DecodeRefusal) → decoded_outcome a ≡ decoded_outcome b → a ≡ b
decoded_outcome_one_to_one = one_to_one decodings
