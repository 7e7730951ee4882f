-- Document 01's number and values tell every answer of the encoder from every other. Assumes nothing.
use Prim.Native.Nat.{◌≤◌}
use native.Mathlib.Omega.{arith}
use lib.Dec.{eqb, leb}
use mathlib.Core.Path.{◌≡◌, refl, ap}
use mathlib.Core.Bool.{cond}
use Rattle.std.specs.Prelude.{Result, Ok, Err}
use Rattle.answers.specs.declared.Outcome.{Outcome}
use Rattle.answers.proofs.OneToOne.{OneToOne, one_to_one, Between, number-eqb, number_under}
use Rattle.rules.proofs.Outcomes.{record_numbers, record_refusals}
use Rattle.encoder_size.specs.declared.Counts.{Counts}
use Rattle.encoder_call.specs.declared.EncodeRefusal.{EncodeRefusal}
use Rattle.encoder_call.specs.declared.EncodeRefusal.TheVariants.{Record, TooShort}
use Rattle.encoder_call.specs.Answer.{encode_refusal_outcome, encoded_outcome}

-- the refusals are the reader's, and 6
pub encode_numbers : Between encode_refusal_outcome 1 6
encode_numbers = record { bounds = by }
  where
    by : (r : EncodeRefusal) → (1 ≤ (encode_refusal_outcome r).number) × ((encode_refusal_outcome r).number ≤ 6)
    by (Record r) = let b = record_numbers.bounds r in (b.0, omega arith)
    by (TooShort n) = (omega arith, omega arith)

pub encode_refusals : OneToOne encode_refusal_outcome
encode_refusals = record { from = from; back = back }
  where
    from : Outcome → EncodeRefusal
    from t = cond (leb t.number 5) (Record (record_refusals.from t)) (TooShort t.first)

    back : (r : EncodeRefusal) → from (encode_refusal_outcome r) ≡ r
    back (Record r) = rw (number_under record_numbers r {n = 5} (omega arith)) (ap Record (record_refusals.back r))
    back (TooShort n) = refl

pub encodings : OneToOne encoded_outcome
encodings = record { from = from; back = back }
  where
    from : Outcome → Result Counts EncodeRefusal
    from t = cond (eqb t.number 0) (Ok (record { elements = t.first; variables = t.second; clauses = t.third })) (Err (encode_refusals.from t))

    back : (e : Result Counts EncodeRefusal) → from (encoded_outcome e) ≡ e
    back (Ok c) = refl
    back (Err r) = rw (number-eqb encode_numbers r {n = 0} (omega arith)) (ap Err (encode_refusals.back r))

pub encoded_outcome_one_to_one : (a b : Result Counts EncodeRefusal) → encoded_outcome a ≡ encoded_outcome b → a ≡ b
encoded_outcome_one_to_one = one_to_one encodings
