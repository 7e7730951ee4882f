-- Document 01's number and values tell every answer from every other. Assumes nothing.
use Prim.Native.Nat.{ℕ, ◌≤◌}
use native.Mathlib.Omega.{arith}
use lib.Dec.{eqb}
use mathlib.Core.Path.{◌≡◌, refl, ap}
use mathlib.Core.Bool.{cond}
use Rattle.std.specs.Prelude.{Result, Ok, Err}
use Rattle.answers.specs.declared.Outcome.{Outcome}
use Rattle.answers.proofs.OneToOne.{OneToOne, one_to_one, Between, number-eqb}
use Rattle.cnf_batch.specs.declared.BatchRefusal.{BatchRefusal}
use Rattle.cnf_batch.specs.declared.BatchRefusal.TheVariants.{Variables, Words, List as WrongList}
use Rattle.cnf_batch.specs.Answer.{batch_refusal_outcome, batch_outcome}

-- the refusals are 17, 21 and 16
batch_numbers : Between batch_refusal_outcome 16 21
batch_numbers = record { bounds = by }
  where
    by : (r : BatchRefusal) → (16 ≤ (batch_refusal_outcome r).number) × ((batch_refusal_outcome r).number ≤ 21)
    by Variables = (omega arith, omega arith)
    by Words = (omega arith, omega arith)
    by (WrongList i) = (omega arith, omega arith)

batch_refusals : OneToOne batch_refusal_outcome
batch_refusals = record { from = from; back = back }
  where
    from : Outcome → BatchRefusal
    from t = cond (eqb t.number 17) Variables (cond (eqb t.number 21) Words (WrongList t.first))

    back : (r : BatchRefusal) → from (batch_refusal_outcome r) ≡ r
    back Variables = refl
    back Words = refl
    back (WrongList i) = refl

batch_answers : OneToOne batch_outcome
batch_answers = record { from = from; back = back }
  where
    from : Outcome → Result ℕ BatchRefusal
    from t = cond (eqb t.number 0) (Ok t.first) (Err (batch_refusals.from t))

    back : (a : Result ℕ BatchRefusal) → from (batch_outcome a) ≡ a
    back (Ok w) = refl
    back (Err r) = rw (number-eqb batch_numbers r {n = 0} (omega arith)) (ap Err (batch_refusals.back r))

pub batch_outcome_one_to_one : (a b : Result ℕ BatchRefusal) → batch_outcome a ≡ batch_outcome b → a ≡ b
batch_outcome_one_to_one = one_to_one batch_answers
