-- Document 01's number and value tell every answer of the sheet from every other. Assumes nothing.
use Prim.Native.Nat.{ℕ, ◌≤◌}
use native.Mathlib.Omega.{arith}
use lib.Dec.{eqb}
use mathlib.Core.Path.{◌≡◌, refl, ap}
use borrow.Author.Tests.{ne_eqb}
use mathlib.Core.Bool.{false, cond}
use Rattle.std.specs.Prelude.{Result, Ok, Err}
use Rattle.answers.specs.declared.Outcome.{Outcome}
use Rattle.answers.proofs.OneToOne.{OneToOne, one_to_one, Between, number-not, number-eqb}
use Rattle.rules.specs.declared.JudgeRefusal.{JudgeRefusal}
use Rattle.rules.specs.declared.JudgeRefusal.TheVariants.{Record, DrawingLength, Rule}
use Rattle.rules.specs.Judge.{judge_refusal_outcome}
use Rattle.rules.proofs.Outcomes.{record_numbers, rule_numbers, judge_numbers, judge_refusals}
use Rattle.sheet_call.specs.declared.SheetRefusal.{SheetRefusal}
use Rattle.sheet_call.specs.declared.SheetRefusal.TheVariants.{Judge, TooShort}
use Rattle.sheet_call.specs.Answer.{sheet_refusal_outcome, sheet_answer_outcome}

-- the refusals are the judge's, and 6
pub sheet_numbers : Between sheet_refusal_outcome 1 15
sheet_numbers = record { bounds = by }
  where
    by : (r : SheetRefusal) → (1 ≤ (sheet_refusal_outcome r).number) × ((sheet_refusal_outcome r).number ≤ 15)
    by (Judge f) = judge_numbers.bounds f
    by (TooShort n) = (omega arith, omega arith)

-- none of the judge's is 6
not_six : (f : JudgeRefusal) → eqb (judge_refusal_outcome f).number 6 ≡ false
not_six f = ne_eqb _ 6 (by f)
  where
    by : (f : JudgeRefusal) → (judge_refusal_outcome f).number ≡ 6 → ⊥
    by (Record r) e = let b = record_numbers.bounds r in omega arith
    by DrawingLength e = omega arith
    by (Rule r) e = number-not rule_numbers r (omega arith) e

pub sheet_refusals : OneToOne sheet_refusal_outcome
sheet_refusals = record { from = from; back = back }
  where
    from : Outcome → SheetRefusal
    from t = cond (eqb t.number 6) (TooShort t.first) (Judge (judge_refusals.from t))

    back : (r : SheetRefusal) → from (sheet_refusal_outcome r) ≡ r
    back (Judge f) = rw (not_six f) (ap Judge (judge_refusals.back f))
    back (TooShort n) = refl

pub sheet_answers : OneToOne sheet_answer_outcome
sheet_answers = record { from = from; back = back }
  where
    from : Outcome → Result ℕ SheetRefusal
    from t = cond (eqb t.number 0) (Ok t.first) (Err (sheet_refusals.from t))

    back : (a : Result ℕ SheetRefusal) → from (sheet_answer_outcome a) ≡ a
    back (Ok n) = refl
    back (Err r) = rw (number-eqb sheet_numbers r {n = 0} (omega arith)) (ap Err (sheet_refusals.back r))

pub sheet_outcome_one_to_one : (a b : Result ℕ SheetRefusal) → sheet_answer_outcome a ≡ sheet_answer_outcome b → a ≡ b
sheet_outcome_one_to_one = one_to_one sheet_answers
