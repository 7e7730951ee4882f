-- Document 01's number and values tell every answer of the solver from every other. Assumes nothing.
use Prim.Native.Nat.{◌≤◌}
use native.Mathlib.Omega.{arith}
use lib.Dec.{eqb, leb}
use mathlib.Core.Path.{◌≡◌, refl, ap}
use mathlib.Core.Bool.{cond}
use Rattle.std.specs.Prelude.{Result, Ok, Err}
use Rattle.answers.specs.declared.Outcome.{Outcome}
use Rattle.answers.proofs.OneToOne.{OneToOne, one_to_one, Between, number-eqb, number_under}
use Rattle.rules.proofs.Outcomes.{record_numbers, record_refusals}
use Rattle.search_call.specs.declared.End.{End}
use Rattle.search_call.proofs.OneToOne.{end_from, end_back}
use Rattle.solver_call.specs.declared.SolveRefusal.{SolveRefusal}
use Rattle.solver_call.specs.declared.SolveRefusal.TheVariants.{Record, TooShort}
use Rattle.solver_call.specs.Answer.{solve_refusal_outcome, solved_outcome}

-- the refusals are the reader's, and 6
solve_numbers : Between solve_refusal_outcome 1 6
solve_numbers = record { bounds = by }
  where
    by : (r : SolveRefusal) → (1 ≤ (solve_refusal_outcome r).number) × ((solve_refusal_outcome r).number ≤ 6)
    by (Record r) = let b = record_numbers.bounds r in (b.0, omega arith)
    by (TooShort n) = (omega arith, omega arith)

solve_refusals : OneToOne solve_refusal_outcome
solve_refusals = record { from = from; back = back }
  where
    from : Outcome → SolveRefusal
    from t = cond (leb t.number 5) (Record (record_refusals.from t)) (TooShort t.first)

    back : (r : SolveRefusal) → from (solve_refusal_outcome r) ≡ r
    back (Record r) = rw (number_under record_numbers r {n = 5} (omega arith)) (ap Record (record_refusals.back r))
    back (TooShort n) = refl

pub solved_outcome_one_to_one : (a b : Result End SolveRefusal) → solved_outcome a ≡ solved_outcome b → a ≡ b
solved_outcome_one_to_one = one_to_one (record { from = from; back = back })
  where
    from : Outcome → Result End SolveRefusal
    from t = cond (eqb t.number 0) (Ok (end_from t)) (Err (solve_refusals.from t))

    back : (x : Result End SolveRefusal) → from (solved_outcome x) ≡ x
    back (Ok e) = ap Ok (end_back e)
    back (Err r) = rw (number-eqb solve_numbers r {n = 0} (omega arith)) (ap Err (solve_refusals.back r))
