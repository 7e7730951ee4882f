-- Document 01's number and values tell every answer of the writer and the text reader from every other. Assumes nothing.
use Prim.Native.Nat.{ℕ, ◌≤◌}
use native.Mathlib.Omega.{arith}
use lib.Dec.{eqb}
use mathlib.Core.Path.{◌≡◌, refl, ap}
use mathlib.Core.Bool.{cond}
use Rattle.std.specs.Prelude.{Result, Ok, Err}
use Rattle.answers.specs.declared.Outcome.{Outcome}
use Rattle.answers.proofs.OneToOne.{OneToOne, Between, number-eqb}
use Rattle.dimacs.specs.declared.WriteRefusal.{WriteRefusal}
use Rattle.dimacs.specs.declared.ListRead.{ListRead}
use Rattle.dimacs.specs.declared.WriteRefusal.TheVariants.{Variables, List as WrongList, Room as WriteRoom}
use Rattle.dimacs.specs.declared.ReadRefusal.{ReadRefusal}
use Rattle.dimacs.specs.declared.ReadRefusal.TheVariants.{Text as WrongText, Room as ReadRoom}
use Rattle.dimacs.specs.Answers.{write_refusal_outcome, written_outcome, read_refusal_outcome, reading_outcome}

-- the writer's refusals are 17, 16 and 6
pub write_numbers : Between write_refusal_outcome 6 17
write_numbers = record { bounds = by }
  where
    by : (r : WriteRefusal) → (6 ≤ (write_refusal_outcome r).number) × ((write_refusal_outcome r).number ≤ 17)
    by Variables = (omega arith, omega arith)
    by (WrongList i) = (omega arith, omega arith)
    by (WriteRoom n) = (omega arith, omega arith)

pub write_refusals : OneToOne write_refusal_outcome
write_refusals = record { from = from; back = back }
  where
    from : Outcome → WriteRefusal
    from t = cond (eqb t.number 17) Variables (cond (eqb t.number 16) (WrongList t.first) (WriteRoom t.first))

    back : (r : WriteRefusal) → from (write_refusal_outcome r) ≡ r
    back Variables = refl
    back (WrongList i) = refl
    back (WriteRoom n) = refl

pub writings : OneToOne written_outcome
writings = record { from = from; back = back }
  where
    from : Outcome → Result ℕ WriteRefusal
    from t = cond (eqb t.number 0) (Ok t.first) (Err (write_refusals.from t))

    back : (w : Result ℕ WriteRefusal) → from (written_outcome w) ≡ w
    back (Ok n) = refl
    back (Err r) = rw (number-eqb write_numbers r {n = 0} (omega arith)) (ap Err (write_refusals.back r))

-- the text reader's are 19 and 6
pub read_numbers : Between read_refusal_outcome 6 19
read_numbers = record { bounds = by }
  where
    by : (r : ReadRefusal) → (6 ≤ (read_refusal_outcome r).number) × ((read_refusal_outcome r).number ≤ 19)
    by (WrongText at) = (omega arith, omega arith)
    by (ReadRoom n) = (omega arith, omega arith)

pub read_refusals : OneToOne read_refusal_outcome
read_refusals = record { from = from; back = back }
  where
    from : Outcome → ReadRefusal
    from t = cond (eqb t.number 19) (WrongText t.first) (ReadRoom t.first)

    back : (r : ReadRefusal) → from (read_refusal_outcome r) ≡ r
    back (WrongText at) = refl
    back (ReadRoom n) = refl

pub readings : OneToOne reading_outcome
readings = record { from = from; back = back }
  where
    from : Outcome → Result ListRead ReadRefusal
    from t = cond (eqb t.number 0) (Ok (record { elements = t.first; variables = t.second; clauses = t.third })) (Err (read_refusals.from t))

    back : (r : Result ListRead ReadRefusal) → from (reading_outcome r) ≡ r
    back (Ok r) = refl
    back (Err r) = rw (number-eqb read_numbers r {n = 0} (omega arith)) (ap Err (read_refusals.back r))
