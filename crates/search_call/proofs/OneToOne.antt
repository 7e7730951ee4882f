-- The outcome tells the answers of the search apart, and so those of `next`, which has the same answers. Assumes nothing.
use Prim.Native.Nat.{ℕ}
use lib.Dec.{eqb}
use mathlib.Core.Path.{◌≡◌, refl, ap}
use mathlib.Core.Bool.{cond}
use Rattle.std.specs.Prelude.{Result, Ok, Err}
use Rattle.answers.specs.declared.Outcome.{Outcome}
use Rattle.answers.proofs.OneToOne.{one_to_one_by}
use Rattle.search.specs.Run.{ending_number}
use Rattle.search_call.specs.declared.Ending.{Ending}
use Rattle.search_call.specs.declared.Ending.TheVariants.{Found, None, Halted}
use Rattle.search_call.specs.declared.End.{End}
use Rattle.search_call.specs.declared.SearchRefusal.{SearchRefusal}
use Rattle.search_call.specs.declared.SearchRefusal.TheVariants.{Lengths, List, Entry, Number, Untrue}
use Rattle.search_call.specs.Answers.{ending_of, end_outcome, answer_outcome}

-- from an outcome back to the answer
abbrev ending_from : ℕ → Ending
ending_from n = cond (eqb n 1) Found (cond (eqb n 2) None Halted)

abbrev pub end_from : Outcome → End
end_from t = record { ending = ending_from t.first; steps = t.second; used = t.third }

abbrev refusal_from : Outcome → SearchRefusal
refusal_from t =
    let later : SearchRefusal = cond (eqb t.number 18) (Entry t.first) (cond (eqb t.number 22) (Number t.first) Untrue) in
    cond (eqb t.number 17) Lengths (cond (eqb t.number 16) (List t.first) later)

abbrev answer_from : Outcome → Result End SearchRefusal
answer_from t = cond (eqb t.number 0) (Ok (end_from t)) (Err (refusal_from t))

ending_back : (x : Ending) → ending_from (ending_number (ending_of x)) ≡ x
ending_back Found = refl
ending_back None = refl
ending_back Halted = refl

pub end_back : (e : End) → end_from (end_outcome e) ≡ e
end_back e = ap (λ (x : Ending). record { ending = x; steps = e.steps; used = e.used }) (ending_back e.ending)

back : (a : Result End SearchRefusal) → answer_from (answer_outcome a) ≡ a
back (Ok e) = ap Ok (end_back e)
back (Err Lengths) = refl
back (Err (List i)) = refl
back (Err (Entry i)) = refl
back (Err (Number i)) = refl
back (Err Untrue) = refl

-- Two ends, or two answers, with the same outcome are the same.
pub end_outcome_one_to_one : (a b : End) → end_outcome a ≡ end_outcome b → a ≡ b
end_outcome_one_to_one = one_to_one_by end_outcome end_from end_back

pub answer_outcome_one_to_one : (a b : Result End SearchRefusal) → answer_outcome a ≡ answer_outcome b → a ≡ b
answer_outcome_one_to_one = one_to_one_by answer_outcome answer_from back
