-- What `?` hands on, and what a call's result tells. Assumes nothing.
use mathlib.Core.Path.{◌≡◌, ap}
use Rattle.std.specs.Prelude.{Result, Ok, Err, IsErrAnd, MatchResult}
use Rattle.answers.specs.declared.Outcome.{Outcome}

-- `?` ends the call with the refusal that the error was made into
pub handed_on : {T E : Type 0} (r : Result T E) {e : E} → IsErrAnd r (λ x. x ≡ e) → r ≡ Err e
handed_on (Ok x) h = absurd h
handed_on (Err x) h = ap Err h

-- a result's outcome, by its conversion
pub outcome_is : {T E : Type 0} {value : T → Outcome} {refusal : E → Outcome} (told : Result T E → Outcome) (r : Result T E) {t : Outcome}
    → ((x : T) → told (Ok x) ≡ value x) → ((e : E) → told (Err e) ≡ refusal e)
    → MatchResult r (λ x. t ≡ value x) (λ e. t ≡ refusal e) → t ≡ told r
outcome_is told (Ok x) v f h = cc (v x)
outcome_is told (Err e) v f h = cc (f e)
