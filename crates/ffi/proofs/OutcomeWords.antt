-- What C is told: the number that is returned and the words of `answer` are those of the call's outcome. Assumes nothing.
use Prim.Native.Nat.{ℕ}
use mathlib.Core.Path.{◌≡◌}
use mathlib.Core.List.{List}
use Rattle.std.specs.Prelude.{Result, Ok, Err, MatchResult}
use Rattle.answers.specs.declared.Outcome.{Outcome}
use Rattle.answers.specs.Outcome.{words}
use Rattle.answers.proofs.Results.{outcome_is}

pub outcome_words : {T E : Type 0} {value : T → Outcome} {refusal : E → Outcome} (told : Result T E → Outcome) (x : Result T E)
    {t u : Outcome} {r : ℕ} {answer : List ℕ}
    → ((v : T) → told (Ok v) ≡ value v) → ((e : E) → told (Err e) ≡ refusal e) → MatchResult x (λ v. t ≡ value v) (λ e. t ≡ refusal e)
    → told x ≡ u → (r ≡ t.number) × (answer ≡ words t) → (r ≡ u.number) × (answer ≡ words u)
outcome_words told x v f from e w = rw (← e) (rw (← outcome_is told x v f from) w)
