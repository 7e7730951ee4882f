-- `ffi::yajilin_judge` meets its contract. Assumes nothing.
use mathlib.Core.Path.{refl}
use Rattle.rules.specs.Judge.{verdict_outcome}
use Rattle.ffi.proofs.OutcomeWords.{outcome_words}
use Rattle.ffi.proofs.yajilin_judge.Goals as goal

pub returns : goal.returns
returns c =
    let told = outcome_words verdict_outcome _ (λ v. refl) (λ e. refl) c.from.ensures c.judge-verdict.ensures
    (c.write.ensures.value, c.write.ensures.out_after) in
    record { value = told.0; answer_after = told.1 }
