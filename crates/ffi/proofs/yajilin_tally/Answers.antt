-- `ffi::yajilin_tally` meets its contract. Assumes nothing.
use mathlib.Core.Path.{refl}
use Rattle.solver_tally.specs.Answer.{tallied_outcome}
use Rattle.ffi.proofs.OutcomeWords.{outcome_words}
use Rattle.ffi.proofs.yajilin_tally.Goals as goal

pub returns : goal.returns
returns c =
    let told = outcome_words tallied_outcome _ (λ v. refl) (λ e. refl) c.from.ensures c.tally-tallied.ensures.result_value
    (c.write.ensures.value, c.write.ensures.out_after) in
    record { value = told.0; numbers_after = c.tally-tallied.ensures.numbers_after; answer_after = told.1 }
