-- `ffi::yajilin_sheet` meets its contract. Assumes nothing.
use mathlib.Core.Path.{refl}
use Rattle.sheet_call.specs.Answer.{sheet_answer_outcome}
use Rattle.ffi.proofs.OutcomeWords.{outcome_words}
use Rattle.ffi.proofs.yajilin_sheet.Goals as goal

pub returns : goal.returns
returns c =
    let told = outcome_words sheet_answer_outcome _ (λ v. refl) (λ e. refl) c.from.ensures c.write-written.ensures.result_value
    (c.write.ensures.value, c.write.ensures.out_after) in
    record { value = told.0; sheet_after = c.write-written.ensures.sheet_after; answer_after = told.1 }
