-- `count_solutions::count_text` meets its contract. Assumes nothing.
use borrow.Author.Rules.{rules}
use native.Mathlib.Omega.{arith}
use mathlib.Core.Path.{◌≡◌, refl, sym, ◌∙◌, ap}
use Rattle.answers.specs.declared.Outcome.{Outcome}
use Rattle.encoder_call.proofs.Ends.{refused-number}
use Rattle.program_text.proofs.Limits.{whole}
use Rattle.program_text.proofs.Encoded.{encodes, ends-refused, ends_large}
use Rattle.count_solutions.proofs.Ends.{taken, ends-counted, count_fits}
use Rattle.count_solutions.proofs.count_text.Goals as goal

pub returns-in-Err : goal.returns-in-Err
returns-in-Err c =
    let s = c.args.record.now in
    let e = c.in-Err.ensures in
    let told = ap (λ (t : Outcome). t.number) c.from.ensures in
    let refused : c.from.result.number ≡ 0 → ⊥ = λ z. refused-number c.in-Err.refusal (sym told ∙ z) in
    let w =
    whole (search rules) (count_fits s)
    (ends-refused (encodes s (c.from.ensures ∙ e.result_value) e.list_after) _ refused c.put_refused.ensures) in
    record { wrote = w.0; prefix_len = w.1 }

pub returns-then-v-gt-VARIABLE_LIMIT : goal.returns-then-v-gt-VARIABLE_LIMIT
returns-then-v-gt-VARIABLE_LIMIT c =
    let s = c.args.record.now in
    let e = c.in-Ok.ensures in
    let w =
    whole (search rules) (count_fits s)
    (ends_large (encodes s e.result_value e.list_after) refl _ (omega (arith, c.if-v-gt-VARIABLE_LIMIT.true)) c.put_refused-then-v-gt-VARIABLE_LIMIT.ensures) in
    record { wrote = w.0; prefix_len = w.1 }

pub count_solutions-many-requires : goal.count_solutions-many-requires
count_solutions-many-requires c =
    let e = c.in-Ok.ensures in
    taken (encodes c.args.record.now e.result_value e.list_after) (omega (arith, c.if-v-gt-VARIABLE_LIMIT.false))

pub returns : goal.returns
returns c =
    let s = c.args.record.now in
    let e = c.in-Ok.ensures in
    let w =
    whole (search rules) (count_fits s)
    (ends-counted (encodes s e.result_value e.list_after) (omega (arith, c.if-v-gt-VARIABLE_LIMIT.false))
    c.count_solutions-many.ensures.result_value c.put_count.ensures) in
    record { wrote = w.0; prefix_len = w.1 }
