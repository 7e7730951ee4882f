-- `print_clauses::clauses_text` meets its contract. Assumes nothing.
use borrow.Author.Rules.{rules}
use native.Mathlib.Omega.{arith}
use mathlib.Core.Path.{◌≡◌, refl, sym, ◌∙◌, ap}
use Rattle.answers.specs.declared.Outcome.{Outcome}
use Rattle.encoder_call.proofs.Ends.{refused-number}
use Rattle.program_text.proofs.Limits.{whole}
use Rattle.program_text.proofs.Encoded.{encodes, ends-refused, ends_large}
use Rattle.print_clauses.proofs.Ends.{listed_fits, ends-listed}
use Rattle.print_clauses.proofs.Fits.{clauses_fit}
use Rattle.print_clauses.proofs.clauses_text.Goals as goal

pub returns-in-Err : goal.returns-in-Err
returns-in-Err c =
    let s = c.args.record.now in
    let e = c.in-Err.ensures in
    let told = ap (λ (t : Outcome). t.number) c.from.ensures in
    let refused : c.from.result.number ≡ 0 → ⊥ = λ z. refused-number c.in-Err.refusal (sym told ∙ z) in
    let w =
    whole (search rules) (clauses_fit s)
    (ends-refused (encodes s (c.from.ensures ∙ e.result_value) e.list_after) _ refused c.put_refused.ensures) in
    record { wrote = w.0; prefix_len = w.1 }

pub returns-then-counts-gt-VARIABLE_LIMIT : goal.returns-then-counts-gt-VARIABLE_LIMIT
returns-then-counts-gt-VARIABLE_LIMIT c =
    let s = c.args.record.now in
    let e = c.in-Ok.ensures in
    let w =
    whole (search rules) (clauses_fit s)
    (ends_large (encodes s e.result_value e.list_after) refl _ (omega (arith, c.if-counts-gt-VARIABLE_LIMIT.true))
    c.put_refused-then-counts-gt-VARIABLE_LIMIT.ensures) in
    record { wrote = w.0; prefix_len = w.1 }

pub write_text-requires : goal.write_text-requires
write_text-requires c =
    let e = c.in-Ok.ensures in
    listed_fits (encodes c.args.record.now e.result_value e.list_after) (omega (arith, c.if-counts-gt-VARIABLE_LIMIT.false))

pub returns : goal.returns
returns c =
    let s = c.args.record.now in
    let e = c.in-Ok.ensures in
    let w =
    whole (search rules) (clauses_fit s)
    (ends-listed (encodes s e.result_value e.list_after) (omega (arith, c.if-counts-gt-VARIABLE_LIMIT.false)) c.write_text.ensures) in
    record { wrote = w.0; prefix_len = w.1 }
