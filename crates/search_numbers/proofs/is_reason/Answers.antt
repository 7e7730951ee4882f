-- `search_numbers::is_reason` meets its contract: the loop keeps `Holding`. Assumes nothing.
use native.Mathlib.Omega.{arith}
use mathlib.Core.Path.{sym, ◌∙◌, ap}
use Rattle.search_scan.proofs.Literals.{code_not, code_zero}
use Rattle.search_numbers.specs.Window.{code_passes}
use Rattle.search_numbers.proofs.Reasons.{hold_end, hold_closed, hold_own, hold_on, hold_not}
use Rattle.search_numbers.proofs.is_reason.Goals.{then-k-own, else-k-own+else-not-passes}
use Rattle.search_numbers.proofs.is_reason.Goals as goal

pub returns-then-k-eq0 : goal.returns-then-k-eq0
returns-then-k-eq0 c = hold_closed c.loop-j.invariant (omega arith) (code_zero _ c.code_at-k.ensures c.if-k-eq0.true)

pub returns-then-not-passes : goal.returns-then-not-passes
returns-then-not-passes c =
    hold_not c.loop-j.invariant (omega arith) (code_not _ c.code_at-k.ensures c.if-k-eq0.false)
    (λ e. c.if-k-own.false (c.code_at-k.ensures ∙ e ∙ sym c.code_at-own.ensures))
    (ap (code_passes c.args.low c.args.values.now) (sym c.code_at-k.ensures) ∙ sym c.passes.ensures ∙ c.if-not-passes.true)

pub loop-j-preserved : goal.loop-j-preserved
loop-j-preserved c =
    let h = c.loop-j.invariant in
    let some = code_not _ c.code_at-k.ensures c.if-k-eq0.false in
    elim c.if-k-own.branch [
      | then-k-own w ↦ rw w.has-is (hold_own h (omega arith) some (sym c.code_at-k.ensures ∙ w.if-k-own.true ∙ c.code_at-own.ensures))
      | else-k-own+else-not-passes w ↦
          rw w.has-is (hold_on h (omega arith) some (λ e. w.if-k-own.false (c.code_at-k.ensures ∙ e ∙ sym c.code_at-own.ensures))
          (ap (code_passes c.args.low c.args.values.now) (sym c.code_at-k.ensures) ∙ sym w.passes.ensures ∙ w.if-not-passes.false))
    ]

pub returns : goal.returns
returns c = hold_end c.loop-j.invariant c.loop-j-test.false
