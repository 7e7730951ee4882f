-- `dimacs_writer::count_lines` meets its contract: the loop keeps `LinesCounted`. Assumes nothing.
use Prim.Native.Nat.{◌+◌, ◌/◌, ◌%◌}
use native.Mathlib.Omega.{arith}
use lib.IntN.{pos}
use lib.ListN.{length, get_or}
use mathlib.Core.Path.{◌≡◌, ◌∙◌, ap}
use Rattle.dimacs_writer.specs.Writer.{written}
use Rattle.text.proofs.Decimals.{digits_few}
use Rattle.dimacs_writer.proofs.Lines.{written-length, count_more, count_over, count_end}
use Rattle.dimacs_writer.proofs.count_lines.Goals as goal

pub overflow_add-width : goal.overflow_add-width
overflow_add-width c = omega (arith, digits_few 19 (c.code_at-k.result / 2) (omega arith))

pub overflow_add-width-in-loop-i : goal.overflow_add-width-in-loop-i
overflow_add-width-in-loop-i c = omega (arith, digits_few 19 (c.code_at-k.result / 2) (omega arith))

pub returns-in_err-n : goal.returns-in_err-n
returns-in_err-n c =
    let l = get_or c.args.list.now c.loop-i.i (pos 0) in
    let wide : c.width.result + c.code_at-k.result % 2 + 1 ≡ length (written l) =
    ap (λ w. w + c.code_at-k.result % 2 + 1) c.width.ensures ∙ written-length l c.code_at-k.ensures in
    c.from_residual.ensures ∙ count_over c.loop-i.invariant (omega arith) wide (omega (arith, c.in_err-n.ensures))

pub loop-i-preserved : goal.loop-i-preserved
loop-i-preserved c =
    let l = get_or c.args.list.now c.loop-i.i (pos 0) in
    let wide : c.width.result + c.code_at-k.result % 2 + 1 ≡ length (written l) =
    ap (λ w. w + c.code_at-k.result % 2 + 1) c.width.ensures ∙ written-length l c.code_at-k.ensures in
    let (fits, sum) = c.in_ok-n.ensures in
    rw sum (count_more c.loop-i.invariant (omega arith) wide fits)

pub returns : goal.returns
returns c = count_end c.loop-i.invariant (omega arith)
