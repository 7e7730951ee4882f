-- `search_scan::others_fail` meets its contract: the loop keeps `Testing`. Assumes nothing.
use native.Mathlib.Omega.{arith}
use Rattle.search_scan.proofs.Literals.{code_not, code_zero}
use Rattle.search_scan.proofs.Scans.{test_end, test_closed, test_on, test_not, same_fails, other_fails, other_stands}
use Rattle.search_scan.proofs.others_fail.Goals.{else-k-same-via-then-k-same+else-number-k, else-k-same-via-else-k-same}
use Rattle.search_scan.proofs.others_fail.Goals as goal

pub returns-then-k-eq0 : goal.returns-then-k-eq0
returns-then-k-eq0 c = test_closed c.loop-i.invariant (omega arith) (code_zero _ c.code_at-k.ensures c.if-k-eq0.true)

pub returns-then-number-k : goal.returns-then-number-k
returns-then-number-k c =
    test_not c.loop-i.invariant (omega arith) (code_not _ c.code_at-k.ensures c.if-k-eq0.false)
    (other_stands c.args.marks.now _ _ c.code_at-same.ensures c.code_at-k.ensures c.if-k-eq0.false c.number.ensures c.if-k-same.true c.if-number-k.true)

pub loop-i-preserved : goal.loop-i-preserved
loop-i-preserved c =
    test_on c.loop-i.invariant (omega arith) (code_not _ c.code_at-k.ensures c.if-k-eq0.false)
    (elim c.else-k-same.branch [
      | else-k-same-via-then-k-same+else-number-k w ↦
          other_fails c.args.marks.now _ _ c.code_at-same.ensures c.code_at-k.ensures c.if-k-eq0.false w.number.ensures w.if-k-same.true w.if-number-k.false
      | else-k-same-via-else-k-same w ↦ same_fails c.args.marks.now _ _ c.code_at-same.ensures c.code_at-k.ensures w.if-k-same.false
    ])

pub returns : goal.returns
returns c = test_end c.loop-i.invariant (omega arith)
