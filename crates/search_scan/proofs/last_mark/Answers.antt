-- `search_scan::last_mark` meets its contract: the loop keeps `Backing`. Assumes nothing.
use native.Mathlib.Omega.{arith}
use Rattle.search_scan.proofs.Marks.{back_none, back_found, back_on}
use Rattle.search_scan.proofs.last_mark.Goals as goal

pub returns-then-marks-i-eq1 : goal.returns-then-marks-i-eq1
returns-then-marks-i-eq1 c = back_found c.loop-i.invariant (omega arith) c.if-marks-i-eq1.true

pub loop-i-preserved : goal.loop-i-preserved
loop-i-preserved c = back_on c.loop-i.invariant (omega arith) c.if-marks-i-eq1.false

pub returns : goal.returns
returns c = back_none c.loop-i.invariant (omega arith)
