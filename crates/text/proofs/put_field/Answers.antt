-- `text::put_field` meets its contract: a digit more in each turn. Assumes nothing.
use Rattle.std.proofs.Common.{arith, ◌≤◌, length-set}
use Rattle.text.proofs.Decimals.{tenth, digit_more}
use Rattle.text.proofs.put_field.Goals as goal

pub loop-rest-preserved : goal.loop-rest-preserved
loop-rest-preserved c =
    let (room, most, long, whole) = c.loop-rest.invariant in
    let many : 10 ≤ c.loop-rest.rest = omega arith in
    let t = tenth many in
    (omega arith, omega arith, simp length-set long, digit_more _ _ _ c.loop-rest.field many (omega arith) (omega arith) whole)
