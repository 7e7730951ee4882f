-- `text::width` meets its contract. Assumes nothing.
use Rattle.std.proofs.Common.{ap, length, arith}
use Rattle.text.proofs.Decimals.{decimal_one, digits_are}
use Rattle.text.proofs.width.Goals as goal

pub returns-then-n-eq0 : goal.returns-then-n-eq0
returns-then-n-eq0 c = ap length (decimal_one (omega arith))

pub returns : goal.returns
returns c = digits_are _ _ c.ilog10.ensures.power_le c.ilog10.ensures.next_power_gt
