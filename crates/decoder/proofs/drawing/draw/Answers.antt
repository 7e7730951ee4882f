-- `decoder::drawing::draw` meets its contract. Assumes nothing.
use native.Mathlib.Omega.{arith}
use Rattle.decoder.proofs.Filled.{fill_on, fill_end}
use Rattle.decoder.proofs.drawing.draw.Goals as goal

pub loop-x-preserved : goal.loop-x-preserved
loop-x-preserved c = fill_on c.loop-x.invariant c.byte_at.ensures

pub returns : goal.returns
returns c = fill_end c.loop-x.invariant (omega arith) (omega arith)
