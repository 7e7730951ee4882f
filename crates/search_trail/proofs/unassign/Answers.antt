-- `search_trail::unassign` meets its contract: the loop keeps `Valuing`. Assumes nothing.
use Rattle.search_trail.proofs.Entries.{value-inside, value_byte, value_less}
use native.Mathlib.Omega.{arith}
use Rattle.search_trail.proofs.unassign.Goals as goal

pub code_at-k-requires : goal.code_at-k-requires
code_at-k-requires c = let v = c.loop-i.invariant.1 in value-inside v (omega arith)

pub set_value-requires-clause-has_byte : goal.set_value-requires-clause-has_byte
set_value-requires-clause-has_byte c = let v = c.loop-i.invariant.1 in rw c.code_at-k.ensures (value_byte v (omega arith))

pub loop-i-preserved : goal.loop-i-preserved
loop-i-preserved c = (omega arith, value_less c.loop-i.invariant.1 (omega arith) c.code_at-k.ensures c.set_value.ensures)
