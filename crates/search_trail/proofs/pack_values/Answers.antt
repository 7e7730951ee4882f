-- `search_trail::pack_values` meets its contract: the loop keeps `Valuing`. Assumes nothing.
use Rattle.search_trail.proofs.Entries.{value-inside, value_byte, value_more}
use Rattle.search_trail.proofs.pack_values.Goals as goal

pub make_true-requires-clause-i_in_bounds : goal.make_true-requires-clause-i_in_bounds
make_true-requires-clause-i_in_bounds c = value-inside c.loop-i.invariant c.loop-i-test.true

pub make_true-requires-clause-has_byte : goal.make_true-requires-clause-has_byte
make_true-requires-clause-has_byte c = value_byte c.loop-i.invariant c.loop-i-test.true

pub loop-i-preserved : goal.loop-i-preserved
loop-i-preserved c = value_more c.loop-i.invariant c.loop-i-test.true c.make_true.ensures
