-- `search_numbers::first_wrong` meets its contract: the loop keeps `Noting`. Assumes nothing.
use Rattle.search_numbers.proofs.Reasons.{noting_start, noting_found, noting_on}
use Rattle.search_numbers.proofs.first_wrong.Goals as goal

pub loop-i-init : goal.loop-i-init
loop-i-init c = noting_start c.requires.values_value

pub loop-i-preserved : goal.loop-i-preserved
loop-i-preserved c =
    noting_on c.loop-i.invariant c.loop-i-test.true c.is_wrong.ensures c.if-is_wrong.false
    c.note.ensures

pub returns-then-is_wrong-clause-fact : goal.returns-then-is_wrong-clause-fact
returns-then-is_wrong-clause-fact c = (noting_found c.loop-i.invariant c.loop-i-test.true c.is_wrong.ensures c.if-is_wrong.true).0

pub returns-then-is_wrong-clause-values_after : goal.returns-then-is_wrong-clause-values_after
returns-then-is_wrong-clause-values_after c = (noting_found c.loop-i.invariant c.loop-i-test.true c.is_wrong.ensures c.if-is_wrong.true).1
