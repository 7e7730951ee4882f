-- `search_call::run` meets its contract: the loop keeps `Going`. Assumes nothing.
use native.Mathlib.Omega.{arith}
use Rattle.search_call.proofs.Budget.{go_over, go_moved, go-found, go_none}
use Rattle.search_call.proofs.run.Goals as goal

pub returns-in-Found : goal.returns-in-Found
returns-in-Found c = go-found c.loop-n.invariant (omega arith) c.step.ensures c.in-Found.is

pub returns-in-None : goal.returns-in-None
returns-in-None c = go_none c.loop-n.invariant (omega arith) c.step.ensures c.in-None.is

pub loop-n-preserved : goal.loop-n-preserved
loop-n-preserved c = go_moved c.loop-n.invariant (omega arith) c.step.ensures c.in-MovedTo.is

pub returns : goal.returns
returns c = go_over c.loop-n.invariant (omega arith)
