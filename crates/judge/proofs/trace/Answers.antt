-- `judge::trace` meets its contract. Assumes nothing.
use native.Mathlib.Omega.{arith}
use Rattle.judge.proofs.TraceMarks.{trace_back, trace_on, trace_end}
use Rattle.rules_board.proofs.Steps.{gone_on}
use Rattle.judge.proofs.trace.Goals as goal

pub bounds-drawn-x : goal.bounds-drawn-x
bounds-drawn-x c = omega (arith, (gone_on c.loop.d c.loop.invariant.on c.go-x.ensures).inside)

pub loop-preserved : goal.loop-preserved
loop-preserved c = trace_on c.loop.invariant c.go-x.ensures (omega arith) c.if-x-s.false c.opposite.ensures c.other-d.ensures

pub returns-after-loop : goal.returns-after-loop
returns-after-loop c = trace_end c.loop.invariant (omega arith)

pub returns-then-x-s : goal.returns-then-x-s
returns-then-x-s c = trace_back c.loop.invariant c.go-x.ensures (omega arith) c.if-x-s.true
