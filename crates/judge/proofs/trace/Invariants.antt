-- `judge::trace` meets its contract. Assumes nothing.
use Prim.Native.Nat.{◌-◌}
use Rattle.rules.specs.Record.{size}
use Rattle.judge.proofs.TraceMarks.{Tracing}
use Rattle.judge.proofs.trace.Given as goal

abbrev pub invariant-loop : goal.invariant-loop
invariant-loop l = Tracing l.drawn.board.grid l.drawn.drawing.now l.s l.initial.seen l.seen l.x l.d (size l.drawn.board.grid - l.counter)
