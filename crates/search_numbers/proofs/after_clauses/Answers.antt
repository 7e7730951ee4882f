-- `search_numbers::after_clauses` meets its contract: the loop keeps `Walking`. Assumes nothing.
use native.Mathlib.Omega.{arith}
use mathlib.Core.Path.{sym, ◌∙◌}
use Rattle.search_numbers.proofs.Places.{walk_end, walk_here, walk-closed, walk_on}
use Rattle.search_numbers.proofs.after_clauses.Goals.{then-closes_at, else-closes_at}
use Rattle.search_numbers.proofs.after_clauses.Goals as goal

pub returns-then-left-eq0 : goal.returns-then-left-eq0
returns-then-left-eq0 c = walk_here c.loop-j.invariant.1 c.if-left-eq0.true

pub loop-j-preserved : goal.loop-j-preserved
loop-j-preserved c =
    let w = c.loop-j.invariant.1 in (
      omega arith,
      elim c.if-closes_at.branch [
        | then-closes_at b ↦ rw b.left-is (walk-closed w c.loop-j-test.true c.if-left-eq0.false (sym c.closes_at.ensures ∙ b.if-closes_at.true))
        | else-closes_at b ↦ rw b.left-is (walk_on w c.loop-j-test.true c.if-left-eq0.false (sym c.closes_at.ensures ∙ b.if-closes_at.false))
      ],
    )

pub returns : goal.returns
returns c = walk_end c.loop-j.invariant.1 c.loop-j-test.false (omega arith)
