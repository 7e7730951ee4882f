-- `search_scan::after_clause` meets its contract. Assumes nothing.
use native.Mathlib.Omega.{arith}
use lib.ListN.{length}
use mathlib.Core.Path.{◌≡◌, refl, sym, ◌∙◌}
use Rattle.search_scan.proofs.Scans.{pass_none, pass_end, pass_on}
use Rattle.search_scan.proofs.after_clause.Goals as goal

pub returns-then-closes_at : goal.returns-then-closes_at
returns-then-closes_at c = pass_end c.loop-j.invariant.0 (omega arith) (sym c.closes_at.ensures ∙ c.if-closes_at.true)

pub loop-j-preserved : goal.loop-j-preserved
loop-j-preserved c = (pass_on c.loop-j.invariant.0 (omega arith) (sym c.closes_at.ensures ∙ c.if-closes_at.false), refl)

pub returns : goal.returns
returns c = let e = c.loop-j.invariant.1 in let f : c.loop-j.j ≡ length c.args.list.now = omega arith in e ∙ f ∙ pass_none c.loop-j.invariant.0 f
