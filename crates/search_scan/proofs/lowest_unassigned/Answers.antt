-- `search_scan::lowest_unassigned` meets its contract: the loop keeps `Seeking`. Assumes nothing.
use mathlib.Core.Path.{sym, ◌∙◌, refl}
use native.Mathlib.Omega.{arith}
use Rattle.answers.proofs.First.{seek_found, seek_none}
use Rattle.search.specs.Step.{lowest_unassigned}
use Rattle.search_scan.proofs.lowest_unassigned.Goals as goal

pub returns-then-is_unassigned : goal.returns-then-is_unassigned
unfolding lowest_unassigned
returns-then-is_unassigned c = seek_found c.loop-index.invariant (omega arith) (sym c.is_unassigned.ensures ∙ c.if-is_unassigned.true) refl

pub returns : goal.returns
unfolding lowest_unassigned
returns c = seek_none c.loop-index.invariant (omega arith) refl
