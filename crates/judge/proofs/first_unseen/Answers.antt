-- `judge::first_unseen` meets its contract. Assumes nothing.
use native.Mathlib.Omega.{arith}
use mathlib.Core.Path.{refl, sym, ◌∙◌}
use Rattle.answers.proofs.First.{seek_found, seek_none}
use Rattle.judge.proofs.first_unseen.Goals as goal

pub returns-then-unseen_at : goal.returns-then-unseen_at
returns-then-unseen_at c = seek_found c.loop-x.invariant (omega arith) (sym c.unseen_at.ensures ∙ c.if-unseen_at.true) refl

pub returns : goal.returns
returns c = seek_none c.loop-x.invariant (omega arith) refl
