-- `cnf::first_beyond` meets its contract: the loop keeps `Seeking`. Assumes nothing.
use native.Mathlib.Omega.{arith}
use mathlib.Core.Path.{refl}
use lib.IntN.{ℤ, pos}
use lib.ListN.{get_or}
use Rattle.answers.proofs.First.{seek_found, seek_none}
use Rattle.cnf.proofs.Lists.{code_beyond}
use Rattle.cnf.proofs.first_beyond.Goals as goal

pub returns-then-code_at-v : goal.returns-then-code_at-v
returns-then-code_at-v c =
    let lit : ℤ = get_or c.args.list.now c.loop-i.i (pos 0) in
    seek_found c.loop-i.invariant (omega arith)
    (code_beyond c.args.v lit c.code_at.ensures (omega arith)) refl

pub returns : goal.returns
returns c = seek_none c.loop-i.invariant (omega arith) refl
