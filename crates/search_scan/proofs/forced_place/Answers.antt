-- `search_scan::forced_place` meets its contract: the loop keeps `Forcing`. Assumes nothing.
use Prim.Native.Nat.{◌≤◌}
use native.Mathlib.Omega.{arith}
use lib.IntN.{ℤ, pos}
use lib.ListN.{get_or}
use mathlib.Core.Path.{◌≡◌, sym, ◌∙◌}
use mathlib.Core.Bool.{false}
use Rattle.cnf.specs.Literals.{closes}
use Rattle.search_scan.proofs.Literals.{Read, code_two, code_not, code_zero, read_fails, read_stands}
use Rattle.search_scan.proofs.Scans.{force_start, force_end, force_closed, force_false, force_taken, force_passed}
use Rattle.search_scan.proofs.forced_place.Goals as goal
use Rattle.search_scan.proofs.forced_place.Goals.{then-is_forced, else-is_forced}

pub loop-i-init : goal.loop-i-init
loop-i-init c = force_start _ _ c.requires

pub loop-i-preserved-then-k-eq0 : goal.loop-i-preserved-then-k-eq0
loop-i-preserved-then-k-eq0 c =
    let lit : ℤ = get_or c.args.list.now c.loop-i.i (pos 0) in
    force_closed c.loop-i.invariant (omega arith) (code_zero lit c.code_at-k.ensures c.if-k-eq0.true)

pub loop-i-preserved-then-number-k : goal.loop-i-preserved-then-number-k
loop-i-preserved-then-number-k c =
    let lit : ℤ = get_or c.args.list.now c.loop-i.i (pos 0) in
    let not-closed : closes lit ≡ false = code_not lit c.code_at-k.ensures c.if-k-eq0.false in
    let read : Read c.args.marks.now lit c.code_at-k.result c.number.result = record { code = c.code_at-k.ensures; some = c.if-k-eq0.false; number = c.number.ensures } in
    force_false c.loop-i.invariant (omega arith) not-closed (read_fails lit read c.if-number-k.true)

pub loop-i-preserved : goal.loop-i-preserved
loop-i-preserved c =
    let lit : ℤ = get_or c.args.list.now c.loop-i.i (pos 0) in
    let not-closed : closes lit ≡ false = code_not lit c.code_at-k.ensures c.if-k-eq0.false in
    let two : 2 ≤ c.code_at-k.result = code_two lit c.code_at-k.ensures c.if-k-eq0.false in
    let read : Read c.args.marks.now lit c.code_at-k.result c.number.result = record { code = c.code_at-k.ensures; some = c.if-k-eq0.false; number = c.number.ensures } in
    let inv = c.loop-i.invariant in
    let not_end = not-closed in
    let stands = read_stands lit read c.if-number-k.false in
    let after = c.after_clause-i.ensures in
    let is = c.is_forced.ensures in
    elim c.if-is_forced.branch [
      | then-is_forced w ↦
          rw (w.lowest-is) (force_taken inv (omega arith) not_end stands after (sym is ∙ w.if-is_forced.true) c.code_at-k.ensures two w.most-is)
      | else-is_forced w ↦ rw (w.lowest-is, w.most-is) (force_passed inv (omega arith) not_end stands after (sym is ∙ w.if-is_forced.false))
    ]

pub returns : goal.returns
returns c = force_end c.loop-i.invariant (omega arith)
