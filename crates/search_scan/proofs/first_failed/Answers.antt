-- `search_scan::first_failed` meets its contract: both loops keep `Failing`. Assumes nothing.
use native.Mathlib.Omega.{arith}
use lib.IntN.{ℤ, pos}
use lib.ListN.{get_or}
use mathlib.Core.Path.{◌≡◌}
use mathlib.Core.Bool.{false}
use Rattle.cnf.specs.Literals.{closes}
use Rattle.search_scan.proofs.Literals.{Read, code_not, code_zero, read_fails, read_stands}
use Rattle.search_scan.proofs.Scans.{fail_start, fail_none, fail_found, fail_false, fail_other}
use Rattle.search_scan.proofs.first_failed.Goals as goal

pub clauses-init : goal.clauses-init
clauses-init c = fail_start

pub clauses-preserved : goal.clauses-preserved
clauses-preserved c =
    let lit : ℤ = get_or c.args.list.now c.loop-i.i (pos 0) in
    let not-closed : closes lit ≡ false = code_not lit c.code_at-k.ensures c.if-k-eq0.false in
    let read : Read c.args.marks.now lit c.code_at-k.result c.number.result = record { code = c.code_at-k.ensures; some = c.if-k-eq0.false; number = c.number.ensures } in
    let other = read_stands lit read c.if-number-k.true in
    fail_other c.loop-i.invariant.2 (omega arith) not-closed other c.after_clause-start.ensures

pub loop-i-preserved : goal.loop-i-preserved
loop-i-preserved c =
    let lit : ℤ = get_or c.args.list.now c.loop-i.i (pos 0) in
    let not-closed : closes lit ≡ false = code_not lit c.code_at-k.ensures c.if-k-eq0.false in
    let read : Read c.args.marks.now lit c.code_at-k.result c.number.result = record { code = c.code_at-k.ensures; some = c.if-k-eq0.false; number = c.number.ensures } in (
      c.loop-i.invariant.0,
      omega arith,
      fail_false c.loop-i.invariant.2 (omega arith) not-closed (read_fails lit read c.if-number-k.false),
    )

pub returns-then-i-list : goal.returns-then-i-list
returns-then-i-list c = fail_none c.loop-i.invariant.2 c.if-i-list.true

pub returns-then-k-eq0 : goal.returns-then-k-eq0
returns-then-k-eq0 c =
    let lit : ℤ = get_or c.args.list.now c.loop-i.i (pos 0) in
    fail_found c.loop-i.invariant.2 (omega arith) (code_zero lit c.code_at-k.ensures c.if-k-eq0.true)
