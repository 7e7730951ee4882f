-- `search_scan::is_forced` meets its contract. Assumes nothing.
use Prim.Native.Nat.{◌/◌}
use native.Mathlib.Omega.{arith}
use lib.IntN.{ℤ, pos, nat_abs}
use lib.ListN.{get_or}
use mathlib.Core.Path.{◌≡◌, ◌∙◌, ap}
use Rattle.cnf.proofs.Lists.{code_variable}
use Rattle.search_scan.specs.PackedValues.{packed_values}
use Rattle.search_scan.proofs.Literals.{Read, not_zero, read_untrue}
use Rattle.search_scan.proofs.Scans.{others_left}
use Rattle.search_scan.proofs.is_forced.Goals as goal

pub returns : goal.returns
returns c =
    let lit : ℤ = get_or c.args.list.now c.args.place (pos 0) in
    let variable : c.code_at-k.result / 2 ≡ nat_abs lit = ap (λ k. k / 2) c.code_at-k.ensures ∙ code_variable lit in
    let some : c.code_at-k.result ≡ 0 → ⊥ = not_zero lit c.code_at-k.ensures c.requires.pos_value in
    let read : Read c.args.marks.now lit c.code_at-k.result c.number.result = record { code = c.code_at-k.ensures; some = some; number = c.number.ensures } in
    let a = c.args in
    c.others_fail.ensures ∙ others_left (packed_values a.marks.now) a.list.now a.place a.most c.requires.place_in_bounds
    (omega (arith, variable)) (read_untrue lit read c.if-number-k.false)
