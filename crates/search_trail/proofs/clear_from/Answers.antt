-- `search_trail::clear_from` meets its contract: the elements before the index are zeros, the others as they were. Assumes nothing.
use Prim.Native.Nat.{◌+◌, ◌-◌, ◌<◌}
use native.Mathlib.Omega.{arith}
use native.Mathlib.Nat.{zero-add}
use lib.ListN.{length, take, drop}
use Rattle.std.proofs.lemmas.List.Edits.{fill_from_more}
use Rattle.search_trail.proofs.clear_from.Goals as goal

pub loop-element-preserved : goal.loop-element-preserved
loop-element-preserved g c =
    let i = c.loop-element.element-index in
    let rest = take (length c.args.buffer.now - c.args.used) (drop c.args.used c.args.buffer.now) in
    let h : 0 + i < length rest = omega arith in
    cc (c.loop-element.invariant, zero-add i, fill_from_more rest 0 i c.args.zero h)
