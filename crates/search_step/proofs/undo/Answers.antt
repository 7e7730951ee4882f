-- `search_step::undo` meets its contract. Assumes nothing.
use Rattle.search_step.proofs.Append.{append_assign, Backed, UnassignedFrom, undo_nothing, back_below, back_within, back_inside, back-numbered}
use Rattle.search_step.proofs.Append.{back_small, back_running, back_allowed, back_steps}
use Prim.Native.Nat.{◌<◌}
use native.Mathlib.Omega.{arith}
use mathlib.Core.Path.{refl}
use Rattle.search.specs.Trail.{Slices, slices}
use Rattle.cnf.specs.Literals.{most_variables}
use Rattle.search_trail.proofs.Entries.{running_used}
use Rattle.search_step.proofs.undo.Goals as goal

pub last_mark-requires : goal.last_mark-requires
last_mark-requires c = running_used c.requires.packed

pub returns-in_default : goal.returns-in_default
returns-in_default c =
    let lent : Slices = slices c.args.trail.now c.args.marks.now c.args.numbers.now in
    undo_nothing lent c.args.used
    c.in_default.ensures

pub unassign-requires-clause-to_le_used : goal.unassign-requires-clause-to_le_used
unassign-requires-clause-to_le_used c =
    let lent : Slices = slices c.args.trail.now c.args.marks.now c.args.numbers.now in
    let back : Backed lent c.args.used c.in-Some.i = record { was = c.requires; last = c.in-Some.ensures } in
    let h = back_below back in omega arith

pub negate_at-requires : goal.negate_at-requires
negate_at-requires c =
    let lent : Slices = slices c.args.trail.now c.args.marks.now c.args.numbers.now in
    let back : Backed lent c.args.used c.in-Some.i = record { was = c.requires; last = c.in-Some.ensures } in
    let b = back in (back_inside b, back_small b)

pub assign-requires-clause-i_in_bounds : goal.assign-requires-clause-i_in_bounds
assign-requires-clause-i_in_bounds c =
    let lent : Slices = slices c.args.trail.now c.args.marks.now c.args.numbers.now in
    let back : Backed lent c.args.used c.in-Some.i = record { was = c.requires; last = c.in-Some.ensures } in
    let unassigned-from : UnassignedFrom lent c.unassign.new.marks c.args.used c.in-Some.i = record { back = back; unassigns = c.unassign.ensures } in
    let f = unassigned-from in
    let h = append_assign (back_running f) (back_allowed f) c.negate_at.ensures in
    (h.0, h.1, omega arith)

pub assign-requires-clause-has_byte : goal.assign-requires-clause-has_byte
assign-requires-clause-has_byte c =
    let lent : Slices = slices c.args.trail.now c.args.marks.now c.args.numbers.now in
    let back : Backed lent c.args.used c.in-Some.i = record { was = c.requires; last = c.in-Some.ensures } in
    let unassigned-from : UnassignedFrom lent c.unassign.new.marks c.args.used c.in-Some.i = record { back = back; unassigns = c.unassign.ensures } in
    let f = unassigned-from in
    let h = append_assign (back_running f) (back_allowed f) c.negate_at.ensures in
    h.2

pub offset_bounds-numbers-i : goal.offset_bounds-numbers-i
offset_bounds-numbers-i c =
    let lent : Slices = slices c.args.trail.now c.args.marks.now c.args.numbers.now in
    let back : Backed lent c.args.used c.in-Some.i = record { was = c.requires; last = c.in-Some.ensures } in
    let unassigned-from : UnassignedFrom lent c.unassign.new.marks c.args.used c.in-Some.i = record { back = back; unassigns = c.unassign.ensures } in
    let small : c.in-Some.i < most_variables = let b = unassigned-from.back in let h = back_within b in let f = b.was.packed.few in omega arith in
    let f = small in omega arith

pub bounds-numbers-i : goal.bounds-numbers-i
bounds-numbers-i c =
    let lent : Slices = slices c.args.trail.now c.args.marks.now c.args.numbers.now in
    let back : Backed lent c.args.used c.in-Some.i = record { was = c.requires; last = c.in-Some.ensures } in
    let unassigned-from : UnassignedFrom lent c.unassign.new.marks c.args.used c.in-Some.i = record { back = back; unassigns = c.unassign.ensures } in
    back-numbered unassigned-from.back

pub overflow_add-result : goal.overflow_add-result
overflow_add-result c =
    let lent : Slices = slices c.args.trail.now c.args.marks.now c.args.numbers.now in
    let back : Backed lent c.args.used c.in-Some.i = record { was = c.requires; last = c.in-Some.ensures } in
    let unassigned-from : UnassignedFrom lent c.unassign.new.marks c.args.used c.in-Some.i = record { back = back; unassigns = c.unassign.ensures } in
    let small : c.in-Some.i < most_variables = let b = unassigned-from.back in let h = back_within b in let f = b.was.packed.few in omega arith in
    let f = small in omega arith

pub returns : goal.returns
returns c =
    let lent : Slices = slices c.args.trail.now c.args.marks.now c.args.numbers.now in
    let back : Backed lent c.args.used c.in-Some.i = record { was = c.requires; last = c.in-Some.ensures } in
    let unassigned-from : UnassignedFrom lent c.unassign.new.marks c.args.used c.in-Some.i = record { back = back; unassigns = c.unassign.ensures } in
    back_steps unassigned-from c.negate_at.ensures c.assign.ensures refl
