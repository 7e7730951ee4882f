-- `search_step::append_choice` meets its contract. Assumes nothing.
use Prim.Native.Nat.{◌<◌}
use native.Mathlib.Omega.{arith}
use mathlib.Core.Path.{refl}
use Rattle.cnf.specs.Literals.{most_variables}
use Rattle.search_step.proofs.Append.{choice_small, choice_put, append_room, append-inside, append-numbered, append_assign, append_steps}
use Rattle.search_step.proofs.append_choice.Goals as goal

pub write_not-requires : goal.write_not-requires
write_not-requires c = (append-inside c.requires.running c.requires.allows, choice_small c.requires.running c.requires.allows)

pub overflow_add-result : goal.overflow_add-result
overflow_add-result c =
    let room : c.args.used < most_variables = let h = append_room c.requires.running c.requires.allows in let f = c.requires.running.packed.few in omega arith in
    let h = room in omega arith

pub assign-requires-clause-i_in_bounds : goal.assign-requires-clause-i_in_bounds
assign-requires-clause-i_in_bounds c =
    let h = append_assign c.requires.running c.requires.allows (choice_put c.args.trail.now c.args.used c.args.index c.write_not.ensures) in
    (h.0, h.1, omega arith)

pub assign-requires-clause-has_byte : goal.assign-requires-clause-has_byte
assign-requires-clause-has_byte c =
    let h = append_assign c.requires.running c.requires.allows (choice_put c.args.trail.now c.args.used c.args.index c.write_not.ensures) in
    h.2

pub offset_bounds-numbers-used : goal.offset_bounds-numbers-used
offset_bounds-numbers-used c =
    let room : c.args.used < most_variables = let h = append_room c.requires.running c.requires.allows in let f = c.requires.running.packed.few in omega arith in
    let h = room in omega arith

pub bounds-numbers-used : goal.bounds-numbers-used
bounds-numbers-used c = append-numbered c.requires.running c.requires.allows

pub returns : goal.returns
returns c =
    append_steps c.requires.running c.requires.allows (choice_put c.args.trail.now c.args.used c.args.index c.write_not.ensures) (omega arith)
    c.assign.ensures refl
