-- `search_step::append_forced` meets its contract. Assumes nothing.
use Prim.Native.Nat.{◌<◌}
use native.Mathlib.Omega.{arith}
use lib.ListN.{set}
use mathlib.Core.Path.{ap}
use Rattle.cnf.specs.Literals.{most_variables}
use Rattle.search_step.proofs.Append.{legal_place, append_room, append-inside, append-numbered, append_assign, append_steps}
use Rattle.search_step.proofs.append_forced.Goals as goal

pub copy_at-requires : goal.copy_at-requires
copy_at-requires c = (append-inside c.requires.running c.requires.allows, legal_place c.args.list.now c.args.place c.requires.allows)

pub assign-requires-clause-i_in_bounds : goal.assign-requires-clause-i_in_bounds
assign-requires-clause-i_in_bounds c =
    let h = append_assign c.requires.running c.requires.allows c.copy_at.ensures in
    (h.0, h.1, omega arith)

pub assign-requires-clause-has_byte : goal.assign-requires-clause-has_byte
assign-requires-clause-has_byte c =
    let h = append_assign c.requires.running c.requires.allows c.copy_at.ensures in
    h.2

pub offset_bounds-numbers-used : goal.offset_bounds-numbers-used
offset_bounds-numbers-used c =
    let room : c.args.used < most_variables = let h = append_room c.requires.running c.requires.allows in let f = c.requires.running.packed.few in omega arith in
    let h = room in omega arith

pub bounds-numbers-used : goal.bounds-numbers-used
bounds-numbers-used c = append-numbered c.requires.running c.requires.allows

pub overflow_add-result : goal.overflow_add-result
overflow_add-result c =
    let room : c.args.used < most_variables = let h = append_room c.requires.running c.requires.allows in let f = c.requires.running.packed.few in omega arith in
    let h = room in omega arith

pub returns : goal.returns
returns c =
    append_steps c.requires.running c.requires.allows c.copy_at.ensures (omega arith) c.assign.ensures
    (ap (set c.args.numbers.now c.args.used) c.clause_number.ensures)
