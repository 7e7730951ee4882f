-- `solver_call::grid_search::find_drawing` meets its contract. Assumes nothing.
use borrow.Author.Rules.{rules}
use Rattle.solver_call.proofs.GridSearch.{may_search, may_decode, unfound, literals, found}
use Rattle.solver_call.proofs.grid_search.find_drawing.Goals as goal

pub searched-end-requires : goal.searched-end-requires
searched-end-requires c = may_search c.requires c.args.budget

pub give_values-requires : goal.give_values-requires
give_values-requires c =
    let same = c.searched-end.auto in
    literals c.requires c.args.budget c.searched-end.result c.searched-end.ensures same.trail same.marks same.numbers (search rules)

pub returns-then-eq : goal.returns-then-eq
returns-then-eq c =
    let same = c.searched-end.auto in
    found c.requires c.args.budget c.searched-end.result c.searched-end.ensures same.trail same.marks same.numbers (search rules)
    c.give_values.ensures c.decode_grid.ensures.drawing_after c.give_values.auto.values c.decode_grid.auto.drawing

pub returns-else-eq : goal.returns-else-eq
returns-else-eq c =
    let same = c.searched-end.auto in
    unfound c.requires c.args.budget c.searched-end.result c.searched-end.ensures same.trail same.marks same.numbers (search rules)
