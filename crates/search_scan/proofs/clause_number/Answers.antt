-- `search_scan::clause_number` meets its contract. Assumes nothing.
use native.Mathlib.Omega.{arith}
use lib.ListN.{take}
use lib.Seq.{length-take-le}
use Rattle.answers.proofs.Lists.{many_most}
use Rattle.cnf.specs.Literals.{closes}
use Rattle.search_scan.proofs.clause_number.Goals as goal

pub overflow_add-result : goal.overflow_add-result
overflow_add-result c =
    let part = take c.args.place c.args.list.now in
    let h = c.requires in
    omega (arith, c.clause_count.ensures, many_most closes part, length-take-le c.args.place c.args.list.now (omega arith))
