-- `cnf::clause_count` meets its contract: the parts counted and what is left have all clauses. Assumes nothing.
use native.Mathlib.Omega.{arith}
use lib.ListN.{length, length-append}
use mathlib.Core.Path.{◌∙◌, ap}
use Rattle.answers.proofs.Lists.{many_most}
use Rattle.cnf.specs.Literals.{closes}
use Rattle.cnf.specs.Clauses.{clause_count}
use Rattle.cnf.proofs.Lists.{count_append}
use Rattle.cnf.proofs.clause_count.Goals as goal

pub loop-part-preserved : goal.loop-part-preserved
loop-part-preserved c =
    let i = c.loop-part.invariant in
    let parts = c.in-Some.ensures.steps.1.0 in
    let most = many_most closes c.in-Some.part.now in
    let long = simp length-append at (ap length parts) in
    let count = simp count_append at (ap clause_count parts) in
    record { size = c.in-Some.ensures.steps.0 ∙ i.size; few = omega arith; rest = omega arith }
