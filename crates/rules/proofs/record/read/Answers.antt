-- `rules::record::read` meets its contract: the board that it hands out has a record that fits. Assumes nothing.
use native.Mathlib.Omega.{arith}
use Rattle.std.proofs.lemmas.Grind.{common_steps}
use lib.ListN.{get_or}
use mathlib.Core.Path.{sym}
use Rattle.answers.proofs.First.{first_none}
use Rattle.rules.specs.declared.Grid.{Grid}
use Rattle.rules.specs.Record.{RecordSized}
use Rattle.rules.proofs.record.read.Goals as goal

pub invariant_of-result : goal.invariant_of-result
invariant_of-result c =
    let s = c.args.«record».now in
    let grid : Grid = record { kind = c.in_ok-kind.kind; rows = get_or s 4 0; columns = get_or s 5 0 } in
    let sized : RecordSized grid s = grind (arith, common_steps) in
    record { fits = record { sides = sized.sides; long = sized.long; allowed = first_none _ _ (sym c.in-None.ensures) } }
