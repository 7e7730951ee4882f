use Rattle.std.proofs.Common.{sym, arith}
use Rattle.answers.proofs.Putting.{puts_recast}
use Rattle.rules.specs.Read.{rules_board}
use Rattle.encoder_shapes.proofs.Turns.{limits_recast, turn_end}
use Rattle.encoder_call.specs.Families.{family_at}
use Rattle.encoder_call.proofs.EachCell.{cells_each, turn_start}
use Rattle.encoder_call.proofs.families.cells.Goals as goal

pub loop-x-init : goal.loop-x-init
loop-x-init c = let b = rules_board c.args.numbering.now.board in turn_start (limits_recast (cells_each b (family_at c.args.«family» b)) c.requires)

pub returns : goal.returns
returns c =
    let b = rules_board c.args.numbering.now.board in
    puts_recast (sym (cells_each b (family_at c.args.«family» b))) (turn_end (omega arith) c.loop-x.invariant)
