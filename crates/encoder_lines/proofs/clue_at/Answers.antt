use Rattle.encoder_shapes.proofs.Turns.{limits_recast}
use Rattle.encoder_lines.proofs.Family.{clue_some}
use Rattle.encoder_lines.proofs.clue_at.Goals as goal

pub clue-requires-clause-parts_within_limits : goal.clue-requires-clause-parts_within_limits
clue-requires-clause-parts_within_limits c =
    let is_clue = clue_some c.args.x c.args.numbering.now.board.fits c.requires.x_bound c.in-Clue.ensures in
    record { limits = rw c.count_number-first.ensures (limits_recast is_clue c.requires.within_limits) }
