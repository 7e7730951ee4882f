use Rattle.std.proofs.Common.{sym, arith}
use Rattle.answers.proofs.Putting.{puts_recast}
use Rattle.encoder_shapes.proofs.Turns.{turn_end}
use Rattle.encoder_lines.proofs.Family.{lines-each}
use Rattle.encoder_lines.proofs.clue_lines.Goals as goal

pub returns : goal.returns
returns c = puts_recast (sym (lines-each c.args.numbering.now.board.fits)) (turn_end (omega arith) c.loop-x.invariant)
