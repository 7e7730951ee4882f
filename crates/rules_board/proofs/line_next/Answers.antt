-- `rules_board::line_next` meets its contract. Assumes nothing.
use Rattle.rules_board.proofs.Steps.{stays_on}
use Rattle.rules_board.proofs.line_next.Goals as goal

pub stops_before-requires : goal.stops_before-requires
stops_before-requires c =
    (stays_on (record { sides = c.args.board.now.fits.sides; inside = c.requires }) c.args.d c.in_ok-next.ensures).inside
