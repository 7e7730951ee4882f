-- `encoder_numbers::tables::open_neighbour` meets its contract. Assumes nothing.
use mathlib.Core.Path.{sym}
use Rattle.rules.proofs.Boards.{wired}
use Rattle.encoder_numbers.proofs.tables.open_neighbour.Goals as goal

pub is_open-requires : goal.is_open-requires
is_open-requires c = ((wired c.args.board.now.grid).inside c.args.d c.args.x _ (sym c.in_ok-y.ensures)).1
