-- `search_input::in_window` meets its contract. Assumes nothing.
use Rattle.search_input.proofs.Flags.{no_flags}
use Rattle.search_input.proofs.in_window.Goals as goal

pub first_met-requires-clause-no_flag : goal.first_met-requires-clause-no_flag
first_met-requires-clause-no_flag g c = no_flags g.row.SIZE
