-- `encoder_size::count` meets its contract. Assumes nothing.
use native.Mathlib.Omega.{arith}
use lib.ListN.{replicate}
use Rattle.rules.specs.Read.{rules_board}
use Rattle.encoder_numbers.specs.Tables.{table_length}
use Rattle.encoder_numbers.proofs.FilledTable.{tables_filled}
use Rattle.encoder_size.proofs.All.{counted}
use Rattle.encoder_size.proofs.count.Goals as goal

pub invariant_of-all_clauses : goal.invariant_of-all_clauses
invariant_of-all_clauses c =
    let fits = c.args.board.now.fits in
    let filled = c.fill-sizes.ensures in
    record { tables = tables_filled fits (replicate table_length 0) (omega (arith, fits.sides.few)) filled.value filled.table_after }

pub returns : goal.returns
returns c = counted (rules_board c.args.board.now) c.all_clauses-all.ensures c.variable_count.ensures
