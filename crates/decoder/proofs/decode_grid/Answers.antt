-- `decoder::decode_grid` meets its contract. Assumes nothing.
use native.Mathlib.Omega.{arith}
use lib.ListN.{replicate}
use mathlib.Core.Path.{◌∙◌}
use Rattle.encoder_numbers.specs.Tables.{table_length}
use Rattle.encoder_numbers.proofs.FilledTable.{tables_filled}
use Rattle.decoder.proofs.Answers.{lengths_right}
use Rattle.decoder.proofs.decode_grid.Goals as goal

pub invariant_of-numbering : goal.invariant_of-numbering
invariant_of-numbering c =
    let h = c.args.board.now.fits in
    let filled = c.fill-sizes.ensures in
    record { tables = tables_filled h (replicate table_length 0) (omega (arith, h.sides.few)) filled.value filled.table_after }

pub judged-requires-clause-valued : goal.judged-requires-clause-valued
judged-requires-clause-valued c = (lengths_right _ _ _ _ c.in_ok-check.ensures).0 ∙ c.variable_count-v.ensures
