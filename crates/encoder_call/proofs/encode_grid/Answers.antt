use Rattle.std.proofs.Common.{refl, arith}
use lib.ListN.{replicate}
use Rattle.answers.proofs.Putting.{putting}
use Rattle.encoder_numbers.specs.Tables.{table_length}
use Rattle.encoder_numbers.proofs.FilledTable.{tables_filled}
use Rattle.encoder_call.proofs.Ends.{list_limits, ends-listed}
use Rattle.encoder_call.proofs.encode_grid.Goals as goal

pub invariant_of-numbering : goal.invariant_of-numbering
invariant_of-numbering c =
    let fits = c.requires.encodable.record_fits in
    let filled = c.fill-sizes.ensures in
    record { tables = tables_filled fits (replicate table_length 0) (omega (arith, fits.sides.few)) filled.value filled.table_after }

pub all_families-requires : goal.all_families-requires
all_families-requires c = rw c.new-out.ensures (list_limits c.requires.encodable)

pub returns-clause-list_after : goal.returns-clause-list_after
returns-clause-list_after c =
    (ends-listed c.requires.encodable c.args.list.now c.requires.counts_value (omega arith) (record { place = refl; holds = grind (arith, putting) })).1
