use Rattle.std.proofs.Common.{sym, ◌∙◌}
use Rattle.answers.proofs.Putting.{puts_recast}
use Rattle.encoder_shapes.proofs.Turns.{limits_recast}
use Rattle.encoder_numbers.specs.Tables.{OpenCell}
use Rattle.encoder_call.proofs.EachCell.{open_list, open_few}
use Rattle.encoder_call.proofs.families.cell.Goals as goal

pub open_cell-requires : goal.open_cell-requires
open_cell-requires c =
    let here : OpenCell c.args.numbering.now.board.grid c.args.numbering.now.board.«record».now c.args.x = record { inside = c.requires.x_bound; opened = sym c.is_open.ensures ∙ c.if-is_open.true } in
    record {
      parts_within_limits = record { limits = limits_recast (open_list c.args.numbering.now.tables here c.cell_numbers-numbers.ensures c.args.«family») c.requires.fact };
      f_nonzero = open_few c.args.numbering.now.tables here c.cell_numbers-numbers.ensures;
    }

pub returns-then-is_open : goal.returns-then-is_open
returns-then-is_open c =
    let here : OpenCell c.args.numbering.now.board.grid c.args.numbering.now.board.«record».now c.args.x = record { inside = c.requires.x_bound; opened = sym c.is_open.ensures ∙ c.if-is_open.true } in
    puts_recast (sym (open_list c.args.numbering.now.tables here c.cell_numbers-numbers.ensures c.args.«family»)) c.open_cell.ensures
