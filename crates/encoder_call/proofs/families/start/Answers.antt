use Rattle.std.proofs.Common.{sym, ap}
use Rattle.answers.proofs.Putting.{puts_recast}
use Rattle.rules.specs.Read.{rules_board}
use Rattle.encoder_shapes.proofs.Turns.{parts_all, parts_on, parts_needs, parts_end}
use Rattle.encoder_numbers.specs.declared.Sizes.{Sizes}
use Rattle.encoder_numbers.proofs.Neighbours.{fits_laws}
use Rattle.encoder_call.proofs.EachCell.{start_parts, start_limits}
use Rattle.encoder_call.proofs.families.start.Goals as goal

pub at_least_one-requires : goal.at_least_one-requires
at_least_one-requires c =
    let b = rules_board c.args.numbering.now.board in
    let f = ap (λ (z : Sizes). z.opens) c.args.numbering.now.tables.sized in
    let limits = start_limits b (fits_laws c.args.numbering.now.board.fits) f c.requires in
    parts_needs (parts_all {w = c.args.out.now} limits)

pub cells-requires : goal.cells-requires
cells-requires c =
    let b = rules_board c.args.numbering.now.board in
    let f = ap (λ (z : Sizes). z.opens) c.args.numbering.now.tables.sized in
    let limits = start_limits b (fits_laws c.args.numbering.now.board.fits) f c.requires in
    parts_needs (parts_on (parts_all {w = c.args.out.now} limits) c.at_least_one.ensures)

pub returns : goal.returns
returns c =
    let b = rules_board c.args.numbering.now.board in
    let f = ap (λ (z : Sizes). z.opens) c.args.numbering.now.tables.sized in
    let limits = start_limits b (fits_laws c.args.numbering.now.board.fits) f c.requires in
    let parts = start_parts b (fits_laws c.args.numbering.now.board.fits) f in
    puts_recast (sym parts) (parts_end (parts_on (parts_on (parts_all {w = c.args.out.now} limits) c.at_least_one.ensures) c.cells.ensures))
