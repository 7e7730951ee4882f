use Rattle.encoder_shapes.proofs.Turns.{parts_all, parts_on, parts_needs, parts_end}
use Rattle.encoder_cells.proofs.links_at.Goals as goal

pub any_four-requires-2 : goal.any_four-requires-2
any_four-requires-2 c =
    record { limits = parts_needs (parts_on (parts_on (parts_on (parts_all c.requires) c.all_white_ends.ensures) c.any_four.ensures) c.pairs_four.ensures) }

pub one_ways-requires : goal.one_ways-requires
one_ways-requires c =
    let third = parts_on (parts_on (parts_on (parts_all c.requires) c.all_white_ends.ensures) c.any_four.ensures) c.pairs_four.ensures in
    record { limits = parts_needs (parts_on (parts_on third c.any_four-2.ensures) c.pairs_four-2.ensures) }

pub returns : goal.returns
returns c =
    let third = parts_on (parts_on (parts_on (parts_all c.requires) c.all_white_ends.ensures) c.any_four.ensures) c.pairs_four.ensures in
    parts_end (parts_on (parts_on (parts_on third c.any_four-2.ensures) c.pairs_four-2.ensures) c.one_ways.ensures)
