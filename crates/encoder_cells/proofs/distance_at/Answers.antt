use Rattle.encoder_shapes.proofs.Turns.{parts_all, parts_on, parts_needs, parts_end}
use Rattle.encoder_cells.proofs.distance_at.Goals as goal

pub or_not-requires : goal.or_not-requires
or_not-requires c =
    parts_needs (parts_on (parts_on (parts_on (parts_all c.requires.parts_within_limits) c.or_at_least_one.ensures) c.each_not_both.ensures) c.implies.ensures)

pub each_not_both-requires-2 : goal.each_not_both-requires-2
each_not_both-requires-2 c =
    let third = parts_on (parts_on (parts_on (parts_all c.requires.parts_within_limits) c.or_at_least_one.ensures) c.each_not_both.ensures) c.implies.ensures in
    parts_needs (parts_on third c.or_not.ensures)

pub all_nearer-requires-clause-parts_within_limits : goal.all_nearer-requires-clause-parts_within_limits
all_nearer-requires-clause-parts_within_limits c =
    let third = parts_on (parts_on (parts_on (parts_all c.requires.parts_within_limits) c.or_at_least_one.ensures) c.each_not_both.ensures) c.implies.ensures in
    record { limits = parts_needs (parts_on (parts_on third c.or_not.ensures) c.each_not_both-2.ensures) }

pub returns : goal.returns
returns c =
    let third = parts_on (parts_on (parts_on (parts_all c.requires.parts_within_limits) c.or_at_least_one.ensures) c.each_not_both.ensures) c.implies.ensures in
    parts_end (parts_on (parts_on (parts_on third c.or_not.ensures) c.each_not_both-2.ensures) c.all_nearer.ensures)
