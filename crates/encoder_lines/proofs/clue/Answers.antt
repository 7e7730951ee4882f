use Rattle.std.proofs.Common.{sym, ap, arith}
use Rattle.encoder_shapes.specs.Shapes.{unit}
use Rattle.encoder_shapes.proofs.Turns.{limits_recast, parts_all, parts_on, parts_needs}
use Rattle.encoder_lines.proofs.Family.{last_is, last_few}
use Rattle.encoder_lines.proofs.clue.Goals as goal

pub overflow_mul-end : goal.overflow_mul-end
overflow_mul-end c = omega (arith, last_few _ _ _ _ _ c.line_end-end.ensures.cells_value c.args.numbering.now.board.fits c.requires.x_bound.0 c.requires.x_bound.1)

pub overflow_add-first-2 : goal.overflow_add-first-2
overflow_add-first-2 c =
    omega (arith, c.requires.parts_within_limits.limits.literals.0, last_few _ _ _ _ _ c.line_end-end.ensures.cells_value c.args.numbering.now.board.fits c.requires.x_bound.0 c.requires.x_bound.1)

pub overflow_add-first-3 : goal.overflow_add-first-3
overflow_add-first-3 c =
    omega (arith, c.requires.parts_within_limits.limits.literals.0, last_few _ _ _ _ _ c.line_end-end.ensures.cells_value c.args.numbering.now.board.fits c.requires.x_bound.0 c.requires.x_bound.1)

pub unit-requires-2 : goal.unit-requires-2
unit-requires-2 c =
    let third = parts_on (parts_on (parts_on (parts_all c.requires.parts_within_limits) c.unit.ensures) c.each_unit_not.ensures) c.count_step_each.ensures in
    limits_recast (ap unit (sym (last_is _ _ _ _ _ c.line_end-end.ensures.cells_value c.args.first))) (parts_needs third)
