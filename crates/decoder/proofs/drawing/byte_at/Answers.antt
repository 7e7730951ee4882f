-- `decoder::drawing::byte_at` meets its contract. Assumes nothing.
use mathlib.Core.Path.{sym}
use Rattle.rules.specs.Read.{rules_board}
use Rattle.encoder.specs.Variables.{Z}
use Rattle.encoder.specs.Decoding.{value_of}
use Rattle.decoder.proofs.Values.{known_inside, value_true, value_false, at_z, byte_black, byte_white}
use Rattle.decoder.proofs.drawing.byte_at.Goals as goal

pub bounds-values-z : goal.bounds-values-z
bounds-values-z c =
    let opened = sym c.if-not-is_open.ensures in
    known_inside c.args.numbering.now.board c.args.values.now c.requires.valued (Z c.args.x) opened (at_z c.args.numbering.now.board c.args.values.now c.requires.valued c.args.x opened c.sizes_below-z.ensures)

pub returns-then-values-z-eq1 : goal.returns-then-values-z-eq1
returns-then-values-z-eq1 c =
    let b = rules_board c.args.numbering.now.board in
    let opened = sym c.if-not-is_open.ensures in
    let z = at_z c.args.numbering.now.board c.args.values.now c.requires.valued c.args.x opened c.sizes_below-z.ensures in
    byte_black b (value_of b c.args.values.now) c.args.x opened c.link_sum-links.ensures (value_true c.args.numbering.now.board c.args.values.now c.requires.valued (Z c.args.x) z c.if-values-z-eq1.true)

pub returns-else-values-z-eq1 : goal.returns-else-values-z-eq1
returns-else-values-z-eq1 c =
    let b = rules_board c.args.numbering.now.board in
    let opened = sym c.if-not-is_open.ensures in
    let z = at_z c.args.numbering.now.board c.args.values.now c.requires.valued c.args.x opened c.sizes_below-z.ensures in
    byte_white b (value_of b c.args.values.now) c.args.x opened c.link_sum-links.ensures (value_false c.args.numbering.now.board c.args.values.now c.requires.valued (Z c.args.x) z c.if-values-z-eq1.false)
