use Rattle.std.proofs.Common.{sym}
use Rattle.answers.proofs.Putting.{puts_recast}
use Rattle.rules.specs.Read.{rules_board}
use Rattle.encoder.proofs.ClauseLists.{list_families}
use Rattle.encoder_shapes.proofs.Turns.{parts_all, parts_on, parts_needs, parts_end}
use Rattle.encoder_call.proofs.EachCell.{family_limits}
use Rattle.encoder_call.proofs.families.all_families.Goals as goal

pub cells-requires : goal.cells-requires
cells-requires c =
    let all = parts_all {w = c.args.out.now} (family_limits (rules_board c.args.numbering.now.board) c.requires) in
    parts_needs all

pub clue_lines-requires : goal.clue_lines-requires
clue_lines-requires c =
    let all = parts_all {w = c.args.out.now} (family_limits (rules_board c.args.numbering.now.board) c.requires) in
    let first = parts_on all c.cells.ensures in
    parts_needs first

pub cells-requires-2 : goal.cells-requires-2
cells-requires-2 c =
    let all = parts_all {w = c.args.out.now} (family_limits (rules_board c.args.numbering.now.board) c.requires) in
    let first = parts_on all c.cells.ensures in
    let second = parts_on first c.clue_lines.ensures in
    parts_needs second

pub start-requires : goal.start-requires
start-requires c =
    let all = parts_all {w = c.args.out.now} (family_limits (rules_board c.args.numbering.now.board) c.requires) in
    let first = parts_on all c.cells.ensures in
    let second = parts_on first c.clue_lines.ensures in
    let third = parts_on second c.cells-2.ensures in
    parts_needs third

pub cells-requires-3 : goal.cells-requires-3
cells-requires-3 c =
    let all = parts_all {w = c.args.out.now} (family_limits (rules_board c.args.numbering.now.board) c.requires) in
    let first = parts_on all c.cells.ensures in
    let second = parts_on first c.clue_lines.ensures in
    let third = parts_on second c.cells-2.ensures in
    let fourth = parts_on third c.start.ensures in
    parts_needs fourth

pub returns : goal.returns
returns c =
    let all = parts_all {w = c.args.out.now} (family_limits (rules_board c.args.numbering.now.board) c.requires) in
    let first = parts_on all c.cells.ensures in
    let second = parts_on first c.clue_lines.ensures in
    let third = parts_on second c.cells-2.ensures in
    let fourth = parts_on third c.start.ensures in
    let fifth = parts_on fourth c.cells-3.ensures in
    puts_recast (sym (list_families (rules_board c.args.numbering.now.board))) (parts_end fifth)
