-- `solver_call::solve_grid` meets its contract. Assumes nothing.
use mathlib.Core.Path.{◌∙◌, ap}
use Rattle.answers.proofs.Results.{handed_on}
use Rattle.encoder_call.proofs.Ends.{read_encodable}
use Rattle.solver_call.specs.Answer.{solved_outcome, lent_of}
use Rattle.solver_call.proofs.Ends.{ends_short, fits, ends-solved}
use Rattle.solver_call.proofs.solve_grid.Goals as goal

pub returns-in_err-first_short : goal.returns-in_err-first_short
returns-in_err-first_short c =
    let lent = lent_of c.args.list.now c.args.trail.now c.args.marks.now c.args.numbers.now c.args.values.now c.args.drawing.now in
    let (told, left) =
    ends_short c.args.board.now.record.now c.args.budget lent c.args.board.now.grid c.requires c.count-counts.ensures c.size.ensures c.in_err-first_short.ensures in
    record { result_value = ap solved_outcome (handed_on _ c.from_residual.ensures.1) ∙ told; drawing_after = left }

pub encode_grid-requires : goal.encode_grid-requires
encode_grid-requires c = record { encodable = read_encodable c.args.board.now.record.now c.args.board.now.grid c.requires; counts_value = c.count-counts.ensures }

pub find_drawing-requires : goal.find_drawing-requires
find_drawing-requires c =
    let lent = lent_of c.args.list.now c.args.trail.now c.args.marks.now c.args.numbers.now c.args.values.now c.args.drawing.now in
    let e = c.encode_grid.ensures in
    fits c.args.board.now.record.now c.args.budget lent c.args.board.now.grid c.requires c.count-counts.ensures c.size.ensures c.in_ok-first_short.ensures (e.result_value, e.list_after)

pub returns : goal.returns
returns c =
    let lent = lent_of c.args.list.now c.args.trail.now c.args.marks.now c.args.numbers.now c.args.values.now c.args.drawing.now in
    let e = c.encode_grid.ensures in
    let (told, left) =
    ends-solved c.args.board.now.record.now c.args.budget lent c.args.board.now.grid c.requires c.count-counts.ensures c.size.ensures c.in_ok-first_short.ensures
    (e.result_value, e.list_after) c.find_drawing.ensures in
    record { result_value = told; drawing_after = left }
