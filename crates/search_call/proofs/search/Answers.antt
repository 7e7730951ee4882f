-- `search_call::search` meets its contract. Assumes nothing.
use mathlib.Core.Path.{◌∙◌, ap}
use Rattle.answers.proofs.Results.{handed_on}
use Rattle.search.specs.Call.{search_on, handed, Searching}
use Rattle.search_call.specs.Answers.{answer_outcome}
use Rattle.search_call.proofs.Calls.{check_accepts, check_long, by_length, hands_refused, hands_ended}
use Rattle.search_call.proofs.search.Goals as goal

pub returns-in_err-check : goal.returns-in_err-check
returns-in_err-check c =
    let gets = search_on c.args.variables c.args.list.now c.args.trail.now c.args.marks.now c.args.numbers.now c.args.used in
    ap (λ r. handed (answer_outcome r) c.args.trail.now c.args.marks.now c.args.numbers.now) (handed_on _ c.from_residual.ensures.1)
    ∙ hands_refused Searching gets c.args.budget c.in_err-check.field-0.0 (c.in_err-check.ensures _)

pub searched-requires : goal.searched-requires
searched-requires c =
    let gets = search_on c.args.variables c.args.list.now c.args.trail.now c.args.marks.now c.args.numbers.now c.args.used in
    by_length (check_long gets c.in_ok-check.ensures) (check_accepts gets c.in_ok-check.ensures)

pub returns : goal.returns
returns c =
    let gets = search_on c.args.variables c.args.list.now c.args.trail.now c.args.marks.now c.args.numbers.now c.args.used in
    hands_ended (check_accepts gets c.in_ok-check.ensures) (check_long gets c.in_ok-check.ensures) c.args.budget c.searched.ensures
