-- `program_solution::solve_record` meets its contract. Assumes nothing.
use borrow.Author.Rules.{rules}
use mathlib.Core.Path.{refl}
use Rattle.rules.proofs.Records.{read_grid}
use Rattle.program_solution.proofs.Ends.{called, ends-refused, ends_unfound, ends_found}
use Rattle.program_solution.proofs.solve_record.Goals as goal

pub returns-in-Err-answer : goal.returns-in-Err-answer
returns-in-Err-answer c =
    let e = c.solve_grid-answer.ensures in
    ends-refused (called (search rules) c.in-Ok.ensures.same_record e.result_value e.drawing_after) c.in-Err-answer.is
    c.from-in-Err-answer.ensures c.put_refused-in-Err-answer.ensures

pub returns-in-Found : goal.returns-in-Found
returns-in-Found c =
    let read = c.in-Ok.ensures in
    let e = c.solve_grid-answer.ensures in
    ends_found (called (search rules) read.same_record e.result_value e.drawing_after) c.in-Ok-answer.is c.in-Found.is
    (read_grid c.args.record.now c.in-Ok.board.grid read.told) read.same_record

pub returns-in-None : goal.returns-in-None
returns-in-None c =
    let e = c.solve_grid-answer.ensures in
    ends_unfound (called (search rules) c.in-Ok.ensures.same_record e.result_value e.drawing_after) c.in-Ok-answer.is c.in-None.is
    (λ text. refl) (λ after. refl) c.put_line.ensures

pub returns-in-Halted : goal.returns-in-Halted
returns-in-Halted c =
    let e = c.solve_grid-answer.ensures in
    ends_unfound (called (search rules) c.in-Ok.ensures.same_record e.result_value e.drawing_after) c.in-Ok-answer.is c.in-Halted.is
    (λ text. refl) (λ after. refl) c.put_line-in-Halted.ensures
