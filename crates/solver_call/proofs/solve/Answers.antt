-- `solver_call::solve` meets its contract: the board that was read has the record that was given. Assumes nothing.
use mathlib.Core.Path.{◌≡◌, sym, ◌∙◌, ap, subst}
use Rattle.rules.specs.Record.{record_answer, grid_answer}
use Rattle.solver.specs.SolverCall.{solver_answer, solver_leaves}
use Rattle.solver_call.specs.Answer.{lent_of}
use Rattle.solver_call.proofs.solve.Goals as goal

pub solve_grid-requires : goal.solve_grid-requires
solve_grid-requires c =
    let read = c.in_ok-board.ensures in subst (λ s. grid_answer c.in_ok-board.board.grid ≡ record_answer s) (sym read.same_record) read.told

pub returns : goal.returns
returns c =
    let lent = lent_of c.args.list.now c.args.trail.now c.args.marks.now c.args.numbers.now c.args.values.now c.args.drawing.now in
    let same = c.in_ok-board.ensures.same_record in
    let e = c.solve_grid.ensures in
    record {
      result_value = e.result_value ∙ ap (λ s. solver_answer s c.args.budget lent) same;
      drawing_after = e.drawing_after ∙ ap (λ s. solver_leaves s c.args.budget lent) same;
    }
