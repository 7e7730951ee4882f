-- `solve::solution_text` meets its contract. Assumes nothing.
use borrow.Author.Rules.{rules}
use native.Mathlib.Omega.{arith}
use Rattle.program_text.proofs.Limits.{whole}
use Rattle.program_solution.proofs.Printing.{drawn-inside, drawn_long}
use Rattle.solve.proofs.Ends.{ends-line, ends-drawn, solution_fits}
use Rattle.solve.proofs.solution_text.Goals as goal

pub slice_bounds-drawing-end : goal.slice_bounds-drawing-end
slice_bounds-drawing-end c = drawn-inside c.in-Drawing.ensures c.size.ensures

pub slice_bounds-put_drawing-end-in-Drawing : goal.slice_bounds-put_drawing-end-in-Drawing
slice_bounds-put_drawing-end-in-Drawing c = drawn_long c.in-Drawing.ensures c.size.ensures

pub put_drawing-requires : goal.put_drawing-requires
put_drawing-requires c =
    let sides = c.in-Drawing.board.fits.sides in (sides.wide, omega (arith, sides.few, drawn_long c.in-Drawing.ensures c.size.ensures, c.size.ensures))

pub returns-in-Line : goal.returns-in-Line
returns-in-Line c =
    let w = whole (search rules) (solution_fits c.args.record.now) (ends-line c.in-Line.ensures) in record { wrote = w.0; prefix_len = w.1 }

pub returns-in-Drawing : goal.returns-in-Drawing
returns-in-Drawing c =
    let w = whole (search rules) (solution_fits c.args.record.now) (ends-drawn c.in-Drawing.ensures c.size.ensures c.put_drawing.ensures) in
    record { wrote = w.0; prefix_len = w.1 }
