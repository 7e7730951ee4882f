-- `draw::sheet_text` meets its contract. Assumes nothing.
use borrow.Author.Rules.{rules}
use mathlib.Core.Path.{sym, ◌∙◌}
use Rattle.program_text.proofs.Limits.{whole}
use Rattle.program_solution.proofs.Printing.{drawn-inside, drawn_long}
use Rattle.draw.proofs.Ends.{ends-line, ends-drawn, sheet_fits}
use Rattle.draw.proofs.sheet_text.Goals as goal

pub slice_bounds-drawing-end : goal.slice_bounds-drawing-end
slice_bounds-drawing-end c = drawn-inside c.in-Drawing.ensures c.size.ensures

pub invariant_of-drawn : goal.invariant_of-drawn
invariant_of-drawn c = record { drawn = sym (drawn_long c.in-Drawing.ensures c.size.ensures) ∙ c.size.ensures }

pub returns-in-Line : goal.returns-in-Line
returns-in-Line c =
    let w = whole (search rules) (sheet_fits c.args.record.now) (ends-line c.in-Line.ensures) in record { wrote = w.0; prefix_len = w.1 }

pub returns-in-Drawing : goal.returns-in-Drawing
returns-in-Drawing c =
    let w = whole (search rules) (sheet_fits c.args.record.now) (ends-drawn c.in-Drawing.ensures c.size.ensures c.put_sheet.ensures) in
    record { wrote = w.0; prefix_len = w.1 }
