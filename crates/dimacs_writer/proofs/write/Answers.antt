-- `dimacs_writer::write` meets its contract: the rows of the table are passed in its order, then the text is written. Assumes nothing.
use Prim.Native.Nat.{ℕ}
use native.Mathlib.Omega.{arith}
use lib.IntN.{ℤ}
use lib.ListN.{length}
use mathlib.Core.Path.{◌≡◌, sym, ◌∙◌}
use mathlib.Core.List.{List}
use Rattle.answers.proofs.Rows.{left_next}
use Rattle.dimacs.specs.Text.{text_of}
use Rattle.dimacs_writer.specs.Writer.{counted}
use Rattle.text.proofs.Decimals.{digits_few}
use Rattle.dimacs_writer.proofs.WriterRows.{Past, TextFits, past_variables, text_counted, room_right}
use Rattle.dimacs_writer.proofs.WriterRows.{all_written}
use Rattle.dimacs_writer.proofs.write.Goals as goal

pub overflow_add-header : goal.overflow_add-header
overflow_add-header c = omega (arith, digits_few 19 c.args.variables (omega arith))

pub overflow_add-header-2 : goal.overflow_add-header-2
overflow_add-header-2 c = omega (arith, digits_few 19 c.args.variables (omega arith), digits_few 19 c.clause_count-clauses.result (omega arith))

pub returns-clause-text_after : goal.returns-clause-text_after
returns-clause-text_after c =
    let v : ℕ = c.args.variables in
    let ls : List ℤ = c.args.list.now in
    let buf : List ℕ = c.args.text.now in
    let past : Past v ls buf 2 =
    left_next (past_variables v ls buf (sym c.if-too_many_variables.false ∙ c.too_many_variables.ensures))
    c.in_default.ensures in
    let sized : c.count_lines.result ≡ counted (length (text_of v ls)) =
    text_counted v ls c.clause_count-clauses.ensures c.width.ensures c.width-2.ensures c.count_lines.ensures in
    let fits : TextFits v ls buf = room_right v ls buf past sized c.in-Some-count_lines.is c.if-text-needed.false in
    (all_written fits c.clause_count-clauses.ensures past c.write_text.ensures).1
