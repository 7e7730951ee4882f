-- `rules::record::wrong_cell` meets its contract: a loop that seeks the first cell. Assumes nothing.
use native.Mathlib.Omega.{arith}
use mathlib.Core.Path.{refl, sym, ◌∙◌, ap}
use mathlib.Core.Bool.{not}
use Rattle.std.specs.Prelude.{is_none}
use Rattle.answers.proofs.First.{seek_found, seek_on, seek_none}
use Rattle.rules.specs.Record.{layout_of, read_cell}
use Rattle.rules.proofs.record.wrong_cell.Goals as goal

pub returns-then-is_none : goal.returns-then-is_none
returns-then-is_none c =
    let read = c.read_cell.ensures ∙ ap (λ l. read_cell l c.code.result) c.layout-layout.ensures ∙ ap (read_cell (layout_of c.args.g.kind)) c.code.ensures in
    seek_found c.loop-x.invariant (omega arith) (ap is_none (sym read) ∙ ap not c.if-is_none.ensures) refl

pub loop-x-preserved : goal.loop-x-preserved
loop-x-preserved c =
    let read = c.read_cell.ensures ∙ ap (λ l. read_cell l c.code.result) c.layout-layout.ensures ∙ ap (read_cell (layout_of c.args.g.kind)) c.code.ensures in
    seek_on c.loop-x.invariant (omega arith) (ap is_none (sym read) ∙ ap not c.if-is_none.ensures)

pub returns : goal.returns
returns c = seek_none c.loop-x.invariant (omega arith) refl
