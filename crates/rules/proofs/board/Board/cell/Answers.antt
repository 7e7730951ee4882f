-- `rules::board::Board::cell` meets its contract. Assumes nothing.
use mathlib.Core.Path.{sym, ◌∙◌, ap}
use Rattle.rules.specs.Record.{cell_of, read_cell}
use Rattle.rules.proofs.Records.{cell-at}
use Rattle.rules.proofs.board.Board.cell.Goals as goal

pub returns : goal.returns
returns c =
    sym (ap cell_of c.unwrap.ensures) ∙ ap cell_of c.read_cell.ensures
    ∙ (λ i. cell_of (read_cell (c.layout.ensures i) (c.code.ensures i)))
    ∙ cell-at c.args.self.now.grid c.args.self.now.record.now c.args.x c.requires
