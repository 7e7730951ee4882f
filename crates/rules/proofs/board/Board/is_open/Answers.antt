-- `rules::board::Board::is_open` meets its contract. Assumes nothing.
use Prim.Native.Nat.{◌+◌, ◌-◌, ◌*◌}
use lib.Dec.{eqb}
use lib.ListN.{get_or}
use mathlib.Core.Path.{◌≡◌, ◌∙◌, ap}
use Rattle.rules.specs.Record.{layout_of, cell_bytes}
use Rattle.rules.specs.Board.{open_cell}
use Rattle.rules.proofs.Records.{open_sum, cell-at}
use Rattle.rules.proofs.board.Board.is_open.Goals as goal

pub returns : goal.returns
returns c =
    let bytes_of : c.cell_bytes-bytes.result ≡ cell_bytes (layout_of c.args.self.now.grid.kind) = c.cell_bytes-bytes.ensures ∙ ap cell_bytes c.layout.ensures in
    let s = c.args.self.now.record.now in
    let x = c.args.x in
    ap (λ b. eqb (get_or s (6 + b * x) 0 + get_or s (6 + b * x + b - 1) 0) 0) bytes_of
    ∙ open_sum (layout_of c.args.self.now.grid.kind) s x (c.args.self.now.fits.allowed x c.requires) ∙ ap open_cell (cell-at c.args.self.now.grid s x c.requires)
