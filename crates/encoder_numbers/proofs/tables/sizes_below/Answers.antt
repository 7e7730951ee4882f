-- `encoder_numbers::tables::sizes_below` meets its contract. Assumes nothing.
use native.Mathlib.Omega.{arith}
use Prim.Native.Nat.{◌+◌, ◌*◌}
use mathlib.Core.Path.{◌≡◌, ◌∙◌, ap}
use lib.ListN.{get_or}
use Rattle.encoder_numbers.proofs.tables.sizes_below.Goals as goal

pub returns : goal.returns
returns c =
    let row = c.args.numbering.now.tables.rows c.args.x in
    let e : 3 * c.args.x ≡ 3 * c.args.x + 0 = omega arith in
    (λ i. record {
      opens = (ap (λ k. get_or c.args.numbering.now.table.now k 0) e ∙ row 0 c.requires (omega arith)) i;
      links = row 1 c.requires (omega arith) i;
      counts = row 2 c.requires (omega arith) i;
    })
