-- `encoder_size::all_clauses` meets its contract. Assumes nothing.
use native.Mathlib.Omega.{arith}
use mathlib.Core.Path.{ap}
use Rattle.encoder_numbers.specs.declared.Sizes.{Sizes}
use Rattle.encoder_numbers.proofs.Neighbours.{few}
use Rattle.encoder_size.proofs.All.{adding_start, adding_few, adding_on, adding_end}
use Rattle.encoder_size.proofs.all_clauses.Goals as goal

pub overflow_add-elements : goal.overflow_add-elements
overflow_add-elements c = let f = few c.args.numbering.now.tables in omega arith

pub loop-x-init : goal.loop-x-init
loop-x-init c = adding_start (ap (λ (z : Sizes). z.opens) c.args.numbering.now.tables.sized)

pub overflow_add-clauses : goal.overflow_add-clauses
overflow_add-clauses c =
    omega (arith, adding_few c.loop-x.invariant, c.at_cell-more.ensures.few, c.args.numbering.now.board.fits.sides.few)

pub overflow_add-elements-in-loop-x : goal.overflow_add-elements-in-loop-x
overflow_add-elements-in-loop-x c =
    let f = few c.args.numbering.now.tables in
    let e = ap (λ (z : Sizes). z.opens) c.args.numbering.now.tables.sized in
    omega (arith, adding_few c.loop-x.invariant, c.at_cell-more.ensures.short, c.args.numbering.now.board.fits.sides.few)

pub loop-x-preserved : goal.loop-x-preserved
loop-x-preserved c = adding_on c.loop-x.invariant c.at_cell-more.ensures

pub returns : goal.returns
returns c = adding_end c.loop-x.invariant c.args.numbering.now.board.fits (omega arith)
