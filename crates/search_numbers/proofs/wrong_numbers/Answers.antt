-- `search_numbers::wrong_numbers` meets its contract. Assumes nothing.
use Rattle.search.specs.Trail.{Slices, slices}
use Rattle.search_numbers.proofs.Windows.{numbers_none, numbers_wrong, numbers_right}
use Rattle.search_numbers.proofs.wrong_numbers.Goals as goal

pub returns-then-first_numbered-used : goal.returns-then-first_numbered-used
returns-then-first_numbered-used c =
    let lent : Slices = slices c.args.trail.now c.args.marks.now c.args.numbers.now in
    numbers_none c.args.v c.args.list.now lent c.args.used c.if-numbers-v.false c.first_numbered.ensures
    c.if-first_numbered-used.true

pub returns-then-first-used : goal.returns-then-first-used
returns-then-first-used c =
    let lent : Slices = slices c.args.trail.now c.args.marks.now c.args.numbers.now in
    numbers_wrong c.args.v c.args.list.now lent c.args.used c.if-numbers-v.false c.first_wrong_number-first.ensures
    c.if-first-used.true

pub returns : goal.returns
returns c =
    let lent : Slices = slices c.args.trail.now c.args.marks.now c.args.numbers.now in
    numbers_right c.args.v c.args.list.now lent c.args.used c.if-numbers-v.false c.first_wrong_number-first.ensures
    c.if-first-used.false
