-- `dimacs_reader::read_list` meets its contract: the loop keeps `AtList`. Assumes nothing.
use native.Mathlib.Omega.{arith}
use Rattle.std.proofs.lemmas.Result.{err_from_is_err_and}
use Rattle.dimacs_reader.proofs.ListLoop.{list_over, list_more, list_on, list_unfinished, list_end, piece_read, piece_refused, element_read, element_refused}
use Rattle.dimacs_reader.proofs.read_list.Goals as goal

pub returns-in_err-here : goal.returns-in_err-here
returns-in_err-here c =
    let p = err_from_is_err_and c.from_residual.result c.from_residual.ensures.1 in
    rw (p.1, p.2) (piece_refused c.loop-here.invariant (omega arith) c.if-not-may_be_number.ensures c.in_err-here.ensures)

pub loop-here-smaller-then-not-may_be_number : goal.loop-here-smaller-then-not-may_be_number
loop-here-smaller-then-not-may_be_number c =
    let read = piece_read c.loop-here.invariant (omega arith) c.if-not-may_be_number.ensures c.in_ok-here.ensures in omega (arith, read.low)

pub loop-here-preserved-then-not-may_be_number : goal.loop-here-preserved-then-not-may_be_number
loop-here-preserved-then-not-may_be_number c =
    list_on c.loop-here.invariant (piece_read c.loop-here.invariant (omega arith) c.if-not-may_be_number.ensures c.in_ok-here.ensures)

pub returns-then-closed-clauses : goal.returns-then-closed-clauses
returns-then-closed-clauses c =
    list_over c.loop-here.invariant (omega arith) c.if-not-may_be_number.ensures c.if-closed-clauses.true

pub returns-in_err-element : goal.returns-in_err-element
returns-in_err-element c =
    let p = err_from_is_err_and c.from_residual-in_err-element.result c.from_residual-in_err-element.ensures.1 in
    rw (p.1, p.2) (element_refused c.loop-here.invariant (omega arith) c.if-not-may_be_number.ensures c.if-closed-clauses.false c.in_err-element.ensures)

pub put_literal-elements-requires : goal.put_literal-elements-requires
put_literal-elements-requires c =
    let read = element_read c.loop-here.invariant (omega arith) c.if-not-may_be_number.ensures c.if-closed-clauses.false c.in_ok-element.ensures in
    let few = c.loop-here.invariant.few in
    (omega (arith, read.small), omega arith)

pub loop-here-smaller : goal.loop-here-smaller
loop-here-smaller c =
    let read = element_read c.loop-here.invariant (omega arith) c.if-not-may_be_number.ensures c.if-closed-clauses.false c.in_ok-element.ensures in
    omega (arith, read.low)

pub loop-here-preserved : goal.loop-here-preserved
loop-here-preserved c =
    let read = element_read c.loop-here.invariant (omega arith) c.if-not-may_be_number.ensures c.if-closed-clauses.false c.in_ok-element.ensures in
    list_more c.loop-here.invariant read c.if-closed-clauses.false c.put_literal-elements.ensures c.closed_after-closed.ensures

pub returns-then-begun : goal.returns-then-begun
returns-then-begun c = list_unfinished c.loop-here.invariant (omega arith) c.then-begun.either

pub returns : goal.returns
returns c = list_end c.loop-here.invariant (omega arith) c.if-begun.false (omega arith)
