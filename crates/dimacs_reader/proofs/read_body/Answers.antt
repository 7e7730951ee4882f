-- `dimacs_reader::read_body` meets its contract. Assumes nothing.
use native.Mathlib.Omega.{arith}
use Rattle.answers.proofs.Results.{handed_on}
use Rattle.dimacs_reader.proofs.ReaderRows.{head_fits, body_refused, body_short, body_read}
use Rattle.dimacs_reader.proofs.read_body.Goals as goal

pub read_list-requires : goal.read_list-requires
read_list-requires c = head_fits c.args.text.now c.args.list.now c.requires

pub read_list-requires-2 : goal.read_list-requires-2
read_list-requires-2 c = head_fits c.args.text.now c.args.list.now c.requires

pub returns-in_err-elements : goal.returns-in_err-elements
returns-in_err-elements c =
    rw (handed_on _ c.from_residual.ensures.1) (body_refused c.args.text.now c.args.list.now c.requires c.in_err-elements.ensures.value)

pub returns-then-list-elements : goal.returns-then-list-elements
returns-then-list-elements c =
    body_short c.args.text.now c.args.list.now c.requires c.in_ok-elements.ensures.value (omega arith) c.if-list-elements.true

pub returns : goal.returns
returns c =
    body_read c.args.text.now c.args.list.now c.requires c.in_ok-elements.ensures.value c.if-list-elements.false c.read_list-2.ensures.out_after
