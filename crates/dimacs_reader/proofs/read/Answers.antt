-- `dimacs_reader::read` meets its contract. Assumes nothing.
use Rattle.answers.proofs.Results.{handed_on}
use Rattle.dimacs_reader.proofs.ReaderRows.{head_refused}
use Rattle.dimacs_reader.proofs.read.Goals as goal

pub returns-in_err-header : goal.returns-in_err-header
returns-in_err-header c = rw (handed_on _ c.from_residual.ensures.1) (head_refused c.args.text.now c.args.list.now c.in_err-header.ensures)
