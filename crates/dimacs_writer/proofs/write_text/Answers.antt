-- `dimacs_writer::write_text` meets its contract: the header is put, and then the lines. Assumes nothing.
use Rattle.std.proofs.Common.{rules}
use Rattle.answers.proofs.Putting.{puts_after}
use Rattle.dimacs_writer.proofs.write_text.Goals as goal

pub returns : goal.returns
returns c = let both = puts_after c.put_header.ensures c.put_lines.ensures in (search rules)
