-- `search_input::first_wrong_entry` meets its contract. Assumes nothing.
use Rattle.answers.proofs.Bounds.{until_found, until_none}
use Rattle.search_input.proofs.Entries.{wrong_entries}
use Rattle.search_input.proofs.first_wrong_entry.Goals as goal

pub returns-then-first-used : goal.returns-then-first-used
returns-then-first-used c ns =
    until_found (wrong_entries c.args.v c.args.trail.now c.args.marks.now ns c.first_faulty-faulty.ensures c.first_again-first.ensures) c.if-first-used.true

pub returns : goal.returns
returns c ns =
    until_none (wrong_entries c.args.v c.args.trail.now c.args.marks.now ns c.first_faulty-faulty.ensures c.first_again-first.ensures) c.if-first-used.false
