-- `search_input::first_met` meets its contract: the loop keeps `Meeting`. Assumes nothing.
use mathlib.Core.Path.{sym, ◌∙◌}
use Rattle.search_input.proofs.Flags.{meeting_start, meeting_found, meeting_on}
use Rattle.search_input.proofs.first_met.Goals as goal

pub loop-i-init : goal.loop-i-init
loop-i-init c = meeting_start c.requires.no_flag

pub loop-i-preserved : goal.loop-i-preserved
loop-i-preserved c =
    meeting_on c.loop-i.invariant c.code_at.ensures c.loop-i-test.true (sym c.meet.ensures.value ∙ c.if-meet.false)
    c.meet.ensures.flags_after

pub returns-then-meet-clause-flags_after : goal.returns-then-meet-clause-flags_after
returns-then-meet-clause-flags_after c =
    (meeting_found c.loop-i.invariant c.code_at.ensures c.loop-i-test.true (sym c.meet.ensures.value ∙ c.if-meet.true)
    c.meet.ensures.flags_after).1
