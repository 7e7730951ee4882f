-- `search_input::first_again` meets its contract: below `low` no variable comes again before `first`. Assumes nothing.
use native.Mathlib.Omega.{arith}
use mathlib.Core.Path.{◌≡◌}
use Rattle.search_input.specs.Entries.{used_before}
use Rattle.search_input.proofs.first_again.Goals as goal

pub returns-then-n-lt2 : goal.returns-then-n-lt2
unfolding used_before
returns-then-n-lt2 c =
    let b = c.if-n-lt2.true in
    record { within = omega arith; none_yet = λ k l. let z : k ≡ 0 = omega arith in rw z; stops = λ l. absurd (omega arith) }
