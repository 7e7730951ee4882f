-- Document 02, E2, "Budgets that add up": a call that is halted, and those that go on from what it leaves.
use Rattle.std.specs.Prelude.{ℕ, zero, suc, ◌+◌, eqb, Bool, ◌&&◌, cond, List, [], ◌∷◌}
use Rattle.answers.specs.declared.Outcome.{Outcome}
use Rattle.answers.specs.Outcome.{answer}
use Rattle.search.specs.Run.{Halted, ending_number}
use Rattle.search.specs.Call.{Search, Handed, Call, Searching, Following, hands, steps, resumed}

-- what goes on after a halted call that made n steps: the search; but where `next` made none, nothing was dropped, and `next` is called again
abbrev pub goes_on : Call → ℕ → Call
goes_on Searching n = Searching
goes_on Following zero = Following
goes_on Following (suc n) = Searching

-- the steps of an earlier call are counted in
abbrev pub in_all : Handed → Handed → Handed
in_all h on = record { outcome = answer on.outcome.first (steps h + steps on) on.outcome.third; slices = on.slices }

-- not refused, and "halted"
abbrev pub is_halted : Outcome → Bool
is_halted t = eqb t.number 0 && eqb t.first (ending_number Halted)

-- the budgets of several parts together
abbrev pub total : ℕ → List ℕ → ℕ
total a [] = a
total a (b ∷ bs) = a + total b bs

-- a call in parts: as long as it is halted, it goes on with the next budget, on the slices as they were left and with the used count that was told
abbrev pub in_parts : Call → Search → ℕ → List ℕ → Handed
in_parts x s a [] = hands x s a
in_parts x s a (b ∷ bs) =
    let h : Handed = hands x s a in
    cond (is_halted h.outcome) (in_all h (in_parts (goes_on x (steps h)) (resumed s h) b bs)) h
