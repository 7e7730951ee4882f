-- What a run hands out.
use Rattle.std.specs.Prelude.{ℕ, zero, suc, ℤ, length, List}
use Rattle.search.specs.Trail.{Trail, Slices}
use Rattle.search.specs.Step.{Next, Moved, AnsweredFound, AnsweredNone, step}
use Rattle.search.specs.Run.{run, done_outcome}
use Rattle.search.specs.Call.{Handed}
use Rattle.search_trail.specs.Packed.{running_trail}
use Rattle.search_step.specs.Steps.{leaves}

-- a run goes on from the trail that a step moved to; an answer ends it
abbrev pub unless_answered : Next → Slices → (Trail → Slices) → Slices
unless_answered (Moved u) left go = go u
unless_answered AnsweredFound left go = left
unless_answered AnsweredNone left go = left

-- it leaves in the buffers what its steps leave, one after the other
unfoldable pub run_leaves : ℕ → List ℤ → ℕ → Trail → Slices → Slices
run_leaves v ls zero t s = s
run_leaves v ls (suc budget) t s =
    let left : Slices = leaves (step v ls t) s in
    unless_answered (step v ls t) left (λ u. run_leaves v ls budget u left)

-- what it hands out from the trail in the buffers
abbrev pub hands_run : List ℤ → ℕ → Slices → ℕ → Handed
hands_run ls budget s used =
    let v : ℕ = length s.marks in
    let t : Trail = running_trail s used in
    record { outcome = done_outcome (run v ls budget t); slices = run_leaves v ls budget t s }
