-- The search under a budget: the steps from a trail, and the answer that they come to;
-- and the same on from a full trail, for the call `next`.
use Rattle.std.specs.Prelude.{ℕ, zero, suc, ℤ, length, List}
use Rattle.answers.specs.declared.Outcome.{Outcome}
use Rattle.answers.specs.Outcome.{answer}
use Rattle.search.specs.Trail.{Trail}
use Rattle.search.specs.Step.{Next, Moved, AnsweredFound, AnsweredNone, undoes, step}

-- the answers of a search
pub data Ending : Type 0 where
  Found : Ending
  None : Ending
  Halted : Ending

-- what a search comes to: its answer, the steps made, the trail at the end
pub record Done : Type 0 where
  pub ending : Ending
  pub steps : ℕ
  pub trail : Trail

abbrev pub ends : Ending → ℕ → Trail → Done
ends x n t = record { ending = x; steps = n; trail = t }

abbrev pub one_more : Done → Done
one_more d = ends d.ending (suc d.steps) d.trail

-- answering is a step too and changes no used entry
abbrev pub after : Next → Trail → (Trail → Done) → Done
after (Moved u) t go = one_more (go u)
after AnsweredFound t go = ends Found 1 t
after AnsweredNone t go = ends None 1 t

-- after budget steps without an answer it is "halted"
unfoldable pub run : ℕ → List ℤ → ℕ → Trail → Done
run v ls zero t = ends Halted 0 t
run v ls (suc budget) t = after (step v ls t) t (λ u. run v ls budget u)

-- document 02, E1, "Go on to the following solution": the assignment of a full trail is dropped as a failed clause would, and the search goes on;
-- dropping is a step, and with budget 0 it is halted with nothing dropped
unfoldable pub following : ℕ → List ℤ → ℕ → Trail → Done
following v ls zero t = ends Halted 0 t
following v ls (suc budget) t = after (undoes t) t (λ u. run v ls budget u)

abbrev pub ending_number : Ending → ℕ
ending_number Found = 1
ending_number None = 2
ending_number Halted = 3

-- found 1, none 2, halted 3; the steps that this call made; the used count
abbrev pub done_outcome : Done → Outcome
done_outcome d = answer (ending_number d.ending) d.steps (length d.trail)
