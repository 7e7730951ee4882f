-- Lent buffers: what a call leaves in one, and row 6 of "Turned down".
use Rattle.std.specs.Prelude.{ℕ, ◌+◌, ◌-◌, ◌^◌, eqb, ltb, length, drop, ◌≡◌, cond, List, ◌++◌, Option, None}
use Rattle.std.proofs.lemmas.List.Edits.{sets}
use Rattle.answers.specs.declared.Outcome.{Outcome}
use Rattle.answers.specs.First.{found}

-- a number beside a refusal: 2^64 − 1 if more
abbrev pub capped : ℕ → ℕ
capped n = cond (ltb n (2 ^ 64)) n (2 ^ 64 - 1)

-- 6: output shorter than needed
abbrev pub too_short : ℕ → ℕ → Option ℕ
too_short room needed = found (ltb room needed) (capped needed) None

-- the elements are written from the first place on; those past them are untouched
abbrev pub filled : {A : Type 0} → List A → List A → List A
filled buf xs = xs ++ drop (length xs) buf

-- refused, a call leaves all as it was
abbrev pub unless_refused : {A : Type 0} → Outcome → A → A → A
unless_refused t before after = cond (eqb t.number 0) after before

-- the contract of what writes: the buffer before, the place, the elements, the buffer after, the place after them.
-- An element beyond the end is left out and counted all the same.
pub record Wrote {A : Type 0} (before : List A) (at : ℕ) (xs : List A) (after : List A) (next : ℕ) : Type 0 where
  pub place : next ≡ at + length xs
  pub holds : after ≡ sets before at xs
