-- A run depends on its trail alone: halted anywhere and continued, it comes to what it would have come to. Assumes nothing.
use Prim.Native.Nat.{ℕ, zero, suc, ◌+◌}
use native.Mathlib.Nat.{zero-add, suc-add}
use lib.IntN.{ℤ}
use mathlib.Core.Path.{◌≡◌, refl, ◌∙◌, ap}
use mathlib.Core.List.{List}
use Rattle.search.specs.Trail.{Trail}
use Rattle.search.specs.Step.{Next, Moved, AnsweredFound, AnsweredNone, undoes, step}
use Rattle.search.specs.Run.{Ending, Found, None, Halted, Done, ends, one_more, after, run, following}

-- what a search comes to, n steps that were made before counted in
abbrev pub counted : ℕ → Done → Done
counted n d = ends d.ending (n + d.steps) d.trail

module _ (v : ℕ) (ls : List ℤ) (b : ℕ) where
  -- halted, it goes on with budget b from the trail at which it ended; else it has ended
  abbrev onward : Ending → ℕ → Trail → Done
  onward Halted n t = counted n (run v ls b t)
  onward Found n t = ends Found n t
  onward None n t = ends None n t

  abbrev pub carried_on : Done → Done
  carried_on d = onward d.ending d.steps d.trail

  pub halted_on : (d : Done) → d.ending ≡ Halted → carried_on d ≡ counted d.steps (run v ls b d.trail)
  halted_on d e = ap (λ (x : Ending). onward x d.steps d.trail) e

  pub ended_on : (d : Done) → (d.ending ≡ Halted → ⊥) → carried_on d ≡ d
  ended_on d n = by d.ending n
    where
      by : (x : Ending) → (x ≡ Halted → ⊥) → onward x d.steps d.trail ≡ ends x d.steps d.trail
      by Halted h = absurd (h refl)
      by Found h = refl
      by None h = refl

  one_more_lem : (x : Ending) (n : ℕ) (t : Trail) → one_more (onward x n t) ≡ onward x (suc n) t
  one_more_lem Halted n t = simp suc-add refl
  one_more_lem Found n t = refl
  one_more_lem None n t = refl

  -- a step, and a run after it
  after_adds : (a : ℕ) → ((u : Trail) → run v ls (a + b) u ≡ carried_on (run v ls a u)) → (x : Next) (t : Trail)
      → after x t (λ u. run v ls (a + b) u) ≡ carried_on (after x t (λ u. run v ls a u))
  after_adds a h (Moved u) t = ap one_more (h u) ∙ one_more_lem (run v ls a u).ending (run v ls a u).steps (run v ls a u).trail
  after_adds a h AnsweredFound t = refl
  after_adds a h AnsweredNone t = refl

  pub run_adds : (a : ℕ) (t : Trail) → run v ls (a + b) t ≡ carried_on (run v ls a t)
  unfolding run
  run_adds zero t = simp zero-add refl
  run_adds (suc a) t = simp suc-add (after_adds a (run_adds a) (step v ls t) t)

  -- `next` that has made its drop
  pub following_adds : (a : ℕ) (t : Trail) → following v ls (suc a + b) t ≡ carried_on (following v ls (suc a) t)
  unfolding following
  following_adds a t = simp suc-add (after_adds a (run_adds a) (undoes t) t)
