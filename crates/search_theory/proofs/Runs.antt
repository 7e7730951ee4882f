-- What a search comes to, by recursion on its budget. Assumes nothing.
use Prim.Native.Nat.{ℕ, zero, suc, ◌≤◌, ◌<◌}
use native.Mathlib.Omega.{arith}
use lib.IntN.{ℤ}
use mathlib.Core.Path.{◌≡◌, refl, ap}
use mathlib.Core.Bool.{Bool, false}
use mathlib.Core.Logic.{◌↔◌}
use mathlib.Core.List.{List}
use Rattle.answers.specs.Lists.{All}
use Rattle.cnf.specs.Literals.{unclosed}
use Rattle.cnf.specs.Clauses.{split, Satisfies}
use Rattle.search.specs.Trail.{Trail, Open, values_of, variable_value}
use Rattle.search.specs.Step.{Next, step}
use Rattle.search.specs.Run.{Ending, Found, None, Halted, Done, ends, after, run}
use Rattle.search_theory.specs.Legal.{Proper, Legal}
use Rattle.search_theory.proofs.Legal.{AllAssigned}
use Rattle.search_theory.proofs.Choices.{choice_laws}
use Rattle.search_theory.proofs.Measure.{number, number_more}
use Rattle.search_theory.proofs.Steps.{StepKeeps, moved, exhausted, full, step_keeps}

-- what an answer means: x of a search begun at t that ends at u, after n steps of a budget b
abbrev pub Means : ℕ → List ℤ → Trail → ℕ → Ending → ℕ → Trail → Type 0
Means v ls t b Found n u = AllAssigned v (variable_value u) × Satisfies (values_of v u) ls
Means v ls t b None n u = (a : List Bool) → Satisfies a ls → Open a t → ⊥
Means v ls t b Halted n u = (n ≡ b) × (n < number v t)

pub record Ended (v : ℕ) (ls : List ℤ) (t : Trail) (b : ℕ) (d : Done) : Type 0 where
  pub legal : Legal v d.trail
  pub same : (a : List Bool) → Satisfies a ls → Open a t ↔ Open a d.trail
  pub within : d.steps ≤ b
  pub few : d.steps ≤ number v t
  pub falls : number v d.trail ≤ number v t
  pub means : Means v ls t b d.ending d.steps d.trail

module _ {v : ℕ} {ls : List ℤ} (closed : unclosed ls ≡ false) (proper : All (All (Proper v)) (split ls)) where
  -- a search that ends where it begins, with its first step at the latest
  stays : {t : Trail} {b : ℕ} → Legal v t → (x : Ending) (n : ℕ) → n ≤ b → n ≤ 1 → Means v ls t b x n t → Ended v ls t b (ends x n t)
  stays {t} l x n h k m =
      let p = number_more v t in
      record { legal = l; same = λ a s. (λ o. o, λ o. o); within = h; few = omega arith; falls = omega arith; means = m }

  -- a step, and what a search with the rest of the budget comes to
  one_step : {t : Trail} {b : ℕ} → Legal v t → (x : Next) → StepKeeps v ls t x → ((u : Trail) → Legal v u → Ended v ls u b (run v ls b u))
      → Ended v ls t (suc b) (after x t (λ u. run v ls b u))
  one_step {t} {b} l x (moved {u = u} m f o) go =
      let e = go u m in
      let w = e.within in
      let n = e.few in
      let d = e.falls in
      record {
        legal = e.legal;
        same = λ a s. (λ k. (e.same a s).0 ((o a s).0 k), λ k. (o a s).1 ((e.same a s).1 k));
        within = omega arith;
        few = omega arith;
        falls = omega arith;
        means = later (run v ls b u).ending (run v ls b u).steps (run v ls b u).trail e.means;
      }
    where
      later : (x : Ending) (n : ℕ) (w : Trail) → Means v ls u b x n w → Means v ls t (suc b) x (suc n) w
      later Found n w h = h
      later None n w h = λ a s k. h a s ((o a s).0 k)
      later Halted n w h = (ap suc h.0, let k = h.1 in omega arith)
  one_step l x (exhausted h) go = stays l None 1 (omega arith) (omega arith) h
  one_step l x (full h s) go = stays l Found 1 (omega arith) (omega arith) (h, s)

  pub ended : (t : Trail) (b : ℕ) → Legal v t → Ended v ls t b (run v ls b t)
  unfolding run
  ended t zero l = let p = number_more v t in stays l Halted 0 (omega arith) (omega arith) (refl, omega arith)
  ended t (suc b) l = one_step l (step v ls t) (step_keeps t (choice_laws v ls (variable_value t) closed) proper l) (λ u. ended u b)
