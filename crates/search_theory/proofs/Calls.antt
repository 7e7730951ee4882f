-- What either call comes to: the search, and `next`, which drops the assignment of a full trail first. Assumes nothing.
use Prim.Native.Nat.{ℕ, zero, suc, ◌≤◌, ◌<◌}
use native.Mathlib.Omega.{arith}
use lib.IntN.{ℤ}
use mathlib.Core.Path.{◌≡◌, refl, ap}
use mathlib.Core.Bool.{Bool, false}
use mathlib.Core.Logic.{◌↔◌, inr}
use Rattle.std.specs.Prelude.{Option, None as none, Some as some}
use mathlib.Core.List.{List}
use Rattle.answers.specs.Lists.{All}
use Rattle.cnf.specs.Literals.{unclosed}
use Rattle.cnf.specs.Clauses.{split, Satisfies}
use Rattle.search.specs.Trail.{Trail, variable_value, Turned, Open, values_of}
use Rattle.search.specs.Step.{undo, undone}
use Rattle.search.specs.Run.{Ending, Found, None, Halted, Done, ends, one_more, after, run, following}
use Rattle.search.specs.Call.{Call, Searching, Following, comes_to}
use Rattle.search_theory.specs.Budgets.{goes_on}
use Rattle.search_theory.specs.Legal.{Proper, Legal}
use Rattle.search_theory.specs.Reasons.{AllExplained}
use Rattle.search_theory.proofs.Legal.{AllAssigned}
use Rattle.search_theory.proofs.Measure.{choice_sum, number, number_more}
use Rattle.search_theory.proofs.Undo.{Undone, undo_some, undo_none}
use Rattle.search_theory.proofs.Runs.{Means, Ended, ended}
use Rattle.search_theory.proofs.Reasons.{explained_undo, explained_run}
use Rattle.search_theory.proofs.Orders.{Chosen, chosen_undo, chosen_run}

-- the assignments that a call at t has still to find: those open, without the one that `next` drops
abbrev pub Left : Call → List Bool → Trail → Type 0
Left Searching a t = Open a t
Left Following a t = Turned a t

-- a number that falls from "found" to "found"
abbrev pub room : ℕ → Call → Trail → ℕ
room v Searching t = number v t
room v Following t = choice_sum v t

-- what an answer means: x of a call begun at t that ends at u, after n steps of a budget b
abbrev pub Meaning : ℕ → List ℤ → Call → Trail → ℕ → Ending → ℕ → Trail → Type 0
Meaning v ls c t b Found n u =
    AllAssigned v (variable_value u) × Satisfies (values_of v u) ls × (number v u ≤ room v c t) × ((a : List Bool) → Satisfies a ls → Open a u → Left c a t)
Meaning v ls c t b None n u = (a : List Bool) → Satisfies a ls → Left c a t → ⊥
Meaning v ls c t b Halted n u = (n ≡ b) × (n < number v t) × ((a : List Bool) → Satisfies a ls → Left c a t ↔ Left (goes_on c n) a u)

pub record Came (v : ℕ) (ls : List ℤ) (c : Call) (t : Trail) (b : ℕ) (d : Done) : Type 0 where
  pub legal : Legal v d.trail
  pub chosen : Chosen t → Chosen d.trail
  pub explained : AllExplained ls t → AllExplained ls d.trail
  pub opens : (a : List Bool) → Satisfies a ls → Left c a t → Open a d.trail
  pub was_open : (a : List Bool) → Satisfies a ls → Open a d.trail → Open a t
  pub within : d.steps ≤ b
  pub few : d.steps ≤ number v t
  pub says : Meaning v ls c t b d.ending d.steps d.trail

module _ {v : ℕ} {ls : List ℤ} (closed : unclosed ls ≡ false) (proper : All (All (Proper v)) (split ls)) where
  search_came : (t : Trail) (b : ℕ) → Legal v t → Came v ls Searching t b (run v ls b t)
  search_came t b l =
      record {
        legal = e.legal;
        chosen = chosen_run v ls closed b t;
        explained = explained_run v ls closed b t;
        opens = λ a s. (e.same a s).0;
        was_open = λ a s. (e.same a s).1;
        within = e.within;
        few = e.few;
        says = by (run v ls b t).ending (run v ls b t).steps e.means;
      }
    where
      e : Ended v ls t b (run v ls b t)
      e = ended closed proper t b l

      by : (x : Ending) (n : ℕ) → Means v ls t b x n (run v ls b t).trail → Meaning v ls Searching t b x n (run v ls b t).trail
      by Found n h = (h.0, h.1, e.falls, λ a s. (e.same a s).1)
      by None n h = h
      by Halted n h = (h.0, h.1, e.same)

  -- `next` ends where it begins, with the drop at the latest
  stays : {t : Trail} {b : ℕ} → Legal v t → (x : Ending) (n : ℕ) → n ≤ b → n ≤ 1 → Meaning v ls Following t b x n t → Came v ls Following t b (ends x n t)
  stays {t} l x n h k says =
      let p = number_more v t in
      record { legal = l; chosen = λ c. c; explained = λ x. x; opens = λ a s. inr; was_open = λ a s o. o; within = h; few = omega arith; says = says }

  next_came : (t : Trail) (b : ℕ) → Legal v t → Came v ls Following t b (following v ls b t)
  unfolding following
  next_came t zero l = let p = number_more v t in stays l Halted 0 (omega arith) (omega arith) (refl, omega arith, λ a s. (λ o. o, λ o. o))
  next_came t (suc b) l = by (undo t) refl
    where
      go_on : (u : Trail) → undo t ≡ some u → Undone v t u → Came v ls Following t (suc b) (one_more (run v ls b u))
      go_on u e r =
          let d = search_came u b r.legal in
          let w = d.within in
          let f = d.few in
          let m = r.falls in
          let p = number_more v t in
          record {
            legal = d.legal;
            chosen = λ c. d.chosen (chosen_undo t u e c);
            explained = λ x. d.explained (explained_undo ls t u e x);
            opens = λ a s o. d.opens a s (r.opens a o);
            was_open = λ a s o. inr (r.was_open a (d.was_open a s o));
            within = omega arith;
            few = omega arith;
            says = later (run v ls b u).ending (run v ls b u).steps d.says;
          }
        where
          later : (x : Ending) (n : ℕ) → Meaning v ls Searching u b x n (run v ls b u).trail → Meaning v ls Following t (suc b) x (suc n) (run v ls b u).trail
          later Found n h = let f = h.2 in let m = r.falls in (h.0, h.1, omega arith, λ a s o. r.was_open a (h.3 a s o))
          later None n h = λ a s o. h a s (r.opens a o)
          later Halted n h =
              let k = h.1 in
              let m = r.falls in
              let p = number_more v t in
              (ap suc h.0, omega arith, λ a s. (λ o. (h.2 a s).0 (r.opens a o), λ o. r.was_open a ((h.2 a s).1 o)))

      by : (o : Option Trail) → undo t ≡ o → Came v ls Following t (suc b) (after (undone o) t (λ u. run v ls b u))
      by none e = stays l None 1 (omega arith) (omega arith) (λ a s. undo_none a t e)
      by (some u) e = go_on u e (undo_some v t u l e)

  pub came : (c : Call) (t : Trail) (b : ℕ) → Legal v t → Came v ls c t b (comes_to c v ls b t)
  came Searching = search_came
  came Following = next_came
