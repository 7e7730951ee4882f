-- Turns of the loop under a budget. Assumes nothing.
use Prim.Native.Nat.{ℕ, zero, suc, ◌+◌, ◌-◌, ◌<◌}
use native.Mathlib.Omega.{arith}
use lib.IntN.{ℤ}
use lib.ListN.{length}
use mathlib.Core.Path.{◌≡◌, refl, sym, ◌∙◌, ap, subst}
use mathlib.Core.List.{List}
use Rattle.answers.specs.Outcome.{answer}
use Rattle.search.specs.Trail.{Trail, Slices}
use Rattle.search.specs.Step.{Next, Moved, AnsweredFound, AnsweredNone, step}
use Rattle.search.specs.Run.{Done, ends, after, ending_number, done_outcome, run}
use Rattle.search.proofs.BudgetSums.{counted}
use Rattle.search_theory.specs.Legal.{Legal}
use Rattle.search_trail.specs.Packed.{running_trail, Running, with_trail}
use Rattle.search_trail.proofs.WithTrail.{HasTrail, running_legal, length_running, running_has_trail, holds}
use Rattle.search_step.specs.declared.Stepped.{Stepped}
use Rattle.search_step.specs.declared.Stepped.TheVariants.{MovedTo, Found as SaysFound, None as SaysNone}
use Rattle.search_step.specs.Steps.{ListFits, StepHanded, answer_of, leaves, hands_next}
use Rattle.search_step.proofs.Chosen.{step_legal}
use Rattle.search_call.specs.declared.Ending.{Ending as Answer}
use Rattle.search_call.specs.declared.Ending.TheVariants.{Found as FoundAt, None as NoneAt, Halted as HaltedAt}
use Rattle.search_call.specs.declared.End.{End}
use Rattle.search_call.specs.Answers.{ending_of, end_outcome}
use Rattle.search_call.specs.Runs.{unless_answered, run_leaves, hands_run}

abbrev end_at : Answer → ℕ → ℕ → End
end_at x n used = record { ending = x; steps = n; used = used }

-- what was next, by what a step answered
moved_next : {u : ℕ} (x : Next) → MovedTo u ≡ answer_of x → (w : Trail) × (x ≡ Moved w) × (u ≡ length w)
moved_next (Moved w) e = (w, refl, cc)
moved_next AnsweredFound e = let z : ◌≡◌ {A = ℕ} 0 1 = cc in absurd (omega arith)
moved_next AnsweredNone e = let z : ◌≡◌ {A = ℕ} 0 1 = cc in absurd (omega arith)

found-next : (x : Next) → SaysFound ≡ answer_of x → x ≡ AnsweredFound
found-next (Moved w) e = let z : ◌≡◌ {A = ℕ} 0 1 = cc in absurd (omega arith)
found-next AnsweredFound e = refl
found-next AnsweredNone e = let z : ◌≡◌ {A = ℕ} 0 1 = cc in absurd (omega arith)

none_next : (x : Next) → SaysNone ≡ answer_of x → x ≡ AnsweredNone
none_next (Moved w) e = let z : ◌≡◌ {A = ℕ} 0 1 = cc in absurd (omega arith)
none_next AnsweredFound e = let z : ◌≡◌ {A = ℕ} 0 1 = cc in absurd (omega arith)
none_next AnsweredNone e = refl

-- the trail that a step moved to stands in what it leaves
pub has_trail_moved : {v : ℕ} {ls : List ℤ} {t u : Trail} {s : Slices} → ListFits v ls → HasTrail v t s → step v ls t ≡ Moved u → HasTrail v u (with_trail u s)
has_trail_moved {v} {t = t} {u} {s} fits h q =
    let k = h.running.packed in
    let legal = subst (Legal v) h.trail (running_legal v s (length t) k.legal) in
    holds k.few {s = s} (record { trail = k.literals; marks = k.bytes; numbers = h.running.numbers }) u (step_legal t fits legal q)

-- n steps are made, and the rest of the budget leads to where the whole leads
pub record Going (ls : List ℤ) (budget : ℕ) (s₀ : Slices) (first : ℕ) (s : Slices) (used n : ℕ) : Type 0 where
  pub listed : ListFits (length s₀.marks) ls
  pub running : Running (length s₀.marks) s used
  pub rest : counted n (run (length s₀.marks) ls (budget - n) (running_trail s used)) ≡ run (length s₀.marks) ls budget (running_trail s₀ first)
  pub left : run_leaves (length s₀.marks) ls (budget - n) (running_trail s used) s ≡ run_leaves (length s₀.marks) ls budget (running_trail s₀ first) s₀

module _ {ls : List ℤ} {budget : ℕ} {s₀ : Slices} {first : ℕ} {s : Slices} {used n : ℕ} (g : Going ls budget s₀ first s used n) where
  abbrev v : ℕ
  v = length s₀.marks

  abbrev t : Trail
  t = running_trail s used

  abbrev whole : Done
  whole = run (length s₀.marks) ls budget (running_trail s₀ first)

  abbrev whole_left : Slices
  whole_left = run_leaves (length s₀.marks) ls budget (running_trail s₀ first) s₀

  long : length s.marks ≡ v
  long = g.running.packed.bytes

  -- an answer at the trail as it is, with `after` left
  answers : {after : Slices} {m : ℕ} (x : Answer) → ends (ending_of x) m t ≡ whole → after ≡ whole_left
      → record { outcome = end_outcome (end_at x m used); slices = after } ≡ hands_run ls budget s₀ first
  answers {m = m} x e l =
      let outcome = ap (answer (ending_number (ending_of x)) m) (sym (length_running s used)) ∙ ap done_outcome e in
      (λ j. record { outcome = outcome j; slices = l j })

  pub go_over : n ≡ budget → record { outcome = end_outcome (end_at HaltedAt budget used); slices = s } ≡ hands_run ls budget s₀ first
  unfolding run run_leaves
  go_over h =
      let z : budget - n ≡ 0 = omega arith in
      let q : n + 0 ≡ budget = omega arith in
      answers HaltedAt (rw q at (rw z at g.rest)) (rw z at g.left)

  module _ (h : n < budget) where
    abbrev later : ℕ
    later = budget - (n + 1)

    one : budget - n ≡ suc (budget - (n + 1))
    one = omega arith

    -- one step is made of what is left
    next_rest : {x : Next} → step v ls t ≡ x → counted n (after x t (λ u. run v ls later u)) ≡ whole
    unfolding run
    next_rest q = ap (λ (x : Next). counted n (after x t (λ u. run v ls later u))) (sym q) ∙ (rw one at g.rest)

    next_left : {x : Next} → step v ls t ≡ x → unless_answered x (leaves x s) (λ u. run_leaves v ls later u (leaves x s)) ≡ whole_left
    unfolding run_leaves
    next_left q = ap (λ (x : Next). unless_answered x (leaves x s) (λ u. run_leaves v ls later u (leaves x s))) (sym q) ∙ (rw one at g.left)

    module _ {r : Stepped} {after : Slices} (e : record { answer = r; slices = after } ≡ hands_next (step (length s.marks) ls) s used) where
      says : {x : Stepped} → r ≡ x → x ≡ answer_of (step v ls t)
      says q = sym q ∙ ap (λ (k : StepHanded). k.answer) e ∙ ap (λ (v : ℕ). answer_of (step v ls t)) long

      has : {x : Next} → step v ls t ≡ x → after ≡ leaves x s
      has q = ap (λ (k : StepHanded). k.slices) e ∙ ap (λ (x : Next). leaves x s) (ap (λ (v : ℕ). step v ls t) long ∙ q)

      pub go_moved : {u : ℕ} → r ≡ MovedTo u → Going ls budget s₀ first after u (n + 1)
      go_moved {u} x =
          let (w, q, p) = moved_next (step v ls t) (says x) in
          let k : HasTrail v w after = subst (HasTrail v w) (sym (has q)) (has_trail_moved g.listed (running_has_trail g.running) q) in
          let at : running_trail after u ≡ w = ap (running_trail after) p ∙ k.trail in
          let d : Done = run v ls later w in
          let z : n + 1 + d.steps ≡ n + suc d.steps = omega arith in
          record {
            listed = g.listed;
            running = subst (Running v after) (sym p) k.running;
            rest = rw at (ap (λ (m : ℕ). ends d.ending m d.trail) z ∙ next_rest q);
            left = (λ j. run_leaves v ls later (at j) (has q j)) ∙ next_left q;
          }

      pub go-found : r ≡ SaysFound → record { outcome = end_outcome (end_at FoundAt (n + 1) used); slices = after } ≡ hands_run ls budget s₀ first
      go-found x = let q = found-next (step v ls t) (says x) in answers FoundAt (next_rest q) (has q ∙ next_left q)

      pub go_none : r ≡ SaysNone → record { outcome = end_outcome (end_at NoneAt (n + 1) used); slices = after } ≡ hands_run ls budget s₀ first
      go_none x = let q = none_next (step v ls t) (says x) in answers NoneAt (next_rest q) (has q ∙ next_left q)

-- where a run ends, its trail stands in what it leaves
pub run_has_trail : {v : ℕ} {ls : List ℤ} → ListFits v ls → (budget : ℕ) (t : Trail) (s : Slices) → HasTrail v t s
    → HasTrail v (run v ls budget t).trail (run_leaves v ls budget t s)
unfolding run run_leaves
run_has_trail fits zero t s h = h
run_has_trail {v} {ls} fits (suc budget) t s h = by (step v ls t) refl (run_has_trail fits budget)
  where
    by : (x : Next) → step v ls t ≡ x → ((u : Trail) (s : Slices) → HasTrail v u s → HasTrail v (run v ls budget u).trail (run_leaves v ls budget u s))
        → HasTrail v (after x t (λ u. run v ls budget u)).trail (unless_answered x (leaves x s) (λ u. run_leaves v ls budget u (leaves x s)))
    by (Moved u) q go = go u (with_trail u s) (has_trail_moved fits h q)
    by AnsweredFound q go = h
    by AnsweredNone q go = h
