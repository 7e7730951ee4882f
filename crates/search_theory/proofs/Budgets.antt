-- Budgets that add up, for either call as its slices are left. Read `goes_on_lem`, `adds_up`, `unaltered` and `in-parts`. Assumes nothing.
use Prim.Native.Nat.{ℕ, zero, suc, ◌+◌, ◌-◌, ◌≤◌}
use native.Mathlib.Omega.{arith}
use native.Mathlib.Nat.{zero-add}
use lib.Dec.{eqb}
use borrow.Author.Tests.{eqb-true, eqb-false, eq-eqb}
use mathlib.Core.Path.{◌≡◌, refl, sym, ◌∙◌, ap, subst}
use mathlib.Core.Bool.{Bool, true, false, cond}
use mathlib.Core.List.{List, [], ◌∷◌}
use Rattle.answers.proofs.Bools.{and_both, other_half}
use Rattle.cnf.specs.Clauses.{Satisfies}
use Rattle.search.specs.Trail.{Trail, values_of}
use Rattle.search.specs.Run.{Halted, Done, following}
use Rattle.search.specs.Call.{Search, Handed, Call, Searching, Following, begins, comes_to, IsTaken, runs, hands, hands_done, Says, steps, resumed}
use Rattle.search.proofs.Trails.{length_trail, read_image}
use Rattle.search.proofs.BudgetSums.{counted, halted_on, ended_on, run_adds, following_adds}
use Rattle.search_theory.specs.Budgets.{goes_on, in_all, is_halted, total, in_parts}
use Rattle.search_theory.proofs.Accepted.{taken_image, taken_legal, taken_explained}
use Rattle.search_theory.proofs.Calls.{Meaning}
use Rattle.search_theory.proofs.Handed.{taken_answered, next_full, given-satisfies, next_exactly, comes, left_taken, hands-done, said, ending}

module _ {s : Search} where
  -- the steps of a halted call are its budget
  halted_count : {x : Call} (a : ℕ) → IsTaken x s → (runs x s a).ending ≡ Halted → (runs x s a).steps ≡ a
  halted_count {x} a ok e =
      let m : Meaning s.variables s.list x (begins s) a Halted (runs x s a).steps (runs x s a).trail = rw e at (comes ok a).says in
      m.0

  -- halted with a, what it comes to with a + b is what the call that goes on comes to, the steps made before counted in;
  halted_adds : {x : Call} (a b : ℕ) → IsTaken x s → (runs x s a).ending ≡ Halted
      → runs x s (a + b) ≡ counted (runs x s a).steps (comes_to (goes_on x (runs x s a).steps) s.variables s.list b (runs x s a).trail)
  unfolding following
  halted_adds {x = Searching} a b ok e = run_adds s.variables s.list b a (begins s) ∙ halted_on s.variables s.list b (runs Searching s a) e
  halted_adds {x = Following} zero b ok e = simp zero-add refl
  halted_adds {x = Following} (suc a) b ok e =
      let d : Done = runs Following s (suc a) in
      following_adds s.variables s.list b a (begins s) ∙ halted_on s.variables s.list b d e
      ∙ ap (λ n. counted d.steps (comes_to (goes_on Following n) s.variables s.list b d.trail)) (sym (halted_count (suc a) ok e))

  -- not halted, it comes to the same
  ended_adds : {x : Call} (a b : ℕ) → IsTaken x s → ((runs x s a).ending ≡ Halted → ⊥) → runs x s (a + b) ≡ runs x s a
  unfolding following
  ended_adds {x = Searching} a b ok n = run_adds s.variables s.list b a (begins s) ∙ ended_on s.variables s.list b (runs Searching s a) n
  ended_adds {x = Following} zero b ok n = absurd (n refl)
  ended_adds {x = Following} (suc a) b ok n =
      following_adds s.variables s.list b a (begins s) ∙ ended_on s.variables s.list b (runs Following s (suc a)) n

  -- the call that goes on after a halted one takes what that one left
  takes_on : {x : Call} (a : ℕ) → IsTaken x s → (runs x s a).ending ≡ Halted
      → IsTaken (goes_on x (runs x s a).steps) (resumed s (hands_done s.variables (runs x s a)))
  unfolding following
  takes_on {x = Searching} a ok e = left_taken ok a
  -- `next` that was halted before a step is called again
  takes_on {x = Following} zero ok e =
      next_exactly.1 (
        taken_image ok (begins s) (taken_legal ok) (taken_explained ok),
        length_trail s.slices s.used ∙ next_full ok,
        subst (λ t. Satisfies (values_of s.variables t) s.list) (sym (read_image s.variables (begins s))) (given-satisfies ok),
      )
  takes_on {x = Following} (suc a) ok e =
      let d : Done = runs Following s (suc a) in
      subst (λ n. IsTaken (goes_on Following n) (resumed s (hands_done s.variables d))) (sym (halted_count (suc a) ok e))
      (left_taken ok (suc a))

-- For every call that is taken:
module _ {x : Call} {s : Search} (ok : IsTaken x s) (a : ℕ) where
  abbrev d : Done
  d = runs x s a

  -- Halted with a: the call that goes on is taken,
  module _ (e : Says (hands x s a) Halted) where
    pub goes_on_lem : IsTaken (goes_on x (steps (hands x s a))) (resumed s (hands x s a))
    goes_on_lem = subst (λ (h : Handed). IsTaken (goes_on x (steps h)) (resumed s h)) (sym (hands-done ok a)) (takes_on a ok (ending ok a Halted e))

    -- and with budget b it hands out what one call with a + b does, which counts the steps of both.
    pub adds_up : (b : ℕ) → hands x s (a + b) ≡ in_all (hands x s a) (hands (goes_on x (steps (hands x s a))) (resumed s (hands x s a)) b)
    adds_up b =
        subst (λ (h : Handed). hands x s (a + b) ≡ in_all h (hands (goes_on x (steps h)) (resumed s h) b)) (sym (hands-done ok a))
        (hands-done ok (a + b) ∙ ap (hands_done s.variables) (halted_adds a b ok halted)
        ∙ ap (λ (t : Trail). in_all k (hands_done s.variables (comes_to y s.variables s.list b t))) (sym (read_image s.variables d.trail))
        ∙ ap (in_all k) (sym (hands-done (takes_on a ok halted) b)))
      where
        halted : d.ending ≡ Halted
        halted = ending ok a Halted e

        k : Handed
        k = hands_done s.variables d

        y : Call
        y = goes_on x d.steps

  -- Not halted with a: a larger budget alters nothing.
  pub unaltered : (Says (hands x s a) Halted → ⊥) → (b : ℕ) → a ≤ b → hands x s b ≡ hands x s a
  unaltered n b h =
      let sum : a + (b - a) ≡ b = omega arith in
      let same = ended_adds a (b - a) ok (λ e. n (said ok a Halted e)) in
      subst (λ k. hands x s k ≡ hands x s a) sum (hands-done ok (a + (b - a)) ∙ ap (hands_done s.variables) same ∙ sym (hands-done ok a))

-- In parts of any size, a call hands out what it does with all their budgets together.
pub in-parts : {x : Call} {s : Search} → IsTaken x s → (a : ℕ) (bs : List ℕ) → in_parts x s a bs ≡ hands x s (total a bs)
in-parts ok a [] = refl
in-parts {x} {s} ok a (b ∷ bs) = by (is_halted h.outcome) refl (λ k. in-parts {x = y} {s = resumed s h} k b bs)
  where
    h : Handed
    h = hands x s a

    y : Call
    y = goes_on x (steps h)

    by : (z : Bool) → is_halted h.outcome ≡ z → (IsTaken y (resumed s h) → in_parts y (resumed s h) b bs ≡ hands y (resumed s h) (total b bs))
        → cond z (in_all h (in_parts y (resumed s h) b bs)) h ≡ hands x s (a + total b bs)
    by true e rest =
        let says = eqb-true _ _ (and_both (eqb h.outcome.number 0) _ e).1 in
        ap (in_all h) (rest (goes_on_lem ok a says)) ∙ sym (adds_up ok a says (total b bs))
    by false e rest =
        let says = eqb-false _ _ (other_half (eqb h.outcome.number 0) _ e (eq-eqb _ 0 ((taken_answered x s a).0 ok))) in
        sym (unaltered ok a says (a + total b bs) (omega arith))
