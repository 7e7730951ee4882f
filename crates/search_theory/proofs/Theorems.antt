-- What is true of every call of the search and of `next`, each result in one statement over the call. The proofs stand in the files beside this one.
-- Nothing is assumed but what a statement says.
use Prim.Native.Nat.{ℕ, ◌+◌, ◌-◌, ◌≤◌, ◌<◌, ◌^◌}
use native.Mathlib.Omega.{arith}
use native.Mathlib.Numerals.{add-one}
use mathlib.Core.Path.{◌≡◌, refl, sym, ◌∙◌, ap, subst}
use mathlib.Core.Bool.{Bool}
use mathlib.Core.Logic.{◌⊎◌, inl, inr, ◌↔◌, ⊎_elim}
use Rattle.std.specs.Prelude.{None as none, Some as some}
use mathlib.Core.List.{List, [], ◌∷◌}
use Rattle.answers.proofs.Bools.{clash}
use Rattle.cnf.specs.Clauses.{Assignment, Satisfies}
use Rattle.search.specs.Trail.{Trail, Agrees, Turned, Open, values_of}
use Rattle.search.specs.Step.{undo}
use Rattle.search.specs.Run.{Ending, Found, None, Halted, Done}
use Rattle.search.specs.Call.{Search, Handed, Call, Searching, Following, begins, IsTaken, runs, hands, Says, steps, ends_at, resumed, given}
use Rattle.search_theory.specs.Openings.{OpenAt, Sought, OneAssignment, FoundOne}
use Rattle.search_theory.proofs.Full.{full_length, one_assignment}
use Rattle.search_theory.proofs.Measure.{number, number-most}
use Rattle.search_theory.proofs.Undo.{undo_some, undo_none}
use Rattle.search_theory.proofs.Accepted.{taken_legal}
use Rattle.search_theory.proofs.Calls.{Left, Meaning}
use Rattle.search_theory.proofs.Handed.{given_one, next_exactly, comes, hands-done, ends-at, resumed_taken, said, ending}

-- none agrees with all of a trail and differs at an entry of it
turned_disagrees : (a : List Bool) (t : Trail) → Turned a t → Agrees a t → ⊥
turned_disagrees a (e ∷ t) (inl o) g = clash g.0 o.1
turned_disagrees a (e ∷ t) (inr o) g = turned_disagrees a t o g.1
turned_disagrees a [] o g = elim o [ ]

-- of the assignments open at a trail that is one assignment, the others are turned
others_turned : {v : ℕ} {t : Trail} → OneAssignment v t → (a : List Bool) → Assignment v a → (Open a t × (a ≡ values_of v t → ⊥)) ↔ Turned a t
others_turned {v} {t} one a long = (
  λ h. ⊎_elim (λ g. absurd (h.1 (one.only a long g))) (λ o. o) h.0,
  λ o. (inr o, λ e. turned_disagrees a t o (subst (λ c. Agrees c t) (sym e) one.agrees)),
)

-- THE DROP of `next`, over all assignments. Where undoing leads to u, those open at u are those open before without the one that was given;
module _ {s : Search} (ok : IsTaken Following s) where
  pub drop-opens : (u : Trail) → undo (begins s) ≡ some u → (a : List Bool) → Assignment s.variables a
      → Open a u ↔ (Open a (begins s) × (a ≡ given s → ⊥))
  drop-opens u e a long =
      let r = undo_some s.variables (begins s) u (taken_legal ok) e in
      let others = others_turned (given_one ok) a long in
      (λ o. others.1 (r.was_open a o), λ h. r.opens a (others.0 h))

  -- where no mark is 1, that one is the only one open.
  pub only_open : undo (begins s) ≡ none → (a : List Bool) → Assignment s.variables a → Open a (begins s) ↔ a ≡ given s
  only_open e a long = (
    ⊎_elim ((given_one ok).only a long) (λ o. absurd (undo_none a (begins s) e o)),
    λ q. inl (subst (λ c. Agrees c (begins s)) (sym q) (given_one ok).agrees),
  )

-- what a call looks for is what it has left to find
module _ (s : Search) where
  open_part : (x : Call) (t : Trail) (a : List Bool) → Sought x s t a → OpenAt s.variables s.list t a
  open_part Searching t a o = o
  open_part Following t a o = o.0

  moved_to : (x : Call) (t u : Trail) (a : List Bool) → Sought x s t a → Open a u → Sought x s u a
  moved_to Searching t u a o k = record { assignment = o.assignment; satisfies = o.satisfies; is_open = k }
  moved_to Following t u a o k = (record { assignment = o.0.assignment; satisfies = o.0.satisfies; is_open = k }, o.1)

  sought_left : (x : Call) → IsTaken x s → (a : List Bool) → Sought x s (begins s) a → Left x a (begins s)
  sought_left Searching ok a o = o.is_open
  sought_left Following ok a o = (others_turned (given_one ok) a o.0.assignment).0 (o.0.is_open, o.1)

  left_sought : (x : Call) → IsTaken x s → (a : List Bool) → Assignment s.variables a → Satisfies a s.list → Left x a (begins s) → Sought x s (begins s) a
  left_sought Searching ok a long h o = record { assignment = long; satisfies = h; is_open = o }
  left_sought Following ok a long h o =
      let other = (others_turned (given_one ok) a long).1 o in
      (record { assignment = long; satisfies = h; is_open = other.0 }, other.1)

-- For every call that is taken, with any budget:
module _ {x : Call} {s : Search} (ok : IsTaken x s) (budget : ℕ) where
  abbrev h : Handed
  h = hands x s budget

  abbrev done : Done
  done = runs x s budget

  -- 1. The satisfying assignments open at the beginning are exactly those open at the end: for `next`, other than the one that it was given.
  pub same_open : (a : List Bool) → Sought x s (begins s) a ↔ Sought x s (ends_at (hands x s budget)) a
  same_open a = rw (ends-at ok budget) (
    λ o. moved_to s x _ _ a o ((comes ok budget).opens a (open_part s x _ a o).satisfies (sought_left s x ok a o)),
    λ o. let was = open_part s x _ a o in moved_to s x _ _ a o ((comes ok budget).was_open a was.satisfies was.is_open),
  )

  -- 2. Unless halted, it is "none" if there are none, else "found", the trail then being full, satisfying and one of them.
  pub unless_halted : (Says (hands x s budget) Halted → ⊥)
      → (Says (hands x s budget) None × ((a : List Bool) → Sought x s (begins s) a → ⊥))
      ⊎ (Says (hands x s budget) Found × FoundOne x s (ends_at (hands x s budget)))
  unless_halted n = by done.ending refl (comes ok budget).says
    where
      by : (y : Ending) → done.ending ≡ y → Meaning s.variables s.list x (begins s) budget y done.steps done.trail
          → (Says h None × ((a : List Bool) → Sought x s (begins s) a → ⊥)) ⊎ (Says h Found × FoundOne x s (ends_at h))
      by None e m = inl (said ok budget None e, λ a o. m a (open_part s x _ a o).satisfies (sought_left s x ok a o))
      by Halted e m = absurd (n (said ok budget Halted e))
      by Found e m =
          let u = done.trail in
          let one = one_assignment s.variables u m.0 (comes ok budget).legal in
          let is_one = left_sought s x ok _ one.assignment m.1 (m.3 _ m.1 (inl one.agrees)) in
          let full = full_length s.variables u (comes ok budget).legal m.0 in
          inr (said ok budget Found e, subst (FoundOne x s) (sym (ends-at ok budget)) (record { full = full; values = one; is_one = is_one }))

  most : number s.variables (begins s) ≤ 2 ^ (s.variables + 1) - 1
  most = rw add-one (number-most s.variables (begins s) (taken_legal ok))

  counted : steps (hands x s budget) ≡ done.steps
  counted = ap (λ (h : Handed). steps h) (hands-done ok budget)

  -- 3. The steps, a drop among them, are at most the budget and at most 2^(V+1) − 1.
  pub few_steps : (steps (hands x s budget) ≤ budget) × (steps (hands x s budget) ≤ 2 ^ (s.variables + 1) - 1)
  few_steps = rw counted ((comes ok budget).within, let f = (comes ok budget).few in omega (arith, most))

  -- Halted, the steps are the whole budget and fewer than 2^(V+1) − 1.
  pub halted_steps : Says (hands x s budget) Halted → (steps (hands x s budget) ≡ budget) × (steps (hands x s budget) < 2 ^ (s.variables + 1) - 1)
  halted_steps e =
      let m : Meaning s.variables s.list x (begins s) budget Halted done.steps done.trail =
      rw (ending ok budget Halted e) at (comes ok budget).says in
      rw counted (m.0, let f = m.1 in omega (arith, most))

  -- What a call has found, `next` may go on from.
  pub found-next : Says (hands x s budget) Found → IsTaken Following (resumed s (hands x s budget))
  found-next e =
      let m : Meaning s.variables s.list x (begins s) budget Found done.steps done.trail =
      rw (ending ok budget Found e) at (comes ok budget).says in
      let full = full_length s.variables done.trail (comes ok budget).legal m.0 in
      next_exactly.1 (
        resumed_taken ok budget,
        ap (λ (h : Handed). h.outcome.third) (hands-done ok budget) ∙ full,
        subst (λ t. Satisfies (values_of s.variables t) s.list) (sym (ends-at ok budget)) m.1,
      )

-- At "none" of `next` the one that was given was the only one open.
pub none_other : {s : Search} (ok : IsTaken Following s) (budget : ℕ) → Says (hands Following s budget) None
    → (a : List Bool) → OpenAt s.variables s.list (begins s) a → a ≡ given s
none_other {s} ok budget e a o =
    let d : Done = runs Following s budget in
    let m : Meaning s.variables s.list Following (begins s) budget None d.steps d.trail = rw (ending ok budget None e) at (comes ok budget).says in
    ⊎_elim ((given_one ok).only a o.assignment) (λ k. absurd (m a o.satisfies k)) o.is_open
