-- The search begun empty on an accepted grid's clauses, and `next` after it: what they hand out, and what that means for the grid. Assumes nothing.
use Prim.Native.Nat.{ℕ, ◌≤◌}
use native.Mathlib.Omega.{arith}
use lib.Dec.{eqb}
use lib.IntN.{pos}
use lib.ListN.{length, replicate, length-replicate, length-map}
use borrow.Author.Tests.{eq-eqb}
use mathlib.Core.Path.{◌≡◌, refl, sym, ◌∙◌, ap, subst}
use mathlib.Core.Bool.{Bool, false}
use mathlib.Core.Logic.{◌↔◌, inl, ⊎_elim}
use Rattle.std.specs.Prelude.{None as none}
use mathlib.Core.List.Memᴰ
use mathlib.Core.List.{List, [], ◌∷◌, map}
use Rattle.answers.specs.First.{first_where}
use Rattle.answers.specs.Lists.{◌∈◌}
use Rattle.answers.specs.Outcome.{cause}
use Rattle.answers.proofs.Bools.{clash}
use Rattle.answers.proofs.First.{none_first}
use Rattle.rules.specs.Record.{IsAccepted}
use Rattle.rules.specs.Board.{board_of}
use Rattle.rules.specs.Drawing.{SolutionBytes}
use Rattle.rules.specs.Solutions.{Solutions, OneSolution, SeveralSolutions}
use Rattle.rules.specs.Judge.{says_yes}
use Rattle.cnf.specs.Literals.{most_variables, too_many_variables, wrong_list}
use Rattle.cnf.specs.Clauses.{Satisfies}
use Rattle.encoder.specs.Variables.{variable_count}
use Rattle.encoder.specs.Clauses.{clause_list}
use Rattle.encoder.specs.Decoding.{decoded, decoder_answer, Satisfying, DecodesTo}
use Rattle.answers.proofs.Elements.{all_map, apart_on}
use Rattle.encoder_theory.proofs.Theorems.{decodes_to_solution, comes_from_one, never_refused}
use Rattle.search.specs.Trail.{Trail, slices, Open, trail_of, values_of}
use Rattle.search.specs.Run.{Ending, Found, None, Halted, Done, run, ending_number, done_outcome}
use Rattle.search.specs.Reasons.{wrong_numbers}
use Rattle.search.specs.Call.{Search, Handed, wrong_entry_at, Searching, Following, begins, IsTaken, runs, hands_done, hands_taken, by_search, by_next, Says}
use Rattle.search.specs.Call.{ends_at, resumed, given}
use Rattle.search_theory.specs.Openings.{OpenAt}
use Rattle.search_theory.specs.Listing.{Lists, ListsAll}
use Rattle.search_theory.proofs.Accepted.{Sized, right_lengths}
use Rattle.search_theory.specs.Legal.{Legal}
use Rattle.search_theory.proofs.Full.{full_length}
use Rattle.search_theory.proofs.Calls.{Meaning}
use Rattle.search_theory.proofs.Handed.{given_one, given-satisfies, comes, hands-done, ends-at}
use Rattle.search_theory.proofs.Theorems.{same_open, unless_halted, found-next, none_other}
use Rattle.search_theory.proofs.Listing as listing
use Rattle.solver.specs.Begun.{BegunOn}
use Rattle.solver.specs.SolverCall.{solved, trail_bytes}
use Rattle.solver.proofs.Decoded.{draws, hands_drawn, draws_solution, draws_apart, drawn_by}

-- no call says two things
says_both : {A : Type 0} (x y : Ending) (h : Handed) → Says h x → Says h y → eqb (ending_number x) (ending_number y) ≡ false → A
says_both x y h p q e = clash (eq-eqb (ending_number x) (ending_number y) (sym p ∙ q)) e

-- 1. The search

module _ (s : List ℕ) (c : Search) (b : BegunOn s c) where
  -- no search turns a grid's clauses down
  pub begun_taken : IsTaken Searching c
  begun_taken = record { clear = (ap cause (right_lengths c.slices sizes), (list, (entries, (numbers, tt)))) }
    where
      never : (variable_count (board_of s) ≤ most_variables) × (too_many_variables (variable_count (board_of s)) ≡ false)
          × (wrong_list (variable_count (board_of s)) (clause_list (board_of s)) ≡ none)
      never = never_refused s b.grid

      sizes : Sized c.variables c.slices c.used
      sizes =
          let e = b.empty in
          let few = never.0 in
          record { few = subst (λ n. n ≤ most_variables) (sym b.variables) few; trail = b.slices.trail; marks = b.slices.marks; inside = omega arith }

      list : wrong_list c.variables c.list ≡ none
      list = rw (b.variables, b.list) never.2

      -- row 18 looks at no entry
      entries : first_where (wrong_entry_at c.variables c.slices) c.used ≡ none
      entries = none_first _ c.used (λ k h. let e = b.empty in absurd (omega arith))

      -- nor does row 22
      numbers : wrong_numbers c.variables c.list c.slices c.used ≡ none
      numbers =
          rw (eq-eqb (length c.slices.numbers) c.variables b.slices.numbers)
          (none_first _ c.used (λ k h. let e = b.empty in absurd (omega arith)))

  begins_empty : begins c ≡ []
  unfolding trail_of
  begins_empty = ap (trail_of c.slices) b.empty

  -- it comes to the same whatever the slices hold
  comes-to : (budget : ℕ) → runs Searching c budget ≡ solved (board_of s) budget
  comes-to budget = (λ i. run (b.variables i) (b.list i) budget (begins_empty i))

  pub taken_solved : (budget : ℕ) → hands_taken Searching c budget ≡ hands_done (variable_count (board_of s)) (solved (board_of s) budget)
  taken_solved budget = (λ i. hands_done (b.variables i) (comes-to budget i))

  pub hands_solved : (budget : ℕ) → by_search c budget ≡ hands_done (variable_count (board_of s)) (solved (board_of s) budget)
  hands_solved budget = hands-done begun_taken budget ∙ taken_solved budget

  pub ends-solved : (budget : ℕ) → ends_at (by_search c budget) ≡ (solved (board_of s) budget).trail
  ends-solved budget = ends-at begun_taken budget ∙ ap (λ (d : Done). d.trail) (comes-to budget)

  -- the satisfying assignments are those open at the empty trail
  all_open : {a : List Bool} → Satisfying s a → OpenAt c.variables c.list (begins c) a
  all_open {a} h =
      record {
        assignment = h.gives ∙ sym b.variables;
        satisfies = subst (Satisfies a) (sym b.list) h.satisfies;
        is_open = subst (Open a) (sym begins_empty) (inl tt);
      }

  satisfying : {t : Trail} {a : List Bool} → OpenAt c.variables c.list t a → Satisfying s a
  satisfying {a = a} o = record { gives = o.assignment ∙ b.variables; satisfies = subst (Satisfies a) b.list o.satisfies }

  module _ (budget : ℕ) where
    pub found_decodes : Says (by_search c budget) Found
        → (ds : List ℕ) × DecodesTo s (values_of c.variables (ends_at (by_search c budget))) ds × SolutionBytes (board_of s) ds
    found_decodes f =
        ⊎_elim (λ h. says_both None Found (by_search c budget) h.0 f refl) (λ h. decodes_to_solution s b.grid _ (satisfying h.1.is_one))
        (unless_halted begun_taken budget (λ h. says_both Halted Found (by_search c budget) h f refl))

    pub none_exactly : (Says (by_search c budget) Halted → ⊥) → Says (by_search c budget) None ↔ ((ds : List ℕ) → SolutionBytes (board_of s) ds → ⊥)
    none_exactly n = (no_solution, says_none)
      where
        no_solution : Says (by_search c budget) None → (ds : List ℕ) → SolutionBytes (board_of s) ds → ⊥
        no_solution e ds S =
            ⊎_elim (λ h. let a = comes_from_one s b.grid ds S in h.1 a.0 (all_open a.1))
            (λ h. says_both Found None (by_search c budget) h.0 e refl)
            (unless_halted begun_taken budget n)

        says_none : ((ds : List ℕ) → SolutionBytes (board_of s) ds → ⊥) → Says (by_search c budget) None
        says_none unsolved =
            ⊎_elim (λ h. h.0) (λ h. let d = found_decodes h.0 in absurd (unsolved d.0 d.2)) (unless_halted begun_taken budget n)

-- 2. "Found", and `next` on what was left

module _ (s : List ℕ) (c : Search) (b : BegunOn s c) (first : ℕ) (f : Says (by_search c first) Found) where
  abbrev on : Search
  on = resumed c (by_search c first)

  on_taken : IsTaken Following on
  on_taken = found-next (begun_taken s c b) first f

  given_satisfying : Satisfying s (given on)
  given_satisfying =
      record { gives = (given_one on_taken).assignment ∙ b.variables; satisfies = subst (Satisfies (given on)) b.list (given-satisfies on_taken) }

  pub next_hands : (budget : ℕ) → by_next on budget ≡ hands_done c.variables (runs Following on budget)
  next_hands budget = hands-done on_taken budget

  module _ (budget : ℕ) where
    pub then_none : Says (by_next on budget) None → OneSolution s
    then_none e =
        record {
          drawing = draws s (given on);
          is_solution = draws_solution s b.grid (given on) given_satisfying;
          only = λ ds S. let (a, h, q) = drawn_by s b.grid ds S in q ∙ ap (draws s) (only a h);
        }
      where
        only : (a : List Bool) → Satisfying s a → a ≡ given on
        only a h = none_other on_taken budget e a ((same_open (begun_taken s c b) first a).0 (all_open s c b h))

    pub then_found : Says (by_next on budget) Found → SeveralSolutions s
    then_found e =
        ⊎_elim (λ h. says_both None Found (by_next on budget) h.0 e refl) (λ h. by (satisfying s c b h.1.is_one.0) h.1.is_one.1)
        (unless_halted on_taken budget (λ h. says_both Halted Found (by_next on budget) h e refl))
      where
        by : {a : List Bool} → Satisfying s a → (a ≡ given on → ⊥) → SeveralSolutions s
        by {a} h n =
            record {
              one = draws s (given on);
              other = draws s a;
              one_solution = draws_solution s b.grid (given on) given_satisfying;
              other_solution = draws_solution s b.grid a h;
              differ = λ q. n (sym (draws_apart s b.grid (given on) a given_satisfying h q));
            }

    pub one_exactly : (Says (by_next on budget) Halted → ⊥) → Says (by_next on budget) None ↔ OneSolution s
    one_exactly n = (
      then_none,
      λ o. ⊎_elim (λ h. h.0)
          (λ h. let m = then_found h.0 in absurd (m.differ (o.only m.one m.one_solution ∙ sym (o.only m.other m.other_solution))))
          (unless_halted on_taken budget n),
    )

-- 3. Calls carried on until "none"

module _ (s : List ℕ) (c : Search) (b : BegunOn s c) (found : List (List Bool)) (h : Lists Searching c found) where
  all : ListsAll c.variables c.list found
  all = listing.lists_all (begun_taken s c b) b.empty h

  listed_satisfying : (a : List Bool) → a ∈ found → Satisfying s a
  listed_satisfying a m =
      let k = all.satisfying a m in
      record { gives = k.0 ∙ b.variables; satisfies = subst (Satisfies a) b.list k.1 }

  listed : (a : List Bool) → Satisfying s a → a ∈ found
  listed a k = all.every a (k.gives ∙ sym b.variables) (subst (Satisfies a) (sym b.list) k.satisfies)

  pub lists_solutions : Solutions (board_of s) (map (draws s) found)
  lists_solutions =
      record {
        apart = apart_on (draws s) found (λ x y m n. draws_apart s b.grid x y (listed_satisfying x m) (listed_satisfying y n)) all.once;
        each = all_map (SolutionBytes (board_of s)) (draws s) found (λ a m. draws_solution s b.grid a (listed_satisfying a m));
        all = λ ds S. let (a, k, e) = drawn_by s b.grid ds S in Memᴰ.cast e (Memᴰ.map (draws s) (listed a k));
      }

  pub one_listed : length found ≡ 1 ↔ OneSolution s
  one_listed = (
    λ e. one_solution_lem _ lists_solutions (length-map found (draws s) ∙ e),
    λ o. sym (length-map found (draws s)) ∙ of_one o _ lists_solutions,
  )
    where
      one_solution_lem : (dss : List (List ℕ)) → Solutions (board_of s) dss → length dss ≡ 1 → OneSolution s
      one_solution_lem [] l e = absurd (omega arith)
      one_solution_lem (d ∷ []) l e =
          record {
            drawing = d;
            is_solution = l.each.0;
            only = λ ds S. ⊎_elim (λ q. q) (λ m. absurd (Memᴰ.not-nil m)) (Memᴰ.cases_cons (l.all ds S));
          }
      one_solution_lem (d ∷ x ∷ ds) l e = absurd (omega arith)

      of_one : OneSolution s → (dss : List (List ℕ)) → Solutions (board_of s) dss → length dss ≡ 1
      of_one o [] l = absurd (Memᴰ.not-nil (l.all o.drawing o.is_solution))
      of_one o (d ∷ []) l = refl
      of_one o (d ∷ x ∷ ds) l = absurd (l.apart.0 x (Memᴰ.head refl) (o.only d l.each.0 ∙ sym (o.only x l.each.1.0)))

-- 4. What the search comes to on a grid, by the call in zeros

module _ (s : List ℕ) (acc : IsAccepted s) where
  abbrev v : ℕ
  v = variable_count (board_of s)

  abbrev pub zeros : Search
  zeros = record { variables = v; list = clause_list (board_of s); slices = slices (replicate v (pos 0)) (replicate v 0) (replicate v 0); used = 0 }

  pub zeros_begun : BegunOn s zeros
  zeros_begun =
      record {
        grid = acc;
        variables = refl;
        list = refl;
        empty = refl;
        slices = record { trail = length-replicate v (pos 0); marks = length-replicate v 0; numbers = length-replicate v 0 };
      }

  module _ (budget : ℕ) where
    abbrev done : Done
    done = solved (board_of s) budget

    pub zeros_hand : by_search zeros budget ≡ hands_done v done
    zeros_hand = hands_solved s zeros zeros_begun budget

    pub zeros_end : ends_at (by_search zeros budget) ≡ done.trail
    zeros_end = ends-solved s zeros zeros_begun budget

    -- the trail at its end is legal, and at "found" full
    pub solved_legal : Legal v done.trail
    unfolding trail_of
    solved_legal = (comes (begun_taken s zeros zeros_begun) budget).legal

    pub solved_full : done.ending ≡ Found → length done.trail ≡ v
    unfolding trail_of
    solved_full found =
        let m : Meaning v (clause_list (board_of s)) Searching [] budget Found done.steps done.trail =
        rw found at (comes (begun_taken s zeros zeros_begun) budget).says in
        full_length v done.trail solved_legal m.0

    -- not halted, it says "none" exactly when the grid has no solution
    pub solved_none : ((done_outcome done).first ≡ ending_number Halted → ⊥)
        → (done_outcome done).first ≡ ending_number None ↔ ((ds : List ℕ) → SolutionBytes (board_of s) ds → ⊥)
    solved_none =
        subst (λ (h : Handed). (Says h Halted → ⊥) → Says h None ↔ ((ds : List ℕ) → SolutionBytes (board_of s) ds → ⊥)) zeros_hand
        (none_exactly s zeros zeros_begun budget)

    -- at "found" the trail's bytes decode to a solution
    module _ (found : done.ending ≡ Found) where
      drawn : (ds : List ℕ) × DecodesTo s (values_of v done.trail) ds × SolutionBytes (board_of s) ds
      drawn =
          subst (λ t. (ds : List ℕ) × DecodesTo s (values_of v t) ds × SolutionBytes (board_of s) ds) zeros_end
          (found_decodes s zeros zeros_begun budget (ap (λ (h : Handed). h.outcome.first) zeros_hand ∙ ap ending_number found))

      pub decoder_says : (lent : List ℕ) → length lent ≡ (board_of s).size → decoder_answer s (trail_bytes v done.trail) lent ≡ says_yes
      decoder_says = drawn.1.says

      pub solved_drawing : SolutionBytes (board_of s) (decoded (board_of s) (trail_bytes v done.trail))
      solved_drawing = subst (SolutionBytes (board_of s)) (sym (hands_drawn s drawn.1)) drawn.2

-- 5. The solutions of a grid, each once

pub some_list : (s : List ℕ) → IsAccepted s → (dss : List (List ℕ)) × Solutions (board_of s) dss
some_list s acc =
    let r = listing.carried_on_lem (begun_taken s (zeros s acc) (zeros_begun s acc)) in
    (_, lists_solutions s (zeros s acc) (zeros_begun s acc) r.0 r.1)
