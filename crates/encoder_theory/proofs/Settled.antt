-- For links that make one loop there is exactly one direction of it that leaves the first white cell eastward, and exactly one count of links ahead:
-- the way of the walk, and the number of steps that the walk still has before it. Assumes nothing.
use Prim.Native.Nat.{ℕ, zero, suc, ◌+◌, ◌-◌, ◌≤◌, ◌<◌}
use native.Mathlib.Omega.{arith}
use native.Mathlib.Decide.{ℕ_discrete, dec_lt}
use lib.Dec.{eqb}
use borrow.Author.Tests.{eqb-true, eq-eqb}
use mathlib.Core.Path.{◌≡◌, refl, sym, ◌∙◌, ap}
use mathlib.Core.Bool.{Bool, true, false, ◌&&◌, ◌||◌}
use mathlib.Core.Logic.{◌⊎◌, inl, inr, ◌↔◌}
use Rattle.std.specs.Prelude.{Option, Some}
use Rattle.std.proofs.lemmas.Option.{same_Some}
use Rattle.answers.specs.First.{Least}
use Rattle.answers.proofs.Bools.{clash, and_both, both_and, or_cases, or_left, or_right, same_tests}
use Rattle.rules.specs.declared.Direction.{Direction}
use Rattle.rules.specs.declared.Direction.TheVariants.{East as east}
use Rattle.rules.specs.Directions.{opposite, other}
use Rattle.rules.specs.Drawing.{Links, Reach}
use Rattle.rules.specs.Walk.{State, go, onto, start}
use Rattle.rules.proofs.Boards.{Wired}
use Rattle.rules_theory.specs.Loop.{walk, pass}
use Rattle.rules_theory.proofs.Directions.{opposite-opposite, opposite_injective, same, same_true, true_same}
use Rattle.rules_theory.proofs.Ring.{Ring, other-other, same_state}
use Rattle.rules_theory.proofs.Round.{Round, window, round_fits}
use Rattle.rules_theory.proofs.Around.{later}
use Rattle.rules_theory.proofs.Loop.{go_is, ring, first_east, loop, pass_linked, pass_steps, pass-white, reach_on}
use Rattle.encoder_theory.proofs.Flow.{Flow, flow_walks, flow_only, distance_is}
use Rattle.encoder_theory.proofs.Oriented.{Oriented, Counted, Sent, link_of, link_cases, link_out, link_in, flow, distance}

-- the test holds somewhere below n
unfoldable pub any : (ℕ → Bool) → ℕ → Bool
any p zero = false
any p (suc n) = p n || any p n

any_true : (p : ℕ → Bool) (n : ℕ) → any p n ≡ true → (k : ℕ) × (k < n) × (p k ≡ true)
unfolding any
any_true p zero h = clash h refl
any_true p (suc n) h = by (any_true p n) (or_cases (p n) (any p n) h)
  where
    by : (any p n ≡ true → (k : ℕ) × (k < n) × (p k ≡ true)) → (p n ≡ true) ⊎ (any p n ≡ true) → (k : ℕ) × (k < suc n) × (p k ≡ true)
    by below (inl q) = (n, omega arith, q)
    by below (inr q) = let w = below q in let l = w.1 in (w.0, omega arith, w.2)

true_any : (p : ℕ → Bool) (n k : ℕ) → k < n → p k ≡ true → any p n ≡ true
unfolding any
true_any p zero k h q = absurd (omega arith)
true_any p (suc n) k h q = by (true_any p n k) (ℕ_discrete k n)
  where
    by : (k < n → p k ≡ true → any p n ≡ true) → Dec (k ≡ n) → p n || any p n ≡ true
    by below (yes e) = or_left (p n) (any p n) (rw e at q)
    by below (no e) = or_right (p n) (any p n) (below (omega arith) q)

-- the walk goes from x in direction d
abbrev pub goes_of : (Direction → ℕ → Option ℕ) → (ℕ → Direction → Bool) → ℕ → ℕ → ℕ → Direction → Bool
goes_of next link s m x d = any (λ k. eqb (pass next link s k).cell x && same (pass next link s k).way d) m

-- the walk is back at s k steps after x: the index of x, counted from 1 to m, and k make m
abbrev pub ahead_of : (Direction → ℕ → Option ℕ) → (ℕ → Direction → Bool) → ℕ → ℕ → ℕ → ℕ → Bool
ahead_of next link s m x k = any (λ a. eqb (pass next link s (suc a)).cell x && eqb (k + suc a) m) m

-- links that lead from s everywhere
pub record Whole (size : ℕ) (next : Direction → ℕ → Option ℕ) (white : ℕ → Bool) (link : ℕ → Direction → Bool) (s : ℕ) : Type 0 where
  pub links : Links size next white link
  pub all : (x : ℕ) → x < size → white x ≡ true → Reach next link s x

module _ {size : ℕ} {next : Direction → ℕ → Option ℕ} {white : ℕ → Bool} {link : ℕ → Direction → Bool} (B : Wired size next) {s : ℕ} (F : Least white size s)
    (A : Whole size next white link s) where
  abbrev L : Links size next white link
  L = A.links

  -- how many cells the loop has
  abbrev pub steps : ℕ
  steps = (loop B A.links F).0

  abbrev W : Round size (go next) (onto link) (start s) steps
  W = (loop B L F).1

  abbrev RR : Ring size (go next) link (onto link)
  RR = ring B L

  abbrev on : link s east ≡ true
  on = first_east B L F

  abbrev at : ℕ → State
  at k = pass next link s k

  abbrev runs : ℕ → Direction → Bool
  runs = goes_of next link s steps

  goes_from : (x : ℕ) (d : Direction) → runs x d ≡ true → (k : ℕ) × (k < steps) × ((at k).cell ≡ x) × ((at k).way ≡ d)
  goes_from x d h =
      let w = any_true (λ k. eqb (at k).cell x && same (at k).way d) steps h in
      let p = and_both (eqb (at w.0).cell x) (same (at w.0).way d) w.2 in
      (w.0, w.1, eqb-true _ _ p.0, same_true _ _ p.1)

  goes_at : (k x : ℕ) (d : Direction) → k < steps → (at k).cell ≡ x → (at k).way ≡ d → runs x d ≡ true
  goes_at k x d h e f =
      true_any (λ k. eqb (at k).cell x && same (at k).way d) steps k h (both_and (eqb (at k).cell x) (same (at k).way d) (eq-eqb _ _ e) (true_same _ _ f))

  abbrev ahead : ℕ → ℕ → Bool
  ahead = ahead_of next link s steps

  ahead_from : (x k : ℕ) → ahead x k ≡ true → (a : ℕ) × (a < steps) × ((at (suc a)).cell ≡ x) × (k + suc a ≡ steps)
  ahead_from x k h =
      let w = any_true (λ a. eqb (at (suc a)).cell x && eqb (k + suc a) steps) steps h in
      let p = and_both (eqb (at (suc w.0)).cell x) (eqb (k + suc w.0) steps) w.2 in
      (w.0, w.1, eqb-true _ _ p.0, eqb-true _ _ p.1)

  ahead_at : (a x k : ℕ) → a < steps → (at (suc a)).cell ≡ x → k + suc a ≡ steps → ahead x k ≡ true
  ahead_at a x k h e f =
      true_any (λ a. eqb (at (suc a)).cell x && eqb (k + suc a) steps) steps a h
      (both_and (eqb (at (suc a)).cell x) (eqb (k + suc a) steps) (eq-eqb _ _ e) (eq-eqb _ _ f))

  -- a cell of which the start is ahead is on the loop
  pub ahead_white : (x k : ℕ) → ahead_of next link s steps x k ≡ true → white x ≡ true
  ahead_white x k h = let v = ahead_from x k h in ap white (sym v.2) ∙ pass-white B L F (suc v.0)

  one_state : (i j : ℕ) → (at i).cell ≡ (at j).cell → at i ≡ at j
  one_state = same_state RR (start s) on

  -- the link by which the walk came
  came_by : (k : ℕ) → other (link (at (suc k)).cell) (at (suc k)).way ≡ opposite (at k).way
  unfolding walk
  came_by k = other-other RR _ _ (RR.met _ _ (pass_linked B L F k))

  back_step : (k : ℕ) → next (opposite (at k).way) (at (suc k)).cell ≡ Some (at k).cell
  back_step k = B.back _ _ _ (pass_steps B L F k)

  -- the next cell after an index where the walk is at x and goes d
  onward : (k x y : ℕ) (d : Direction) → (at k).cell ≡ x → (at k).way ≡ d → next d x ≡ Some y → (at (suc k)).cell ≡ y
  onward k x y d e f h = same_Some _ _ (sym (pass_steps B L F k) ∙ (λ t. next (f t) (e t)) ∙ h)

  at_home : (at steps).cell ≡ s
  at_home = ap (λ (z : State). z.cell) W.closed

  -- one index from 1 to m for a cell
  one_index : (i j : ℕ) → i < steps → j < steps → (at (suc i)).cell ≡ (at (suc j)).cell → i ≡ j
  one_index i j h k e = by (ℕ_discrete i j) (dec_lt i j)
    where
      by : Dec (i ≡ j) → Dec (i < j) → i ≡ j
      by (yes q) l = q
      by (no q) (yes l) = absurd (window RR (start s) on W (suc i) (suc j) (omega arith) (omega arith) e)
      by (no q) (no l) = absurd (window RR (start s) on W (suc j) (suc i) (omega arith) (omega arith) (sym e))

  on_loop : (x : ℕ) → x < size → white x ≡ true → (k : ℕ) × (k < steps) × ((at k).cell ≡ x)
  on_loop x h w = reach_on B L F W (A.all x h w)

  from_one : (x : ℕ) → x < size → white x ≡ true → (a : ℕ) × (a < steps) × ((at (suc a)).cell ≡ x)
  from_one x h w = later W (on_loop x h w)

  -- 1. The walk's own direction is one

  walk_oriented : Oriented size next white (goes_of next link s steps)
  unfolding walk
  walk_oriented =
      record {
        leads = leads;
        out = λ x h w. let v = on_loop x h w in ((at v.0).way, goes_at v.0 x _ v.1 v.2 refl);
        out_one = out_one;
        into = into;
        in_one = in_one;
        one_way = one_way;
      }
    where
      leads : (x : ℕ) (d : Direction) → runs x d ≡ true → (y : ℕ) × (next d x ≡ Some y) × (white x ≡ true) × (white y ≡ true)
      leads x d h =
          let v = goes_from x d h in (
            (at (suc v.0)).cell,
            (λ t. next (sym v.3 t) (sym v.2 t)) ∙ pass_steps B L F v.0,
            ap white (sym v.2) ∙ pass-white B L F v.0,
            pass-white B L F (suc v.0),
          )

      out_one : (x : ℕ) (d e : Direction) → runs x d ≡ true → runs x e ≡ true → d ≡ e
      out_one x d e h k =
          let v = goes_from x d h in
          let w = goes_from x e k in
          sym v.3 ∙ ap (λ (z : State). z.way) (one_state v.0 w.0 (v.2 ∙ sym w.2)) ∙ w.3

      into : (x : ℕ) → x < size → white x ≡ true → (d : Direction) × (y : ℕ) × (next d x ≡ Some y) × (runs y (opposite d) ≡ true)
      into x h w =
          let v = from_one x h w in (
            opposite (at v.0).way,
            (at v.0).cell,
            ap (next (opposite (at v.0).way)) (sym v.2) ∙ back_step v.0,
            goes_at v.0 _ _ v.1 refl (sym (opposite-opposite (at v.0).way)),
          )

      in_one : (x : ℕ) (d e : Direction) (y z : ℕ) → next d x ≡ Some y → runs y (opposite d) ≡ true → next e x ≡ Some z → runs z (opposite e) ≡ true → d ≡ e
      in_one x d e y z p h q k =
          let v = goes_from y (opposite d) h in
          let w = goes_from z (opposite e) k in
          let a : (at (suc v.0)).cell ≡ x = onward v.0 y x (opposite d) v.2 v.3 (B.back d x y p) in
          let b : (at (suc w.0)).cell ≡ x = onward w.0 z x (opposite e) w.2 w.3 (B.back e x z q) in
          let c : at (suc v.0) ≡ at (suc w.0) = one_state (suc v.0) (suc w.0) (a ∙ sym b) in
          opposite_injective d e
          (sym v.3 ∙ opposite_injective _ _ (sym (came_by v.0) ∙ (λ t. other (link (c t).cell) (c t).way) ∙ came_by w.0) ∙ w.3)

      one_way : (x : ℕ) (d : Direction) (y : ℕ) → next d x ≡ Some y → runs x d ≡ true → runs y (opposite d) ≡ true → ⊥
      one_way x d y p h k =
          let v = goes_from x d h in
          let w = goes_from y (opposite d) k in
          let a : (at (suc v.0)).cell ≡ y = onward v.0 x y d v.2 v.3 p in
          let c : at (suc v.0) ≡ at w.0 = one_state (suc v.0) w.0 (a ∙ sym w.2) in
          RR.apart _ (opposite (at v.0).way) (RR.met _ _ (pass_linked B L F v.0)) (ap (λ (z : State). z.way) c ∙ w.3 ∙ ap opposite (sym v.3))

  -- it draws the links
  pub walk_draws : (x : ℕ) (d : Direction) → link x d ≡ link_of next (goes_of next link s steps) x d
  walk_draws x d = same_tests (link x d) (link_of next runs x d) (λ h. forth h) (λ h. back (link_cases next runs x d h))
    where
      forth : link x d ≡ true → link_of next runs x d ≡ true
      forth h = by (RR.only _ _ d (pass_linked B L F (suc v.0)) (rw v.2 h))
        where
          v : (a : ℕ) × (a < steps) × ((at (suc a)).cell ≡ x)
          v = from_one x (RR.inside x d h) (L.at_white x d h)

          by : (d ≡ (at (suc v.0)).way) ⊎ (d ≡ other (link (at (suc v.0)).cell) (at (suc v.0)).way) → link_of next runs x d ≡ true
          by (inr q) =
              let r : d ≡ opposite (at v.0).way = q ∙ came_by v.0 in
              link_in next runs x d (at v.0).cell ((λ t. next (r t) (sym v.2 t)) ∙ back_step v.0)
              (goes_at v.0 _ (opposite d) v.1 refl (sym (opposite-opposite (at v.0).way) ∙ ap opposite (sym r)))
          by (inl q) =
              let u = on_loop x (RR.inside x d h) (L.at_white x d h) in
              let c : at u.0 ≡ at (suc v.0) = one_state u.0 (suc v.0) (u.2 ∙ sym v.2) in
              link_out next runs x d (goes_at u.0 x d u.1 u.2 (ap (λ (z : State). z.way) c ∙ sym q))

      linked : (y : ℕ) (e : Direction) → runs y e ≡ true → link y e ≡ true
      linked y e g = let v = goes_from y e g in (λ t. link (sym v.2 t) (sym v.3 t)) ∙ pass_linked B L F v.0

      back : (runs x d ≡ true) ⊎ ((y : ℕ) × (next d x ≡ Some y) × (runs y (opposite d) ≡ true)) → link x d ≡ true
      back (inl g) = linked x d g
      back (inr w) =
          let f : go next (opposite d) w.0 ≡ x = go_is next (opposite d) w.0 x (B.back d x w.0 w.1) in
          rw (f, opposite-opposite d) at (RR.met w.0 (opposite d) (linked w.0 (opposite d) w.2))

  walk_east : goes_of next link s steps s east ≡ true
  unfolding walk
  walk_east = let l = W.long in goes_at 0 s east (omega arith) refl refl

  -- and the steps before it are counts
  walk-counted : (bound : ℕ) → steps ≤ bound → Counted size next white (goes_of next link s steps) s bound (λ x k. ahead_of next link s steps x k ≡ true)
  unfolding walk
  walk-counted bound fits = record { has = has; begins = begins; ends = ends; none_black = none_black; falls = falls }
    where
      has : (x : ℕ) → x < size → white x ≡ true → (k : ℕ) × (k < bound) × (ahead x k ≡ true)
      has x h w = let v = from_one x h w in let l = v.1 in (steps - suc v.0, omega arith, ahead_at v.0 x _ v.1 v.2 (omega arith))

      begins : ahead s 0 ≡ true
      begins = by steps refl
        where
          by : (n : ℕ) → steps ≡ n → ahead s 0 ≡ true
          by zero e = let l = W.long in absurd (omega arith)
          by (suc n) e = ahead_at n s 0 (omega arith) (ap (λ k. (at k).cell) (sym e) ∙ at_home) (omega arith)

      ends : (x : ℕ) → ahead x 0 ≡ true → x ≡ s
      ends x h = let v = ahead_from x 0 h in let e = v.3 in let q : suc v.0 ≡ steps = omega arith in sym v.2 ∙ ap (λ (k : ℕ). (at k).cell) q ∙ at_home

      none_black : (k : ℕ) → ahead s (suc k) ≡ true → ⊥
      none_black k h = let v = ahead_from s (suc k) h in let e = v.3 in W.fresh 0 (suc v.0) (omega arith) (omega arith) (sym v.2)

      falls : (x : ℕ) (d : Direction) (y k : ℕ) → runs x d ≡ true → next d x ≡ Some y → ahead x (suc k) ≡ true → ahead y k ≡ true
      falls x d y k g p h =
          let v = ahead_from x (suc k) h in
          let e = v.3 in
          let u = goes_from x d g in
          let c : at u.0 ≡ at (suc v.0) = one_state u.0 (suc v.0) (u.2 ∙ sym v.2) in
          ahead_at (suc v.0) y k (omega arith) (onward (suc v.0) x y d v.2 (ap (λ (z : State). z.way) (sym c) ∙ u.3) p) (omega arith)

  -- the bound: any number of values that tell the white cells apart
  pub walk_sent : (bound : ℕ) (rank : ℕ → ℕ) → ((x : ℕ) → white x ≡ true → rank x < bound)
      → ((x y : ℕ) → white x ≡ true → white y ≡ true → rank x ≡ rank y → x ≡ y)
      → Sent size next white s bound (goes_of next link s steps) (λ x k. ahead_of next link s steps x k ≡ true)
  walk_sent bound rank low tell = record { oriented = walk_oriented; eastward = walk_east; counted = walk-counted bound short }
    where
      short : steps ≤ bound
      short = round_fits RR (start s) on W rank bound (λ k. low _ (pass-white B L F k)) (λ i j e. tell _ _ (pass-white B L F i) (pass-white B L F j) e)

  -- 2. There is no other that draws these links

  module _ {bound : ℕ} {goes : ℕ → Direction → Bool} {Q : ℕ → ℕ → Type 0} (N : Sent size next white s bound goes Q)
      (drawn : (x : ℕ) (d : Direction) → link x d ≡ link_of next goes x d) where
    abbrev G : Flow (go next) link goes
    G = flow B N.oriented L drawn

    pub settled_goes : (x : ℕ) (d : Direction) → goes x d ≡ goes_of next link s steps x d
    settled_goes x d = same_tests (goes x d) (runs x d) forth back
      where
        forth : goes x d ≡ true → runs x d ≡ true
        forth h =
            let w = N.oriented.leads x d h in
            let v = on_loop x (B.inside d x w.0 w.1).0 w.2 in
            goes_at v.0 x d v.1 v.2 (sym (flow_only RR (start s) on G N.eastward v.0 d (rw v.2 h)))

        back : runs x d ≡ true → goes x d ≡ true
        back h = let v = goes_from x d h in (λ t. goes (sym v.2 t) (sym v.3 t)) ∙ flow_walks RR (start s) on G N.eastward v.0

    count_is : (x k : ℕ) → x < size → white x ≡ true → Q x k → ahead x k ≡ true
    count_is x k h w q =
        let v = from_one x h w in
        ahead_at v.0 x k v.1 v.2
        (distance_is RR (start s) on G N.eastward W (distance B N.oriented L drawn N.counted) k v.0 v.1 (rw v.2 q))

    pub settled_count : (x k : ℕ) → x < size → white x ≡ true → Q x k ↔ ahead_of next link s steps x k ≡ true
    settled_count x k h w = (count_is x k h w, back)
      where
        back : ahead x k ≡ true → Q x k
        back a = rw equal u.2
          where
            u : (l : ℕ) × (l < bound) × Q x l
            u = N.counted.has x h w

            equal : k ≡ u.0
            equal =
                let v = ahead_from x k a in
                let t = ahead_from x u.0 (count_is x u.0 h w u.2) in
                let i : v.0 ≡ t.0 = one_index v.0 t.0 v.1 t.1 (v.2 ∙ sym t.2) in
                let p = v.3 in
                let q = t.3 in
                omega arith
