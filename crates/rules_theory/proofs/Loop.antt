-- The loop of the first white cell s, left eastward: its cells are those to which links lead from s. Assumes nothing.
use Prim.Native.Nat.{ℕ, zero, suc, ◌+◌, ◌<◌}
use native.Mathlib.Omega.{arith}
use mathlib.Core.Path.{◌≡◌, refl, sym, ◌∙◌, ap}
use mathlib.Core.Bool.{Bool, true, false}
use Rattle.std.specs.Prelude.{Option, Some, unwrap_or}
use Rattle.answers.specs.First.{Least}
use Rattle.answers.proofs.Bools.{clash, off}
use Rattle.rules.specs.declared.Direction.{Direction}
use Rattle.rules.specs.declared.Direction.TheVariants.{North as north, East as east, South as south, West as west}
use Rattle.rules.specs.Directions.{opposite, bit, degree, other, pick}
use Rattle.rules.specs.Drawing.{Links, Reach, here, along}
use Rattle.rules.specs.Walk.{State, go, onto, start}
use Rattle.rules.proofs.Boards.{Ahead, Wired}
use Rattle.rules_theory.specs.Loop.{walk, pass}
use Rattle.rules_theory.proofs.Directions.{opposite_injective, other-there, other_apart, other_only}
use Rattle.rules_theory.proofs.Ring.{Ring, walk_good, other-other}
use Rattle.rules_theory.proofs.Round.{Round, round}
use Rattle.rules_theory.proofs.Around.{OnRound, stays}

pub go_is : (next : Direction → ℕ → Option ℕ) (d : Direction) (x y : ℕ) → next d x ≡ Some y → go next d x ≡ y
go_is next d x y e = ap (λ (o : Option ℕ). unwrap_or o x) e

not-ahead : (d : Direction) (x y : ℕ) → Ahead d x y → y ≡ x → ⊥
not-ahead north x y h e = omega arith
not-ahead east x y h e = omega arith
not-ahead south x y h e = omega arith
not-ahead west x y h e = omega arith

-- two links, none of them north or west
two_left : (e s : Bool) {n w : Bool} → bit n + bit e + bit s + bit w ≡ 2 → n ≡ false → w ≡ false → (e ≡ true) × (s ≡ true)
two_left true true h p q = (refl, refl)
two_left true false h p q = absurd (omega (arith, ap bit p, ap bit q))
two_left false true h p q = absurd (omega (arith, ap bit p, ap bit q))
two_left false false h p q = absurd (omega (arith, ap bit p, ap bit q))

module _ {size : ℕ} {next : Direction → ℕ → Option ℕ} {white : ℕ → Bool} {link : ℕ → Direction → Bool} (B : Wired size next)
    (L : Links size next white link) where
  -- where a link leads
  pub far : (x : ℕ) (d : Direction) → link x d ≡ true → next d x ≡ Some (go next d x)
  far x d h = let w = L.matched x d h in w.1 ∙ ap Some (sym (go_is next d x w.0 w.1))

  met : (x : ℕ) (d : Direction) → link x d ≡ true → link (go next d x) (opposite d) ≡ true
  met x d h = let w = L.matched x d h in rw (go_is next d x w.0 w.1) w.2

  inside : (x : ℕ) (d : Direction) → link x d ≡ true → x < size
  inside x d h = (B.inside d x _ (far x d h)).0

  degree_two : (x : ℕ) (d : Direction) → link x d ≡ true → degree (link x) ≡ 2
  degree_two x d h = L.two x (inside x d h) (L.at_white x d h)

  pub ring : Ring size (go next) link (onto link)
  ring =
      record {
        inside = inside;
        met = met;
        back = λ x d h. go_is next (opposite d) _ x (B.back d x _ (far x d h));
        moved = λ x d h. not-ahead d x _ (B.ahead d x _ (far x d h));
        there = λ x d h. other-there (link x) (degree_two x d h) d h;
        apart = λ x d h. other_apart (link x) (degree_two x d h) d h;
        only = λ x d e h. other_only (link x) (degree_two x d h) d h e;
      }

  -- the first white cell has no link to a cell before it; so its links are east and south
  module _ {s : ℕ} (F : Least white size s) where
    none_before : (d : Direction) → ((y : ℕ) → Ahead d s y → y < s) → link s d ≡ false
    none_before d lower = off _ (λ h. clash (L.at_white _ _ (met s d h)) (F.first _ (lower _ (B.ahead d s _ (far s d h)))))

    pub first_north : link s north ≡ false
    first_north = none_before north (λ y h. h)

    pub first_west : link s west ≡ false
    first_west = none_before west (λ y h. omega arith)

    first_two : (link s east ≡ true) × (link s south ≡ true)
    first_two = two_left (link s east) (link s south) (L.two s F.below F.holds) first_north first_west

    pub first_east : link s east ≡ true
    first_east = first_two.0

    pub first_south : link s south ≡ true
    first_south = first_two.1

    -- the walk returns to s
    pub loop : (m : ℕ) × Round size (go next) (onto link) (start s) m
    loop = round ring (start s) first_east

    -- each state leaves by a link, which leads to the next
    pub pass_linked : (k : ℕ) → link (pass next link s k).cell (pass next link s k).way ≡ true
    pass_linked k = walk_good ring (start s) first_east k

    pub pass_steps : (k : ℕ) → next (pass next link s k).way (pass next link s k).cell ≡ Some (pass next link s (suc k)).cell
    unfolding walk
    pass_steps k = far _ _ (pass_linked k)

    pub pass-white : (k : ℕ) → white (pass next link s k).cell ≡ true
    pass-white k = L.at_white _ _ (pass_linked k)

    east_other : other (link s) east ≡ south
    east_other = (λ t. pick (first_north t) (first_south t) north south west)

    -- it comes back to s from the south
    pub pass_last : (k : ℕ) → pass next link s (suc k) ≡ start s → (pass next link s k).way ≡ north
    unfolding walk
    pass_last k e = opposite_injective _ _ (sym (other-other ring _ _ (met _ _ (pass_linked k))) ∙ (λ t. other (link (e t).cell) (e t).way) ∙ east_other)

    pub pass_last_step : (k : ℕ) → pass next link s (suc k) ≡ start s → next south s ≡ Some (pass next link s k).cell
    pass_last_step k e = B.back north _ s (rw (pass_last k e, ap (λ (v : State). v.cell) e) at (pass_steps k))

    -- links lead from s to the cells of the walk, and to no others
    pub reach_pass : (k : ℕ) → Reach next link s (pass next link s k).cell
    unfolding walk
    reach_pass zero = here refl
    reach_pass (suc k) = along (reach_pass k) (pass_linked k) (pass_steps k)

    module _ {m : ℕ} (W : Round size (go next) (onto link) (start s) m) where
      pub reach_on : {x : ℕ} → Reach next link s x → OnRound (go next) (onto link) (start s) m x
      unfolding walk
      reach_on (here e) = let l = W.long in (0, omega arith, sym e)
      reach_on (along {x = x} {y = y} {d = d} r h e) = rw (go_is next d x y e) at (stays W ring first_east d (reach_on r) h)

      pub on_reach : {x : ℕ} → OnRound (go next) (onto link) (start s) m x → Reach next link s x
      on_reach w = rw (← w.2) (reach_pass w.0)
