-- The loop's direction as the clauses say it: for each white cell one way out and one way in, and how many links the start is ahead; the links
-- drawn from that. Assumes nothing.
use Prim.Native.Nat.{ℕ, zero, suc, ◌<◌}
use mathlib.Core.Path.{◌≡◌, refl, sym, ◌∙◌, ap}
use mathlib.Core.Bool.{Bool, true, ◌||◌}
use mathlib.Core.Logic.{◌⊎◌, inl, inr}
use Rattle.std.specs.Prelude.{Option, None, Some}
use Rattle.std.proofs.lemmas.Option.{same_Some}
use Rattle.answers.proofs.Bools.{clash, or_cases, or_left, or_right}
use Rattle.rules.specs.declared.Direction.{Direction}
use Rattle.rules.specs.declared.Direction.TheVariants.{East as east}
use Rattle.rules.specs.Directions.{opposite, degree}
use Rattle.rules.specs.Drawing.{Links, Reach, here, along}
use Rattle.rules.specs.Walk.{go}
use Rattle.rules.specs.Judge.{there}
use Rattle.rules.proofs.Boards.{Wired}
use Rattle.rules_theory.proofs.Directions.{opposite-opposite, degree_is_two}
use Rattle.rules_theory.proofs.Loop.{go_is, far}
use Rattle.encoder_theory.proofs.Flow.{Flow, Distance}

-- goes x d: the loop goes from x in direction d
pub record Oriented (size : ℕ) (next : Direction → ℕ → Option ℕ) (white : ℕ → Bool) (goes : ℕ → Direction → Bool) : Type 0 where
  pub leads : (x : ℕ) (d : Direction) → goes x d ≡ true → (y : ℕ) × (next d x ≡ Some y) × (white x ≡ true) × (white y ≡ true)
  pub out : (x : ℕ) → x < size → white x ≡ true → (d : Direction) × (goes x d ≡ true)
  pub out_one : (x : ℕ) (d e : Direction) → goes x d ≡ true → goes x e ≡ true → d ≡ e
  pub into : (x : ℕ) → x < size → white x ≡ true → (d : Direction) × (y : ℕ) × (next d x ≡ Some y) × (goes y (opposite d) ≡ true)
  pub in_one : (x : ℕ) (d e : Direction) (y z : ℕ) → next d x ≡ Some y → goes y (opposite d) ≡ true → next e x ≡ Some z → goes z (opposite e) ≡ true → d ≡ e
  pub one_way : (x : ℕ) (d : Direction) (y : ℕ) → next d x ≡ Some y → goes x d ≡ true → goes y (opposite d) ≡ true → ⊥

-- Q x k: s is k links ahead of x; k stays below a bound
pub record Counted (size : ℕ) (next : Direction → ℕ → Option ℕ) (white : ℕ → Bool) (goes : ℕ → Direction → Bool) (s bound : ℕ)
    (Q : ℕ → ℕ → Type 0) : Type 0 where
  pub has : (x : ℕ) → x < size → white x ≡ true → (k : ℕ) × (k < bound) × Q x k
  pub begins : Q s 0
  pub ends : (x : ℕ) → Q x 0 → x ≡ s
  pub none_black : (k : ℕ) → Q s (suc k) → ⊥
  pub falls : (x : ℕ) (d : Direction) (y k : ℕ) → goes x d ≡ true → next d x ≡ Some y → Q x (suc k) → Q y k

-- the loop leaves s eastward
pub record Sent (size : ℕ) (next : Direction → ℕ → Option ℕ) (white : ℕ → Bool) (s bound : ℕ) (goes : ℕ → Direction → Bool) (Q : ℕ → ℕ → Type 0) : Type 0 where
  pub oriented : Oriented size next white goes
  pub eastward : goes s east ≡ true
  pub counted : Counted size next white goes s bound Q

-- it comes from the neighbour in direction d
abbrev Comes : (Direction → ℕ → Option ℕ) → (ℕ → Direction → Bool) → ℕ → Direction → Type 0
Comes next goes x d = (y : ℕ) × (next d x ≡ Some y) × (goes y (opposite d) ≡ true)

-- a link is drawn where it goes either way
abbrev pub link_of : (Direction → ℕ → Option ℕ) → (ℕ → Direction → Bool) → ℕ → Direction → Bool
link_of next goes x d = goes x d || there (λ y. goes y (opposite d)) (next d x)

module _ (next : Direction → ℕ → Option ℕ) (goes : ℕ → Direction → Bool) where
  pub link_cases : (x : ℕ) (d : Direction) → link_of next goes x d ≡ true → (goes x d ≡ true) ⊎ ((y : ℕ) × (next d x ≡ Some y) × (goes y (opposite d) ≡ true))
  link_cases x d h = by (or_cases (goes x d) (there (λ y. goes y (opposite d)) (next d x)) h)
    where
      found : (o : Option ℕ) → next d x ≡ o → there (λ y. goes y (opposite d)) o ≡ true → Comes next goes x d
      found None e h = clash h refl
      found (Some y) e h = (y, e, h)

      by : (goes x d ≡ true) ⊎ (there (λ y. goes y (opposite d)) (next d x) ≡ true) → (goes x d ≡ true) ⊎ Comes next goes x d
      by (inl g) = inl g
      by (inr c) = inr (found (next d x) refl c)

  pub link_out : (x : ℕ) (d : Direction) → goes x d ≡ true → link_of next goes x d ≡ true
  link_out x d h = or_left (goes x d) (there (λ y. goes y (opposite d)) (next d x)) h

  pub link_in : (x : ℕ) (d : Direction) (y : ℕ) → next d x ≡ Some y → goes y (opposite d) ≡ true → link_of next goes x d ≡ true
  link_in x d y e h = or_right (goes x d) (there (λ y. goes y (opposite d)) (next d x)) (ap (there (λ y. goes y (opposite d))) e ∙ h)

module _ {size : ℕ} {next : Direction → ℕ → Option ℕ} {white : ℕ → Bool} {goes : ℕ → Direction → Bool} (B : Wired size next)
    (O : Oriented size next white goes) where
  abbrev link : ℕ → Direction → Bool
  link = link_of next goes

  -- what it draws are links
  pub oriented_links : Links size next white (link_of next goes)
  oriented_links =
      record {
        matched = λ x d h. matched x d (link_cases next goes x d h);
        at_white = λ x d h. at_white x d (link_cases next goes x d h);
        two = two;
      }
    where
      matched : (x : ℕ) (d : Direction) → (goes x d ≡ true) ⊎ Comes next goes x d → (y : ℕ) × (next d x ≡ Some y) × (link y (opposite d) ≡ true)
      matched x d (inl g) =
          let w = O.leads x d g in (w.0, w.1, link_in next goes w.0 (opposite d) x (B.back d x w.0 w.1) (rw (opposite-opposite d) g))
      matched x d (inr w) = (w.0, w.1, link_out next goes w.0 (opposite d) w.2)

      at_white : (x : ℕ) (d : Direction) → (goes x d ≡ true) ⊎ Comes next goes x d → white x ≡ true
      at_white x d (inl g) = (O.leads x d g).2
      at_white x d (inr w) =
          let v = O.leads w.0 (opposite d) w.2 in ap white (same_Some x v.0 (sym (B.back d x w.0 w.1) ∙ v.1)) ∙ v.3

      two : (x : ℕ) → x < size → white x ≡ true → degree (link x) ≡ 2
      two x h w =
          degree_is_two (link x) a.0 b.0 apart (link_out next goes x a.0 a.1) (link_in next goes x b.0 b.1 b.2 b.3)
          (λ c q. only c (link_cases next goes x c q))
        where
          a : (d : Direction) × (goes x d ≡ true)
          a = O.out x h w

          b : (d : Direction) × (y : ℕ) × (next d x ≡ Some y) × (goes y (opposite d) ≡ true)
          b = O.into x h w

          apart : a.0 ≡ b.0 → ⊥
          apart e = O.one_way x b.0 b.1 b.2 (rw e at a.1) b.3

          only : (c : Direction) → (goes x c ≡ true) ⊎ Comes next goes x c → (c ≡ a.0) ⊎ (c ≡ b.0)
          only c (inl g) = inl (O.out_one x c a.0 g a.1)
          only c (inr v) = inr (O.in_one x c b.0 v.0 b.1 v.1 v.2 b.2 b.3)

  -- with counts, links lead from s to every white cell
  module _ {s bound : ℕ} {Q : ℕ → ℕ → Type 0} (N : Counted size next white goes s bound Q) where
    counted_reach : (k x : ℕ) → x < size → white x ≡ true → Q x k → Reach next (link_of next goes) s x
    counted_reach zero x h w q = here (N.ends x q)
    counted_reach (suc k) x h w q =
        let a = O.out x h w in
        let v = O.leads x a.0 a.1 in
        along (counted_reach k v.0 (B.inside a.0 x v.0 v.1).1 v.3 (N.falls x a.0 v.0 k a.1 v.1 q))
        (link_in next goes v.0 (opposite a.0) x (B.back a.0 x v.0 v.1) (rw (opposite-opposite a.0) a.1)) (B.back a.0 x v.0 v.1)

    pub all_reached : (x : ℕ) → x < size → white x ≡ true → Reach next (link_of next goes) s x
    all_reached x h w = let v = N.has x h w in counted_reach v.0 x h w v.2

  -- a flow along given links, if these are the ones it draws
  module _ {given : ℕ → Direction → Bool} (L : Links size next white given) (drawn : (x : ℕ) (d : Direction) → given x d ≡ link_of next goes x d) where
    pub flow : Flow (go next) given goes
    flow =
        record {
          either = λ x d h. by x d (link_cases next goes x d (sym (drawn x d) ∙ h));
          out_one = O.out_one;
          in_one = λ x d e h k p q. O.in_one x d e (go next d x) (go next e x) (far B L x d h) p (far B L x e k) q;
        }
      where
        by : (x : ℕ) (d : Direction) → (goes x d ≡ true) ⊎ Comes next goes x d → (goes x d ≡ true) ⊎ (goes (go next d x) (opposite d) ≡ true)
        by x d (inl g) = inl g
        by x d (inr w) = inr (rw (go_is next d x w.0 w.1) w.2)

    pub distance : {s bound : ℕ} {Q : ℕ → ℕ → Type 0} → Counted size next white goes s bound Q → Distance (go next) goes s Q
    distance N =
        record {
          ends = N.ends;
          none_black = N.none_black;
          falls = λ x d k g q. N.falls x d (go next d x) k g (far B L x d (drawn x d ∙ link_out next goes x d g)) q;
        }
