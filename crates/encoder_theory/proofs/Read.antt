-- What the clauses of a board say of a valuation that makes them true: families 1, 3, 4 and 5. Assumes nothing.
use Prim.Native.Nat.{ℕ, suc, ◌-◌, ◌<◌}
use native.Mathlib.Omega.{arith}
use mathlib.Core.Path.{◌≡◌, refl, sym, ◌∙◌, ap}
use mathlib.Core.Bool.{Bool, true, false, not, ◌&&◌}
use Rattle.std.specs.Prelude.{Some}
use Rattle.std.proofs.lemmas.Option.{same_Some}
use mathlib.Core.List.Memᴰ
use mathlib.Core.List.{List, [], ◌∷◌, map}
use Rattle.answers.specs.First.{Least}
use Rattle.answers.specs.Lists.{All, ◌∈◌, up_to}
use Rattle.answers.proofs.Bools.{clash, off}
use Rattle.answers.proofs.First.{one_least}
use Rattle.rules.specs.declared.Direction.{Direction}
use Rattle.rules.specs.declared.Direction.TheVariants.{North as north, East as east, South as south, West as west}
use Rattle.rules.specs.Directions.{opposite}
use Rattle.rules.specs.Board.{Clue, Board}
use Rattle.rules.specs.Drawing.{white}
use Rattle.rules.proofs.Boards.{Laws}
use Rattle.rules_theory.proofs.Directions.{opposite-opposite, opposite_injective}
use Rattle.encoder.specs.Variables.{Variable, Z, S, E, Q, directions, opens, open_count, neighbours, out, outgoing, distances_at, lower}
use Rattle.encoder.specs.Clauses.{plus, minus, east_south, touch, touching_at, clue_clauses, back, incoming, both_white, one_way, link_parts, links_at, clauses}
use Rattle.encoder.specs.Clauses.{black_before, start_parts, start_at, no_distance, not_ahead, nearer, from_one, nearer_each, distance_parts, distance_at, families}
use Rattle.answers.proofs.Elements.{each_at, map_at, joined_all, in_from, in_up_to, of_up_to, in_keep}
use Rattle.encoder.proofs.Neighbours.{in_opens, in_directions, of_neighbours, in_neighbours}
use Rattle.encoder.proofs.Distinct.{e_way}
use Rattle.encoder_theory.specs.Valuations.{Sat, Holds}
use Rattle.encoder_theory.proofs.Oriented.{Oriented, Counted, Sent}
use Rattle.encoder_theory.proofs.Views.{unit-minus, next-minus, next-plus, not-both, implies, some_plus, at_most_one}
use Rattle.encoder_theory.proofs.Valuations.{Proper}

pub white_of : (b : Board) (black : ℕ → Bool) (x : ℕ) → b.is_open x ≡ true → black x ≡ false → white b black x ≡ true
white_of b black x h k = rw (h, k)

pub of_white : (b : Board) (black : ℕ → Bool) (x : ℕ) → white b black x ≡ true → (b.is_open x ≡ true) × (black x ≡ false)
of_white b black x h = by (b.is_open x) (black x) h
  where
    by : (o c : Bool) → o && not c ≡ true → (o ≡ true) × (c ≡ false)
    by true true h = clash h refl
    by true false h = (refl, refl)
    by false c h = clash h refl

-- what holds of each cell and its east and south neighbour, and then of the neighbour and the cell, holds in every direction
either_way : {b : Board} → Laws b → (P : Direction → ℕ → ℕ → Type 0) → ((d : Direction) → d ∈ east_south → (x y : ℕ) → b.next d x ≡ Some y → P d x y)
    → ((d : Direction) (x y : ℕ) → P (opposite d) y x → P d x y)
    → (d : Direction) (x y : ℕ) → b.next d x ≡ Some y → P d x y
either_way law P f turned north x y e = turned north x y (f south (Memᴰ.tail (Memᴰ.head refl)) y x (law.wired.back north x y e))
either_way law P f turned east x y e = f east (Memᴰ.head refl) x y e
either_way law P f turned south x y e = f south (Memᴰ.tail (Memᴰ.head refl)) x y e
either_way law P f turned west x y e = turned west x y (f east (Memᴰ.head refl) y x (law.wired.back west x y e))

module _ (b : Board) (law : Laws b) (w : Variable → Bool) (proper : Proper b w) (holds : Holds w (clauses b)) where
  all_families : All (Holds w) (families b)
  unfolding clauses
  all_families = joined_all (Sat w) (families b) holds

  abbrev black : ℕ → Bool
  black x = w (Z x)

  abbrev bright : ℕ → Bool
  bright = white b black

  abbrev goes : ℕ → Direction → Bool
  goes x d = w (E x d)

  -- the parts of a family at an open cell, and the clauses of a clue
  links-at : (x : ℕ) → b.is_open x ≡ true → All (Holds w) (link_parts b x)
  links-at x h = joined_all (Sat w) (link_parts b x) (each_at (Sat w) (links_at b) all_families.1.1.0 (in_opens b law h))

  start-at : (x : ℕ) → b.is_open x ≡ true → All (Holds w) (start_parts b x)
  start-at x h = joined_all (Sat w) (start_parts b x) (each_at (Sat w) (start_at b) all_families.1.1.1.0.1 (in_opens b law h))

  distance-at : (x : ℕ) → b.is_open x ≡ true → All (Holds w) (distance_parts b x)
  distance-at x h = joined_all (Sat w) (distance_parts b x) (each_at (Sat w) (distance_at b) all_families.1.1.1.1.0 (in_opens b law h))

  pub clue-at : (c : Clue) → c ∈ b.clues → Holds w (clue_clauses b.is_open c)
  clue-at c m = each_at (Sat w) (clue_clauses b.is_open) all_families.1.0 m

  -- an open neighbour in its list
  beside : (x : ℕ) (d : Direction) (y : ℕ) (ds : List Direction) → d ∈ ds → b.next d x ≡ Some y → b.is_open y ≡ true
      → record { way = d; cell = y } ∈ neighbours b x ds
  beside x d y ds m e h = in_neighbours b x ds (record { way = d; cell = y }) m (record { leads = e; opened = h })

  -- 1. Touching
  touch_at : (d : Direction) → d ∈ east_south → (x y : ℕ) → b.next d x ≡ Some y → w (Z x) ≡ true → w (Z y) ≡ true → ⊥
  touch_at d m x y e h k =
      not-both w (Z x) (Z y)
      (map_at (Sat w) (touch x) (each_at (Sat w) (touching_at b) all_families.0 (in_opens b law (proper (Z x) h)))
      (beside x d y east_south m e (proper (Z y) k)))
      h k

  pub untouched : (d : Direction) (x y : ℕ) → b.next d x ≡ Some y → w (Z x) ≡ true → w (Z y) ≡ true → ⊥
  untouched = either_way law (λ d x y. w (Z x) ≡ true → w (Z y) ≡ true → ⊥) touch_at (λ d x y f h k. f k h)

  -- 3. Links: one way out, one way in
  leads : (x : ℕ) (d : Direction) → goes x d ≡ true → (y : ℕ) × (b.next d x ≡ Some y) × (bright x ≡ true) × (bright y ≡ true)
  leads x d h =
      let (o, (y, e, p)) = proper (E x d) h in
      let c = each_at (Sat w) (both_white x) (links-at x o).0 (beside x d y directions (in_directions d) e p) in (
        y,
        e,
        white_of b black x o (off (w (Z x)) (not-both w (E x d) (Z x) c.0 h)),
        white_of b black y p (off (w (Z y)) (not-both w (E x d) (Z y) c.1.0 h)),
      )

  way_out : (x : ℕ) → bright x ≡ true → (d : Direction) × (goes x d ≡ true)
  way_out x h =
      let o = of_white b black x h in
      let r = some_plus w (outgoing b x) (next-plus w (Z x) (map plus (outgoing b x)) (links-at x o.0).1.0.0 o.1) in
      let q = Memᴰ.of_map (out x) (neighbours b x directions) r.1 in
      (q.0.way, ap w q.2 ∙ r.2)

  way_in : (x : ℕ) → bright x ≡ true → (d : Direction) × (y : ℕ) × (b.next d x ≡ Some y) × (goes y (opposite d) ≡ true)
  way_in x h =
      let o = of_white b black x h in
      let r = some_plus w (incoming b x) (next-plus w (Z x) (map plus (incoming b x)) (links-at x o.0).1.1.1.0.0 o.1) in
      let q = Memᴰ.of_map back (neighbours b x directions) r.1 in
      (q.0.way, q.0.cell, (of_neighbours b x directions q.0 q.1).1.leads, ap w q.2 ∙ r.2)

  in_out : (x : ℕ) (d : Direction) → goes x d ≡ true → E x d ∈ outgoing b x
  in_out x d h = let (o, (y, e, p)) = proper (E x d) h in Memᴰ.map (out x) (beside x d y directions (in_directions d) e p)

  out_one : (x : ℕ) (d e : Direction) → goes x d ≡ true → goes x e ≡ true → d ≡ e
  out_one x d e h k = e_way x x d e (at_most_one w (links-at x (proper (E x d) h).0).1.1.0 (in_out x d h) (in_out x e k) h k)

  -- the cell that a way in leads to is open
  end_open : (x : ℕ) (d : Direction) (y : ℕ) → b.next d x ≡ Some y → goes y (opposite d) ≡ true → b.is_open x ≡ true
  end_open x d y e h = let (o, (z, f, p)) = proper (E y (opposite d)) h in ap b.is_open (same_Some x z (sym (law.wired.back d x y e) ∙ f)) ∙ p

  in_in : (x : ℕ) (d : Direction) (y : ℕ) → b.next d x ≡ Some y → goes y (opposite d) ≡ true → E y (opposite d) ∈ incoming b x
  in_in x d y e h = Memᴰ.map back (beside x d y directions (in_directions d) e (proper (E y (opposite d)) h).0)

  in_one : (x : ℕ) (d e : Direction) (y z : ℕ) → b.next d x ≡ Some y → goes y (opposite d) ≡ true → b.next e x ≡ Some z → goes z (opposite e) ≡ true → d ≡ e
  in_one x d e y z p h q k =
      opposite_injective d e
      (e_way y z (opposite d) (opposite e) (at_most_one w (links-at x (end_open x d y p h)).1.1.1.1.0 (in_in x d y p h) (in_in x e z q k) h k))

  one_way_at : (d : Direction) → d ∈ east_south → (x y : ℕ) → b.next d x ≡ Some y → goes x d ≡ true → goes y (opposite d) ≡ true → ⊥
  one_way_at d m x y e h k =
      not-both w (E x d) (E y (opposite d))
      (map_at (Sat w) (one_way x) (links-at x (proper (E x d) h).0).1.1.1.1.1.0 (beside x d y east_south m e (proper (E y (opposite d)) k).0)) h k

  one_way_lem : (d : Direction) (x y : ℕ) → b.next d x ≡ Some y → goes x d ≡ true → goes y (opposite d) ≡ true → ⊥
  one_way_lem = either_way law (λ d x y. goes x d ≡ true → goes y (opposite d) ≡ true → ⊥) one_way_at (λ d x y f h k. f k (rw (opposite-opposite d) h))

  oriented : Oriented b.size b.next bright goes
  oriented =
      record { leads = leads; out = λ x l h. way_out x h; out_one = out_one; into = λ x l h. way_in x h; in_one = in_one; one_way = λ x d y. one_way_lem d x y }

  -- 4. Start: there is one, it is the first white cell, and the loop leaves it eastward
  pub some_start : (s : ℕ) × (w (S s) ≡ true)
  some_start =
      let r = some_plus w (map (λ x. S x) (opens b)) all_families.1.1.1.0.0 in
      let q = Memᴰ.of_map (λ x. S x) (opens b) r.1 in
      (q.0, ap w q.2 ∙ r.2)

  pub start_first : (s : ℕ) → w (S s) ≡ true → Least (white b (λ x. w (Z x))) b.size s
  start_first s h =
      let o = proper (S s) h in
      let p = start-at s o in
      record {
        below = law.open_stays s o;
        holds = white_of b black s o (off (w (Z s)) (not-both w (S s) (Z s) p.0.0 h));
        first = λ k l. before k l p.1.0;
      }
    where
      before : (k : ℕ) → k < s → Holds w (map (black_before s) (lower b s)) → bright k ≡ false
      before k l p = by (b.is_open k) refl
        where
          by : (t : Bool) → b.is_open k ≡ t → t && not (w (Z k)) ≡ false
          by true e = ap not (implies w (S s) (Z k) (map_at (Sat w) (black_before s) p (in_keep b.is_open (in_up_to s k l) e)) h)
          by false e = refl

  start_east : (s : ℕ) → w (S s) ≡ true → goes s east ≡ true
  start_east s h =
      let ys = neighbours b s (east ∷ []) in
      let r = some_plus w (map (out s) ys) (next-minus w (S s) (map plus (map (out s) ys)) (start-at s (proper (S s) h)).1.1.0.0 h) in
      let q = Memᴰ.of_map (out s) ys r.1 in
      ap (λ d. w (E s d)) (sym (Memᴰ.eq_of_singleton (of_neighbours b s (east ∷ []) q.0 q.1).0)) ∙ ap w q.2 ∙ r.2

  pub start_is : (s x : ℕ) → w (S s) ≡ true → w (S x) ≡ true → x ≡ s
  start_is s x h k = one_least (start_first x k) (start_first s h)

  -- 5. Distance
  counted : (s : ℕ) → w (S s) ≡ true → Counted b.size b.next bright goes s (open_count b) (λ x k. w (Q x k) ≡ true)
  counted s h =
      record { has = has; begins = implies w (S s) (Q s 0) (distance-at s (proper (S s) h)).1.1.0.0 h; ends = ends; none_black = none_black; falls = falls }
    where
      has : (x : ℕ) → x < b.size → bright x ≡ true → (k : ℕ) × (k < open_count b) × (w (Q x k) ≡ true)
      has x l e =
          let o = of_white b black x e in
          let r = some_plus w (distances_at b x) (next-plus w (Z x) (map plus (distances_at b x)) (distance-at x o.0).0.0 o.1) in
          let q = Memᴰ.of_map (λ k. Q x k) (up_to (open_count b)) r.1 in
          (q.0, of_up_to (open_count b) q.1, ap w q.2 ∙ r.2)

      ends : (x : ℕ) → w (Q x 0) ≡ true → x ≡ s
      ends x q = start_is s x h (by (w (S x)) refl)
        where
          by : (t : Bool) → w (S x) ≡ t → w (S x) ≡ true
          by true e = e
          by false e = clash q (unit-minus w (Q x 0) (next-plus w (S x) (minus (Q x 0) ∷ []) (distance-at x (proper (Q x 0) q).0).1.1.0.1.0 e))

      -- k + 1 is one of 1 to F − 1
      in_one : (x k : ℕ) → w (Q x (suc k)) ≡ true → suc k ∈ from_one b
      in_one x k q = let l = (proper (Q x (suc k)) q).1 in in_from 1 (open_count b - 1) (suc k) (omega arith) (omega arith)

      none_black : (k : ℕ) → w (Q s (suc k)) ≡ true → ⊥
      none_black k q = not-both w (S s) (Q s (suc k)) (map_at (Sat w) (not_ahead s) (distance-at s (proper (S s) h)).1.1.1.0 (in_one s k q)) h q

      falls : (x : ℕ) (d : Direction) (y k : ℕ) → goes x d ≡ true → b.next d x ≡ Some y → w (Q x (suc k)) ≡ true → w (Q y k) ≡ true
      falls x d y k g e q =
          let (o, (z, f, p)) = proper (E x d) g in
          let r : b.is_open y ≡ true = ap b.is_open (same_Some y z (sym e ∙ f)) ∙ p in
          let i : suc k - 1 ≡ k = omega arith in
          let to-y = each_at (Sat w) (nearer_each b x) (distance-at x o).1.1.1.1.0 (beside x d y directions (in_directions d) e r) in
          let c = map_at (Sat w) (nearer x (record { way = d; cell = y })) to-y (in_one x k q) in
          ap (λ n. w (Q y n)) (sym i)
          ∙ implies w (Q x (suc k)) (Q y (suc k - 1)) (next-minus w (E x d) (minus (Q x (suc k)) ∷ plus (Q y (suc k - 1)) ∷ []) c g) q

  -- a black cell has no distance
  pub black_nowhere : (x k : ℕ) → b.is_open x ≡ true → k < open_count b → w (Z x) ≡ true → w (Q x k) ≡ false
  black_nowhere x k o l z = off (w (Q x k)) (not-both w (Z x) (Q x k) (map_at (Sat w) (no_distance x) (distance-at x o).1.0 (in_up_to (open_count b) k l)) z)

  pub sent : (s : ℕ) → w (S s) ≡ true → Sent b.size b.next (white b (λ x. w (Z x))) s (open_count b) (λ x d. w (E x d)) (λ x k. w (Q x k) ≡ true)
  sent s h = record { oriented = oriented; eastward = start_east s h; counted = counted s h }
