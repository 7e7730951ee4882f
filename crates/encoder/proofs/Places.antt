-- The places of the variables, and V, by arithmetic: what the code counts. Assumes nothing.
use Prim.Native.Nat.{ℕ, zero, suc, ◌+◌, ◌*◌, ◌≤◌, ◌<◌}
use native.Mathlib.Omega.{arith}
use lib.ListN.{length, length-append, length-map}
use mathlib.Core.Path.{◌≡◌, refl, sym, ◌∙◌, ap, subst}
use mathlib.Core.Bool.{Bool, true}
use Rattle.std.specs.Prelude.{Some}
use mathlib.Core.List.Memᴰ
use mathlib.Core.List.{List, [], ◌∷◌, ◌++◌, map, map-append, append_assoc, append-nil}
use Rattle.answers.specs.Lists.{Apart, from, up_to, each, joined, keep_step, keep}
use Rattle.rules.specs.declared.Direction.{Direction}
use Rattle.rules.specs.declared.Direction.TheVariants.{North as north, East as east, South as south, West as west}
use Rattle.rules.specs.Board.{Clue, Board}
use Rattle.rules.proofs.Boards.{Laws}
use Rattle.encoder.specs.Variables.{Variable, Z, S, E, Q, T, directions, opens, open_count, if_there, neighbours, out, outgoing, blacks, starts}
use Rattle.encoder.specs.Variables.{link_variables, distances_at, distances, counts_at, clue_counts, counts, letters, variables, variable_count, same}
use Rattle.encoder.specs.Variables.{place_step, place, lower, rank, earlier, links_below}
use Rattle.answers.proofs.Elements.{each_append, keep_append, length_from, length-each}
use Rattle.encoder.proofs.Distinct.{variables_apart}

-- 1. us stand before x in the list

pub record At {A : Type 0} (xs : List A) (x : A) (us : List A) : Type 0 where
  pub rest : List A
  pub is : xs ≡ us ++ (x ∷ rest)

pub at_head : {A : Type 0} (x : A) (xs : List A) → At (x ∷ xs) x []
at_head x xs = record { rest = xs; is = refl }

at_left : {A : Type 0} {xs : List A} {x : A} {us : List A} (ys : List A) → At xs x us → At (xs ++ ys) x us
at_left {x = x} {us = us} ys p = record { rest = p.rest ++ ys; is = ap (λ zs. zs ++ ys) p.is ∙ append_assoc us (x ∷ p.rest) ys }

pub at_right : {A : Type 0} {xs : List A} {x : A} {us : List A} (ys : List A) → At xs x us → At (ys ++ xs) x (ys ++ us)
at_right {x = x} {us = us} ys p = record { rest = p.rest; is = ap (λ zs. ys ++ zs) p.is ∙ sym (append_assoc ys us (x ∷ p.rest)) }

at_map : {A B : Type 0} (f : A → B) {xs : List A} {x : A} {us : List A} → At xs x us → At (map f xs) (f x) (map f us)
at_map f {x = x} {us = us} p = record { rest = map f p.rest; is = ap (map f) p.is ∙ map-append f us (x ∷ p.rest) }

at_each : {A B : Type 0} (f : A → List B) {xs : List A} {x : A} {us : List A} {v : B} {ws : List B} → At xs x us → At (f x) v ws
    → At (each xs f) v (each us f ++ ws)
at_each f {xs = xs} {x = x} {us = us} {v = v} {ws = ws} p q =
    subst (λ zs. At zs v (each us f ++ ws)) (sym (ap (λ zs. each zs f) p.is ∙ each_append f us (x ∷ p.rest)))
    (at_right (each us f) (at_left (each p.rest f) q))

at_keep : {A : Type 0} (t : A → Bool) {xs : List A} {x : A} {us : List A} → At xs x us → t x ≡ true → At (keep t xs) x (keep t us)
at_keep t {x = x} {us = us} p h =
    record { rest = keep t p.rest; is = ap (keep t) p.is ∙ keep_append t us (x ∷ p.rest) ∙ ap (λ k. keep t us ++ keep_step k x (keep t p.rest)) h }

at_from : (a n i : ℕ) → i < n → At (from a n) (a + i) (from a i)
at_from a zero i h = absurd (omega arith)
at_from a (suc n) zero h = let e : a + 0 ≡ a = omega arith in rw e (at_head a (from (suc a) n))
at_from a (suc n) (suc i) h = let e : a + suc i ≡ suc a + i = omega arith in rw e (at_right (a ∷ []) (at_from (suc a) n i (omega arith)))

at_up_to : (n k : ℕ) → k < n → At (up_to n) k (up_to k)
at_up_to n k h = let e : 0 + k ≡ k = omega arith in rw e at (at_from 0 n k h)

-- 2. The place is how many stand before, where no element is twice

place_at : (v : Variable) (us vs : List Variable) → Apart (us ++ (v ∷ vs)) → place v (us ++ (v ∷ vs)) ≡ length us
unfolding place
place_at v [] vs h = by (same v v)
  where
    by : (d : Dec (v ≡ v)) → place_step d (place v vs) ≡ 0
    by (yes e) = refl
    by (no n) = absurd (n refl)
place_at v (u ∷ us) vs h = by (same v u) (place_at v us vs h.1)
  where
    by : (d : Dec (v ≡ u)) → place v (us ++ (v ∷ vs)) ≡ length us → place_step d (place v (us ++ (v ∷ vs))) ≡ suc (length us)
    by (yes e) p = absurd (h.0 v (Memᴰ.append_right us (Memᴰ.head refl)) (sym e))
    by (no n) p = ap suc p

place_is : (vs : List Variable) (v : Variable) (us : List Variable) → Apart vs → At vs v us → place v vs ≡ length us
place_is vs v us h p = rw p.is (place_at v us p.rest (rw p.is at h))

-- 3. The letters

at_direction : (d : Direction) → At directions d (earlier d)
at_direction north = record { rest = east ∷ south ∷ west ∷ []; is = refl }
at_direction east = record { rest = south ∷ west ∷ []; is = refl }
at_direction south = record { rest = west ∷ []; is = refl }
at_direction west = record { rest = []; is = refl }

-- a row T(j,0) to T(j,n) has n + 1 variables; a clue (L + 1) times (n + 1)
row_long : (a n j : ℕ) → length (counts_at a n j) ≡ suc n
row_long a n j = length-map (up_to (suc n)) (λ t. T a j t) ∙ length_from 0 (suc n)

rows_long : (a n m : ℕ) → length (each (up_to m) (counts_at a n)) ≡ m * suc n
rows_long a n m = length-each (counts_at a n) (suc n) (up_to m) (row_long a n) ∙ ap (λ k. k * suc n) (length_from 0 m)

pub clue_long : (c : Clue) → length (clue_counts c) ≡ suc (length c.line) * suc c.number
clue_long c = rows_long c.cell c.number (suc (length c.line))

module _ (b : Board) where
  blacks_long : length (blacks b) ≡ open_count b
  blacks_long = length-map (opens b) (λ x. Z x)

  starts_long : length (starts b) ≡ open_count b
  starts_long = length-map (opens b) (λ x. S x)

  distances-at : (x : ℕ) → length (distances_at b x) ≡ open_count b
  distances-at x = length-map (up_to (open_count b)) (λ k. Q x k) ∙ length_from 0 (open_count b)

  distances_long : length (distances b) ≡ open_count b * open_count b
  distances_long = length-each (distances_at b) (open_count b) (opens b) distances-at

  -- the parts of the list of variables before a part of each letter
  after_z : (us : List Variable) → length (blacks b ++ us) ≡ open_count b + length us
  after_z us = length-append (blacks b) us ∙ ap (λ n. n + length us) blacks_long

  after_s : (us : List Variable) → length (blacks b ++ (starts b ++ us)) ≡ open_count b + open_count b + length us
  after_s us = let p = length-append (starts b) us in after_z (starts b ++ us) ∙ omega (arith, starts_long)

  after_e : (us : List Variable) → length (blacks b ++ (starts b ++ (link_variables b ++ us))) ≡ open_count b + open_count b + length (link_variables b) + length us
  after_e us = let p = length-append (link_variables b) us in after_s (link_variables b ++ us) ∙ omega arith

  after_q : (us : List Variable)
      → length (blacks b ++ (starts b ++ (link_variables b ++ (distances b ++ us))))
      ≡ open_count b + open_count b + length (link_variables b) + open_count b * open_count b + length us
  after_q us = let p = length-append (distances b) us in after_e (distances b ++ us) ∙ omega (arith, distances_long)

  -- V = 2F + A + F times F + the sum over clues
  pub total : variable_count b ≡ open_count b + open_count b + length (link_variables b) + open_count b * open_count b + length (counts b)
  unfolding variables
  total = after_q (counts b ++ []) ∙ (let e : length (counts b ++ []) ≡ length (counts b) = ap length (append-nil (counts b)) in omega arith)

  module _ (law : Laws b) where
    at_opens : (x : ℕ) → b.is_open x ≡ true → At (opens b) x (lower b x)
    at_opens x h = at_keep b.is_open (at_up_to b.size x (law.open_stays x h)) h

    pub place_z : (x : ℕ) → b.is_open x ≡ true → place (Z x) (variables b) ≡ rank b x
    unfolding variables
    place_z x h =
        place_is (joined (letters b)) (Z x) (map (λ x. Z x) (lower b x)) (variables_apart b law) (at_left _ (at_map (λ x. Z x) (at_opens x h)))
        ∙ length-map (lower b x) (λ x. Z x)

    pub place_s : (x : ℕ) → b.is_open x ≡ true → place (S x) (variables b) ≡ open_count b + rank b x
    unfolding variables
    place_s x h =
        let us = map (λ x. S x) (lower b x) in
        place_is (joined (letters b)) (S x) (blacks b ++ us) (variables_apart b law) (at_right (blacks b) (at_left _ (at_map (λ x. S x) (at_opens x h))))
        ∙ after_z us ∙ ap (λ n. open_count b + n) (length-map (lower b x) (λ x. S x))

    pub place_e : (x : ℕ) (d : Direction) (y : ℕ) → b.is_open x ≡ true → b.next d x ≡ Some y → b.is_open y ≡ true
        → place (E x d) (variables b) ≡ open_count b + open_count b + (links_below b x + length (neighbours b x (earlier d)))
    unfolding variables
    place_e x d y h e o =
        let before = neighbours b x (earlier d) ++ [] in
        let us = each (lower b x) (outgoing b) ++ map (out x) before in
        place_is (joined (letters b)) (E x d) (blacks b ++ (starts b ++ us)) (variables_apart b law)
        (at_right (blacks b)
        (at_right (starts b)
        (at_left _ (at_each (outgoing b) (at_opens x h) (at_map (out x) (at_each (λ d. if_there b d (b.next d x)) (at_direction d) one))))))
        ∙ after_s us
        ∙ ap (λ n. open_count b + open_count b + n)
        (length-append (each (lower b x) (outgoing b)) (map (out x) before)
        ∙ ap (λ n. links_below b x + n) (length-map before (out x) ∙ ap length (append-nil (neighbours b x (earlier d)))))
      where
        one : At (if_there b d (b.next d x)) (record { way = d; cell = y }) []
        one = rw (e, o) (at_head (record { way = d; cell = y }) [])

    pub place_q : (x k : ℕ) → b.is_open x ≡ true → k < open_count b
        → place (Q x k) (variables b) ≡ open_count b + open_count b + length (link_variables b) + (rank b x * open_count b + k)
    unfolding variables
    place_q x k h l =
        let us = each (lower b x) (distances_at b) in
        let vs = map (λ k. Q x k) (up_to k) in
        let p : length us ≡ rank b x * open_count b = length-each (distances_at b) (open_count b) (lower b x) distances-at in
        let q : length vs ≡ k = length-map (up_to k) (λ k. Q x k) ∙ length_from 0 k in
        place_is (joined (letters b)) (Q x k) (blacks b ++ (starts b ++ (link_variables b ++ (us ++ vs)))) (variables_apart b law)
        (at_right (blacks b)
        (at_right (starts b)
        (at_right (link_variables b) (at_left _ (at_each (distances_at b) (at_opens x h) (at_map (λ k. Q x k) (at_up_to (open_count b) k l)))))))
        ∙ after_e (us ++ vs) ∙ (let r = length-append us vs in omega arith)

    -- cs the clues before c
    pub place_t : (c : Clue) (cs : List Clue) (j t : ℕ) → At b.clues c cs → j ≤ length c.line → t ≤ c.number
        → place (T c.cell j t) (variables b)
        ≡ open_count b + open_count b + length (link_variables b) + open_count b * open_count b + (length (each cs clue_counts) + (j * suc c.number + t))
    unfolding variables
    place_t c cs j t m h k =
        let us = each (up_to j) (counts_at c.cell c.number) in
        let vs = map (λ t. T c.cell j t) (up_to t) in
        let q : length vs ≡ t = length-map (up_to t) (λ t. T c.cell j t) ∙ length_from 0 t in
        place_is (joined (letters b)) (T c.cell j t) (blacks b ++ (starts b ++ (link_variables b ++ (distances b ++ (each cs clue_counts ++ (us ++ vs))))))
        (variables_apart b law)
        (at_right (blacks b)
        (at_right (starts b)
        (at_right (link_variables b)
        (at_right (distances b)
        (at_left []
        (at_each clue_counts m
        (at_each (counts_at c.cell c.number) (at_up_to (suc (length c.line)) j (omega arith))
        (at_map (λ t. T c.cell j t) (at_up_to (suc c.number) t (omega arith))))))))))
        ∙ after_q (each cs clue_counts ++ (us ++ vs))
        ∙ (let r = length-append (each cs clue_counts) (us ++ vs) in let s = length-append us vs in omega (arith, rows_long c.cell c.number j))
