-- How many clauses and elements each part has, by arithmetic: what the counting pass adds up without going through the inner loops. Assumes nothing.
use Prim.Native.Nat.{ℕ, zero, suc, ◌+◌, ◌*◌, ◌-◌}
use native.Mathlib.Omega.{arith}
use native.Mathlib.Nat.{suc-mul, mul-suc}
use native.Mathlib.Numerals.{add-one}
use borrow.Author.Tests.{eq-eqb, ne_eqb}
use lib.ListN.{length, length-append, length-map}
use mathlib.Core.Path.{◌≡◌, refl, sym, ◌∙◌, ap, subst}
use mathlib.Core.Bool.{Bool, true, false}
use mathlib.Core.List.Memᴰ
use mathlib.Core.List.{List, [], ◌∷◌, ◌++◌, map}
use Rattle.answers.specs.Lists.{◌∈◌, from, up_to, each, joined}
use Rattle.rules.specs.declared.Direction.TheVariants.{East as east}
use Rattle.rules.specs.Board.{Board}
use Rattle.encoder.specs.Variables.{Variable, Z, S, T, directions, opens, open_count, Neighbour, neighbours, out, outgoing, distances_at, counts_at, lower}
use Rattle.encoder.specs.Clauses.{plus, minus, Clause, not_both, pairs, or_any, east_south, touch, touching_at, one_more, count_step, cell_clauses, line_clauses}
use Rattle.encoder.specs.Clauses.{none_black, clue_parts, back, incoming, both_white, one_way, links_at, black_before, eastward, start_at, some_start}
use Rattle.encoder.specs.Clauses.{no_distance, not_ahead, nearer, from_one, nearer_each, distance_at, signed, written, pair_count, list_of, Sized}
use Rattle.answers.proofs.Elements.{of_up_to, length_from}
use Rattle.encoder.proofs.ClauseLists.{each_next, list_append}

pub pair-count : (n : ℕ) → pair_count n * 2 ≡ n * (n - 1)
pair-count zero = refl
pair-count (suc zero) = refl
pair-count (suc (suc n)) =
    let h = pair-count (suc n) in
    let e : suc n - 1 ≡ n = omega arith in
    let i : suc (suc n) - 1 ≡ suc n = omega arith in rw i (omega (arith, ap (λ k. suc n * k) e, suc-mul (suc n) (suc n), mul-suc (suc n) n))

module _ (b : Board) where
  written_long : (c : Clause) → length (written b c) ≡ suc (length c)
  written_long c = length-append (map (signed b) c) _ ∙ (let h = length-map c (signed b) in omega arith)

  pub sized_none : Sized b [] 0 0
  sized_none = record { clauses = refl; elements = refl }

  pub sized_append : {cs ds : List Clause} {n m e f : ℕ} → Sized b cs n e → Sized b ds m f → Sized b (cs ++ ds) (n + m) (e + f)
  sized_append {cs = cs} {ds = ds} p q =
      let i = p.clauses in
      let j = q.clauses in
      let k = p.elements in
      let l = q.elements in
      record {
        clauses = length-append cs ds ∙ omega arith;
        elements = ap length (list_append b cs ds) ∙ length-append (list_of b cs) (list_of b ds) ∙ omega arith;
      }

  sized_one : (c : Clause) {k : ℕ} → length c ≡ k → Sized b (c ∷ []) 1 (suc k)
  sized_one c e = record { clauses = refl; elements = length-append (written b c) [] ∙ omega (arith, written_long c) }

  sized_map : {A : Type 0} (f : A → Clause) (k : ℕ) → ((x : A) → length (f x) ≡ k) → (xs : List A) → Sized b (map f xs) (length xs) (length xs * suc k)
  sized_map f k h [] = record { clauses = refl; elements = omega arith }
  sized_map f k h (x ∷ xs) =
      let p = (sized_map f k h xs).elements in
      record {
        clauses = length-map (x ∷ xs) f;
        elements = length-append (written b (f x)) (each (map f xs) (written b)) ∙ omega (arith, written_long (f x), h x, suc-mul (length xs) (suc k));
      }

  sized_each : {A : Type 0} (f : A → List Clause) {n e : ℕ} (xs : List A) → ((x : A) → x ∈ xs → Sized b (f x) n e)
      → Sized b (each xs f) (length xs * n) (length xs * e)
  sized_each f [] h = record { clauses = omega arith; elements = omega arith }
  sized_each f {n} {e} (x ∷ xs) h =
      let r = sized_append (h x (Memᴰ.head refl)) (sized_each f xs (λ y m. h y (Memᴰ.tail m))) in
      let i = r.clauses in
      let j = r.elements in
      record { clauses = omega (arith, suc-mul (length xs) n); elements = omega (arith, suc-mul (length xs) e) }

  sized_pairs : (vs : List Variable) → Sized b (pairs vs) (pair_count (length vs)) (pair_count (length vs) * 3)
  sized_pairs [] = sized_none
  sized_pairs (v ∷ vs) =
      let r = sized_append (sized_map (not_both v) 2 (λ u. refl) vs) (sized_pairs vs) in
      let j = r.elements in
      record { clauses = r.clauses; elements = omega arith }

  pub sized_is : {cs : List Clause} {n m e f : ℕ} → n ≡ m → e ≡ f → Sized b cs n e → Sized b cs m f
  sized_is p q s = record { clauses = s.clauses ∙ p; elements = s.elements ∙ q }

  any_sized : (v : Variable) (vs : List Variable) {k : ℕ} → length vs ≡ k → Sized b (or_any v vs ∷ []) 1 (k + 2)
  any_sized v vs {k} e = let l : length (or_any v vs) ≡ suc k = ap suc (length-map vs plus ∙ e) in sized_is refl (omega arith) (sized_one (or_any v vs) l)

  -- the number of open neighbours of x, and of those to the east and south
  abbrev pub around : ℕ → ℕ
  around x = length (neighbours b x directions)

  abbrev pub after : ℕ → ℕ
  after x = length (neighbours b x east_south)

  -- 1. Touching
  pub touching_sized : (x : ℕ) → Sized b (touching_at b x) (after x) (after x * 3)
  touching_sized x = sized_map (touch x) 2 (λ y. refl) (neighbours b x east_south)

  -- 2. Clue lines, for a number n: past a cell that is not open, past an open one
  module _ (a n j c : ℕ) where
    pairs_sized : Sized b (pairs (counts_at a n (suc j))) (pair_count (suc n)) (pair_count (suc n) * 3)
    pairs_sized =
        let l : length (counts_at a n (suc j)) ≡ suc n = length-map (up_to (suc n)) _ ∙ length_from 0 (suc n) in
        sized_is (ap pair_count l) (ap (λ k. pair_count k * 3) l) (sized_pairs (counts_at a n (suc j)))

    past_shut : Sized b (each (up_to (suc n)) (count_step false a n j c)) (suc n) (suc n * 3)
    past_shut =
        let l = length_from 0 (suc n) in
        sized_is (omega arith) (omega arith) (sized_each (count_step false a n j c) {n = 1} {e = 3} (up_to (suc n)) (λ t m. sized_one _ refl))

    -- [−T(j,t) Zc T(j+1,t)] has four elements; what follows it too, but for t = n
    two : (t : ℕ) (l : Bool) {k : ℕ} → length (one_more l a j t c) ≡ k
        → Sized b ((minus (T a j t) ∷ plus (Z c) ∷ plus (T a (suc j) t) ∷ []) ∷ one_more l a j t c ∷ []) 2 (4 + suc k)
    two t l e = sized_append (sized_one (minus (T a j t) ∷ plus (Z c) ∷ plus (T a (suc j) t) ∷ []) refl) (sized_one (one_more l a j t c) e)

    past_open : Sized b (each (up_to (suc n)) (count_step true a n j c)) (suc n * 2) (n * 8 + 7)
    past_open =
        let l = length_from 0 n in
        sized_is (omega arith) (omega arith)
        (subst (λ cs. Sized b cs (length (up_to n) * 2 + 2) (length (up_to n) * 8 + 7)) (sym (each_next step 0 n) ∙ ap (λ k. each (up_to k) step) (add-one n))
        (sized_append (sized_each step (up_to n) below_n) (rw (eq-eqb (0 + n) n (omega arith)) (two (0 + n) true refl))))
      where
        step : ℕ → List Clause
        step t = count_step true a n j c t

        below_n : (t : ℕ) → t ∈ up_to n → Sized b (step t) 2 8
        below_n t m = let h = of_up_to n m in rw (ne_eqb t n (omega arith)) (two t false refl)

    pub cell_shut : (is_open : ℕ → Bool) → is_open c ≡ false
        → Sized b (cell_clauses is_open a n j c) (suc n + pair_count (suc n)) (suc n * 3 + pair_count (suc n) * 3)
    cell_shut is_open h = rw h (sized_is (omega arith) (omega arith) (sized_append past_shut (sized_append pairs_sized sized_none)))

    pub cell_open : (is_open : ℕ → Bool) → is_open c ≡ true
        → Sized b (cell_clauses is_open a n j c) (suc n * 2 + pair_count (suc n)) (n * 8 + 7 + pair_count (suc n) * 3)
    cell_open is_open h = rw h (sized_is (omega arith) (omega arith) (sized_append past_open (sized_append pairs_sized sized_none)))

  -- [T(0,0)], [−T(0,t)] for t = 1 to n, last [T(L,n)]
  pub clue_sized : (a n : ℕ) (cs : List ℕ) (is_open : ℕ → Bool) {m e : ℕ} → Sized b (line_clauses is_open a n 0 cs) m e
      → Sized b (joined (clue_parts is_open a n cs)) (n + 2 + m) (n * 2 + 4 + e)
  clue_sized a n cs is_open h =
      let l = length_from 1 n in
      sized_is (omega arith) (omega arith)
      (sized_append (sized_one _ refl)
      (sized_append (sized_map (none_black a) 1 (λ t. refl) (from 1 n)) (sized_append h (sized_append (sized_one _ refl) sized_none))))

  module _ (x : ℕ) where
    abbrev ys : List Neighbour
    ys = neighbours b x directions

    -- 3. Links
    pub links_sized : Sized b (links_at b x) (around x * 2 + 2 + pair_count (around x) * 2 + after x) (around x * 8 + 4 + pair_count (around x) * 6 + after x * 3)
    links_sized =
        let o = length-map ys (out x) in
        let i = length-map ys back in
        sized_is (omega (arith, ap pair_count o, ap pair_count i)) (omega (arith, ap pair_count o, ap pair_count i))
        (sized_append (sized_each (both_white x) {n = 2} {e = 6} ys (λ y m. sized_append (sized_one _ refl) (sized_one _ refl)))
        (sized_append (any_sized (Z x) (outgoing b x) o)
        (sized_append (sized_pairs (outgoing b x))
        (sized_append (any_sized (Z x) (incoming b x) i)
        (sized_append (sized_pairs (incoming b x))
        (sized_append (sized_map (one_way x) 2 (λ y. refl) (neighbours b x east_south)) sized_none))))))

    -- 4. Start
    pub start_sized : Sized b (start_at b x) (length (lower b x) + 2) (length (lower b x) * 3 + 5 + length (neighbours b x (east ∷ [])))
    start_sized =
        let es = neighbours b x (east ∷ []) in
        let e : length (eastward b x) ≡ suc (length es) = ap suc (length-map (map (out x) es) plus ∙ length-map es (out x)) in
        sized_is (omega arith) (omega arith)
        (sized_append (sized_one _ refl)
        (sized_append (sized_map (black_before x) 2 (λ y. refl) (lower b x)) (sized_append (sized_one (eastward b x) e) sized_none)))

    -- 5. Distance, with F open cells
    pub distance_sized : let f = open_count b in
        let k = length (from_one b) in Sized b (distance_at b x) (f + k + 3 + around x * k) (f * 4 + k * 3 + 8 + around x * (k * 4))
    distance_sized =
        let q : length (distances_at b x) ≡ open_count b = length-map (up_to (open_count b)) _ ∙ length_from 0 (open_count b) in
        let l = length_from 0 (open_count b) in
        sized_is (omega arith) (omega arith)
        (sized_append (any_sized (Z x) (distances_at b x) q)
        (sized_append (sized_map (no_distance x) 2 (λ k. refl) (up_to (open_count b)))
        (sized_append (sized_append (sized_one _ refl) (sized_one _ refl))
        (sized_append (sized_map (not_ahead x) 2 (λ k. refl) (from_one b))
        (sized_append (sized_each (nearer_each b x) ys (λ y m. sized_map (nearer x y) 3 (λ k. refl) (from_one b))) sized_none)))))

  -- [all S]
  pub some_start_sized : Sized b (some_start b ∷ []) 1 (open_count b + 1)
  some_start_sized = sized_is refl (omega arith) (sized_one (some_start b) (length-map (map (λ x. S x) (opens b)) plus ∙ length-map (opens b) (λ x. S x)))

  pub from_one_lem : length (from_one b) ≡ open_count b - 1
  from_one_lem = length_from 1 (open_count b - 1)
