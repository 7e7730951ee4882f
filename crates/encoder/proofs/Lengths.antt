-- How long the list is, for bounded boards: what the code counts fits. Assumes nothing.
use Prim.Native.Nat.{ℕ, suc, ◌+◌, ◌*◌, ◌-◌, ◌≤◌, ◌<◌, ◌^◌}
use native.Mathlib.Omega.{arith}
use native.Mathlib.Nat.{suc-mul, mul-le-mul, mul-le-mul_right}
use lib.Dec.{eqb}
use lib.IntN.{pos}
use lib.ListN.{length, length-append, length-map}
use mathlib.Core.Bool.{Bool, true, false}
use mathlib.Core.Path.{◌≡◌, refl}
use mathlib.Core.List.Memᴰ
use mathlib.Core.List.{List, [], ◌∷◌, ◌++◌, map}
use Rattle.answers.specs.Lists.{◌∈◌, from, up_to, each, joined}
use Rattle.rules.specs.declared.Direction.TheVariants.{East as east}
use Rattle.rules.specs.Board.{Clue, Board}
use Rattle.encoder.specs.Variables.{Variable, Z, S, Q, T, directions, opens, open_count, neighbours, out, outgoing, distances_at, counts_at, lower}
use Rattle.encoder.specs.Clauses.{plus, minus, Clause, not_both, pairs, or_any, east_south, touch, touching_at, one_more, count_step, cell_parts, cell_clauses}
use Rattle.encoder.specs.Clauses.{line_clauses, none_black, clue_parts, clue_clauses, back, incoming, both_white, one_way, link_parts, links_at}
use Rattle.encoder.specs.Clauses.{black_before, eastward, start_parts, start_at, some_start, no_distance, not_ahead, nearer, from_one, nearer_each, distance_parts}
use Rattle.encoder.specs.Clauses.{distance_at, families, clauses, signed, written, clause_list}
use Rattle.encoder.specs.Bounds.{BoundedBoard}
use Rattle.answers.proofs.Elements.{all_at, of_up_to, of_keep, length_from, keep-most, map-most}
use Rattle.encoder.proofs.Bounds.{neighbours-most, open_few}

-- the elements of clauses as they are written: the literals, and a 0 for each clause
abbrev elements : List Clause → ℕ
elements [] = 0
elements (c ∷ cs) = suc (length c) + elements cs

elements_append : (cs ds : List Clause) → elements (cs ++ ds) ≡ elements cs + elements ds
elements_append [] ds = omega arith
elements_append (c ∷ cs) ds = omega (arith, elements_append cs ds)

list_elements : (b : Board) (cs : List Clause) → length (each cs (written b)) ≡ elements cs
list_elements b [] = refl
list_elements b (c ∷ cs) =
    omega
    (arith, length-append (written b c) (each cs (written b)), length-append (map (signed b) c) (pos 0 ∷ []), length-map c (signed b), list_elements b cs)

-- at most n elements
record Few (n : ℕ) (cs : List Clause) : Type 0 where
  most : elements cs ≤ n

few_none : Few 0 []
few_none = record { most = omega arith }

few_one : (c : Clause) (n : ℕ) → length c ≤ n → Few (n + 1) (c ∷ [])
few_one c n h = record { most = omega arith }

few_append : {m n : ℕ} (cs ds : List Clause) → Few m cs → Few n ds → Few (m + n) (cs ++ ds)
few_append cs ds p q = let i = p.most in let j = q.most in record { most = omega (arith, elements_append cs ds) }

-- as many as there are, or more
few_more : {m n : ℕ} {cs : List Clause} → m ≤ n → Few m cs → Few n cs
few_more h p = let i = p.most in record { most = omega arith }

few_each : {A : Type 0} (f : A → List Clause) (xs : List A) (n m : ℕ) → length xs ≤ n → ((x : A) → x ∈ xs → Few m (f x)) → Few (n * m) (each xs f)
few_each f xs n m h k = few_more (mul-le-mul h (omega arith)) (go xs k)
  where
    go : {A : Type 0} {f : A → List Clause} (xs : List A) → ((x : A) → x ∈ xs → Few m (f x)) → Few (length xs * m) (each xs f)
    go [] k = few_more (omega arith) few_none
    go {f = f} (x ∷ xs) k =
        few_more (omega (arith, suc-mul (length xs) m)) (few_append (f x) (each xs f) (k x (Memᴰ.head refl)) (go xs (λ y o. k y (Memᴰ.tail o))))

few_map : {A : Type 0} (f : A → Clause) (xs : List A) (n m : ℕ) → length xs ≤ n → ((x : A) → length (f x) ≤ m) → Few (n * (m + 1)) (map f xs)
few_map f xs n m h k = few_more (mul-le-mul h (omega arith)) (go xs)
  where
    go : (xs : List _) → Few (length xs * (m + 1)) (map f xs)
    go [] = few_more (omega arith) few_none
    go (x ∷ xs) = let i = (go xs).most in let j = k x in record { most = omega (arith, suc-mul (length xs) (m + 1)) }

-- part by part
abbrev sum : List ℕ → ℕ
sum [] = 0
sum (n ∷ ns) = n + sum ns

abbrev PartsFew : List ℕ → List (List Clause) → Type 0
PartsFew [] [] = Unit
PartsFew [] (p ∷ ps) = ⊥
PartsFew (n ∷ ns) [] = ⊥
PartsFew (n ∷ ns) (p ∷ ps) = Few n p × PartsFew ns ps

few_joined : (ns : List ℕ) (ps : List (List Clause)) → PartsFew ns ps → Few (sum ns) (joined ps)
few_joined [] [] h = few_none
few_joined [] (p ∷ ps) h = absurd h
few_joined (n ∷ ns) [] h = absurd h
few_joined (n ∷ ns) (p ∷ ps) h = few_append p (joined ps) h.0 (few_joined ns ps h.1)

some_pairs : (vs : List Variable) (m : ℕ) → length vs ≤ m → Few (length vs * (m * 3)) (pairs vs)
some_pairs [] m h = few_more (omega arith) few_none
some_pairs (v ∷ vs) m h =
    few_more (omega (arith, suc-mul (length vs) (m * 3)))
    (few_append (map (not_both v) vs) (pairs vs) (few_map (not_both v) vs m 2 (omega arith) (λ u. omega arith)) (some_pairs vs m (omega arith)))

few_pairs : (vs : List Variable) (m : ℕ) → length vs ≤ m → Few (m * (m * 3)) (pairs vs)
few_pairs vs m h = few_more (mul-le-mul_right (m * 3) h) (some_pairs vs m h)

few_any : (v : Variable) (vs : List Variable) (n : ℕ) → length vs ≤ n → Few (n + 2) (or_any v vs ∷ [])
few_any v vs n h = few_more (omega arith) (few_one (or_any v vs) (n + 1) (omega (arith, length-map vs plus)))

module _ (b : Board) (bounded : BoundedBoard b) where
  few_opens : open_count b ≤ 2025
  few_opens = open_few bounded

  -- 1. Touching
  touching_few : (x : ℕ) → Few 6 (touching_at b x)
  touching_few x = few_map (touch x) (neighbours b x east_south) 2 2 (neighbours-most b x east_south) (λ y. omega arith)

  -- 2. Clue lines
  module _ (c : Clue) (line : length c.line ≤ 44) (number : c.number ≤ 44) where
    abbrev a : ℕ
    a = c.cell

    abbrev n : ℕ
    n = c.number

    past_few : (o : Bool) (j x t : ℕ) → Few 8 (count_step o a n j x t)
    past_few false j x t = few_more (omega arith) (few_one _ 2 (omega arith))
    past_few true j x t = by (eqb t n)
      where
        by : (l : Bool) → Few 8 ((minus (T a j t) ∷ plus (Z x) ∷ plus (T a (suc j) t) ∷ []) ∷ one_more l a j t x ∷ [])
        by true = record { most = omega arith }
        by false = record { most = omega arith }

    row-most : (j : ℕ) → length (counts_at a n j) ≤ 45
    row-most j = map-most (λ t. T a j t) (up_to (suc n)) 45 (omega (arith, length_from 0 (suc n)))

    cell_few : (j x : ℕ) → Few 6435 (cell_clauses b.is_open a n j x)
    cell_few j x =
        few_joined (360 ∷ 6075 ∷ []) (cell_parts b.is_open a n j x) (
          few_each (count_step (b.is_open x) a n j x) (up_to (suc n)) 45 8 (omega (arith, length_from 0 (suc n))) (λ t m. past_few (b.is_open x) j x t),
          (few_pairs (counts_at a n (suc j)) 45 (row-most (suc j)), tt),
        )

    line_few : (j : ℕ) (xs : List ℕ) → Few (length xs * 6435) (line_clauses b.is_open a n j xs)
    line_few j [] = few_none
    line_few j (x ∷ xs) =
        few_more (omega arith) (few_append (cell_clauses b.is_open a n j x) (line_clauses b.is_open a n (suc j) xs) (cell_few j x) (line_few (suc j) xs))

    clue_few : Few 283232 (clue_clauses b.is_open c)
    clue_few =
        few_joined (2 ∷ 88 ∷ 283140 ∷ 2 ∷ []) (clue_parts b.is_open a n c.line) (
          few_one _ 1 (omega arith),
          (
            few_map (none_black a) (from 1 n) 44 1 (omega (arith, length_from 1 n)) (λ t. omega arith),
            (few_more (omega arith) (line_few 0 c.line), (few_one _ 1 (omega arith), tt)),
          ),
        )

  -- 3. Links
  outgoing-most : (x : ℕ) → length (outgoing b x) ≤ 4
  outgoing-most x = map-most (out x) (neighbours b x directions) 4 (neighbours-most b x directions)

  incoming-most : (x : ℕ) → length (incoming b x) ≤ 4
  incoming-most x = map-most back (neighbours b x directions) 4 (neighbours-most b x directions)

  links_few : (x : ℕ) → Few 138 (links_at b x)
  links_few x =
      few_joined (24 ∷ 6 ∷ 48 ∷ 6 ∷ 48 ∷ 6 ∷ []) (link_parts b x) (
        few_each (both_white x) (neighbours b x directions) 4 6 (neighbours-most b x directions) (λ y m. record { most = omega arith }),
        (
          few_any (Z x) (outgoing b x) 4 (outgoing-most x),
          (
            few_pairs (outgoing b x) 4 (outgoing-most x),
            (
              few_any (Z x) (incoming b x) 4 (incoming-most x),
              (
                few_pairs (incoming b x) 4 (incoming-most x),
                (few_map (one_way x) (neighbours b x east_south) 2 2 (neighbours-most b x east_south) (λ y. omega arith), tt),
              ),
            ),
          ),
        ),
      )

  -- 4. Start
  start_few : (x : ℕ) → x ∈ opens b → Few 6081 (start_at b x)
  start_few x m =
      let i = of_up_to b.size (of_keep b.is_open (up_to b.size) m).0 in
      let ys = neighbours b x (east ∷ []) in
      few_joined (3 ∷ 6075 ∷ 3 ∷ []) (start_parts b x) (
        few_one _ 2 (omega arith),
        (
          few_map (black_before x) (lower b x) 2025 2 (omega (arith, keep-most b.is_open (up_to x), length_from 0 x, bounded.cells)) (λ y. omega arith),
          (few_one (eastward b x) 2 (omega (arith, length-map (map (out x) ys) plus, length-map ys (out x), neighbours-most b x (east ∷ []))), tt),
        ),
      )

  -- 5. Distance
  distance_few : (x : ℕ) → Few 46583 (distance_at b x)
  distance_few x =
      few_joined (2027 ∷ 6075 ∷ 6 ∷ 6075 ∷ 32400 ∷ []) (distance_parts b x) (
        few_any (Z x) (distances_at b x) 2025 (map-most (λ k. Q x k) (up_to (open_count b)) 2025 (omega (arith, length_from 0 (open_count b), few_opens))),
        (
          few_map (no_distance x) (up_to (open_count b)) 2025 2 (omega (arith, length_from 0 (open_count b), few_opens)) (λ k. omega arith),
          (
            record { most = omega arith },
            (
              few_map (not_ahead x) (from_one b) 2025 2 (omega (arith, length_from 1 (open_count b - 1), few_opens)) (λ k. omega arith),
              (
                few_each (nearer_each b x) (neighbours b x directions) 4 8100 (neighbours-most b x directions)
                    (λ y m. few_map (nearer x y) (from_one b) 2025 3 (omega (arith, length_from 1 (open_count b - 1), few_opens)) (λ k. omega arith)),
                tt,
              ),
            ),
          ),
        ),
      )

  clauses_few : Few 680483026 (clauses b)
  unfolding clauses
  clauses_few =
      few_more (omega arith) (few_joined (12150 ∷ 573544800 ∷ 279450 ∷ 12316051 ∷ 94330575 ∷ []) (families b) (
        few_each (touching_at b) (opens b) 2025 6 few_opens (λ x m. touching_few x),
        (
          few_each (clue_clauses b.is_open) b.clues 2025 283232 bounded.clues
              (λ c m. let (l, n) = all_at (λ (c : Clue). (length c.line ≤ 44) × (c.number ≤ 44)) bounded.short m in clue_few c l n),
          (
            few_each (links_at b) (opens b) 2025 138 few_opens (λ x m. links_few x),
            (
              few_append (some_start b ∷ []) (each (opens b) (start_at b))
                  (few_one (some_start b) 2025 (omega (arith, length-map (map (λ x. S x) (opens b)) plus, length-map (opens b) (λ x. S x), few_opens)))
                  (few_each (start_at b) (opens b) 2025 6081 few_opens start_few),
              (few_each (distance_at b) (opens b) 2025 46583 few_opens (λ x m. distance_few x), tt),
            ),
          ),
        ),
      ))

  pub short_list : length (clause_list b) < 2 ^ 30
  unfolding clause_list
  short_list = let h = clauses_few.most in omega (arith, list_elements b (clauses b))
