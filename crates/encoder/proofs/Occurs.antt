-- Every variable of the clauses is in the list. Assumes nothing.
use Prim.Native.Nat.{ℕ, suc, ◌+◌, ◌-◌, ◌≤◌, ◌<◌}
use native.Mathlib.Omega.{arith}
use lib.ListN.{length}
use lib.Dec.{eqb}
use borrow.Author.Tests.{eqb-false}
use mathlib.Core.Path.{◌≡◌, refl}
use mathlib.Core.Bool.{Bool, true, false}
use mathlib.Core.List.Memᴰ
use mathlib.Core.List.{List, [], ◌∷◌, map}
use Rattle.answers.specs.Lists.{All, ◌∈◌, from, up_to}
use Rattle.rules.specs.declared.Direction.{Direction}
use Rattle.rules.specs.declared.Direction.TheVariants.{East as east}
use Rattle.rules.specs.Directions.{opposite}
use Rattle.rules.specs.Board.{Clue, Board}
use Rattle.rules.proofs.Boards.{Laws}
use Rattle.encoder.specs.Variables.{Variable, Z, S, Q, T, directions, opens, open_count, Neighbour, neighbours, out, outgoing, distances_at, counts_at}
use Rattle.encoder.specs.Variables.{variables, lower}
use Rattle.encoder.specs.Clauses.{Literal, plus, minus, Clause, not_both, pairs, east_south, touch, touching_at, one_more, count_step, cell_parts, cell_clauses}
use Rattle.encoder.specs.Clauses.{line_clauses, none_black, clue_parts, clue_clauses, back, incoming, both_white, one_way, link_parts, links_at}
use Rattle.encoder.specs.Clauses.{black_before, start_parts, start_at, no_distance, not_ahead, nearer, from_one, nearer_each, distance_parts, distance_at}
use Rattle.encoder.specs.Clauses.{families, clauses}
use Rattle.answers.proofs.Elements.{all_append, all_at, all_each, all_map, all_joined, of_from, of_up_to, of_keep}
use Rattle.encoder.proofs.Neighbours.{of_opens, Beside, of_neighbours}
use Rattle.encoder.proofs.Known.{in_variables, in_e, in_t}

abbrev pub variable_of : Literal → Variable
variable_of (plus v) = v
variable_of (minus v) = v

-- all variables of the clause, and of the clauses, are in the list
abbrev pub Inside : List Variable → Clause → Type 0
Inside vs c = All (λ (l : Literal). variable_of l ∈ vs) c

abbrev pub Within : List Variable → List Clause → Type 0
Within vs cs = All (Inside vs) cs

pairs_within : (vs us : List Variable) → All (λ u. u ∈ vs) us → Within vs (pairs us)
pairs_within vs [] h = tt
pairs_within vs (u ∷ us) h =
    all_append (Inside vs) (map (not_both u) us) (pairs us) (all_map (Inside vs) (not_both u) us (λ v m. (h.0, (all_at (λ v. v ∈ vs) h.1 m, tt))))
    (pairs_within vs us h.1)

some_first : {x : ℕ} {xs : List ℕ} → x ∈ xs → 0 < length xs
some_first (Memᴰ.head e) = omega arith
some_first (Memᴰ.tail m) = omega arith

module _ (b : Board) (law : Laws b) where
  abbrev Fine : Clause → Type 0
  Fine c = Inside (variables b) c

  abbrev In : Variable → Type 0
  In v = v ∈ variables b

  any_fine : (vs : List Variable) → All In vs → Fine (map plus vs)
  any_fine vs h = all_map (λ (l : Literal). In (variable_of l)) plus vs (λ v m. all_at In h m)

  -- 2. Clue lines
  module _ (c : Clue) (m : c ∈ b.clues) where
    counts_in : (j : ℕ) → j ≤ length c.line → All In (counts_at c.cell c.number j)
    counts_in j h = all_map In (λ t. T c.cell j t) (up_to (suc c.number)) (λ t n. let l = of_up_to (suc c.number) n in in_t b law m j t h (omega arith))

    past_fine : (j t x : ℕ) (o : Bool) → b.is_open x ≡ o → j < length c.line → t ≤ c.number → Within (variables b) (count_step o c.cell c.number j x t)
    past_fine j t x false e h k = ((in_t b law m j t (omega arith) k, (in_t b law m (suc j) t h k, tt)), tt)
    past_fine j t x true e h k = ((now, (z, (in_t b law m (suc j) t h k, tt))), (by (eqb t c.number) refl, tt))
      where
        now : In (T c.cell j t)
        now = in_t b law m j t (omega arith) k

        z : In (Z x)
        z = in_variables b law (Z x) e

        by : (l : Bool) → eqb t c.number ≡ l → Fine (one_more l c.cell j t x)
        by true q = (now, (z, tt))
        by false q = let n : t ≡ c.number → ⊥ = eqb-false t c.number q in (now, (z, (in_t b law m (suc j) (suc t) h (omega arith), tt)))

    line_fine : (j : ℕ) (xs : List ℕ) → j + length xs ≡ length c.line → Within (variables b) (line_clauses b.is_open c.cell c.number j xs)
    line_fine j [] e = tt
    line_fine j (x ∷ xs) e =
        all_append Fine (cell_clauses b.is_open c.cell c.number j x) (line_clauses b.is_open c.cell c.number (suc j) xs)
        (all_joined Fine (cell_parts b.is_open c.cell c.number j x) (
          all_each Fine (count_step (b.is_open x) c.cell c.number j x) (up_to (suc c.number))
              (λ t n. let l = of_up_to (suc c.number) n in past_fine j t x (b.is_open x) refl (omega arith) (omega arith)),
          (pairs_within (variables b) (counts_at c.cell c.number (suc j)) (counts_in (suc j) (omega arith)), tt),
        ))
        (line_fine (suc j) xs (omega arith))

    clue_fine : Within (variables b) (clue_clauses b.is_open c)
    clue_fine =
        all_joined Fine (clue_parts b.is_open c.cell c.number c.line) (
          ((in_t b law m 0 0 (omega arith) (omega arith), tt), tt),
          (
            all_map Fine (none_black c.cell) (from 1 c.number)
                (λ t n. let r = of_from 1 c.number n in (in_t b law m 0 t (omega arith) (omega arith), tt)),
            (line_fine 0 c.line (omega arith), (((in_t b law m (length c.line) c.number (omega arith) (omega arith), tt), tt), tt)),
          ),
        )

  -- the families of an open cell
  module _ {x : ℕ} (m : x ∈ opens b) where
    x_open : b.is_open x ≡ true
    x_open = of_opens b m

    z : In (Z x)
    z = in_variables b law (Z x) x_open

    s : In (S x)
    s = in_variables b law (S x) x_open

    q : (k : ℕ) → k < open_count b → In (Q x k)
    q k h = in_variables b law (Q x k) (x_open, h)

    beside : (ds : List Direction) (y : Neighbour) → y ∈ neighbours b x ds → Beside b x y
    beside ds y n = (of_neighbours b x ds y n).1

    zy : (ds : List Direction) (y : Neighbour) → y ∈ neighbours b x ds → In (Z y.cell)
    zy ds y n = in_variables b law (Z y.cell) (beside ds y n).opened

    out_in : (ds : List Direction) (y : Neighbour) → y ∈ neighbours b x ds → In (out x y)
    out_in ds y n = in_e b law x y x_open (beside ds y n)

    back_in : (ds : List Direction) (y : Neighbour) → y ∈ neighbours b x ds → In (back y)
    back_in ds y n =
        let k = beside ds y n in
        in_e b law y.cell (record { way = opposite y.way; cell = x }) k.opened
        (record { leads = law.wired.back y.way x y.cell k.leads; opened = x_open })

    outgoing_in : All In (outgoing b x)
    outgoing_in = all_map In (out x) (neighbours b x directions) (out_in directions)

    incoming_in : All In (incoming b x)
    incoming_in = all_map In back (neighbours b x directions) (back_in directions)

    -- 1. Touching
    touching_fine : Within (variables b) (touching_at b x)
    touching_fine = all_map Fine (touch x) (neighbours b x east_south) (λ y n. (z, (zy east_south y n, tt)))

    -- 3. Links
    links_fine : Within (variables b) (links_at b x)
    links_fine =
        all_joined Fine (link_parts b x) (
          all_each Fine (both_white x) (neighbours b x directions)
              (λ y n. ((out_in directions y n, (z, tt)), ((out_in directions y n, (zy directions y n, tt)), tt))),
          (
            ((z, any_fine (outgoing b x) outgoing_in), tt),
            (
              pairs_within (variables b) (outgoing b x) outgoing_in,
              (
                ((z, any_fine (incoming b x) incoming_in), tt),
                (
                  pairs_within (variables b) (incoming b x) incoming_in,
                  (all_map Fine (one_way x) (neighbours b x east_south) (λ y n. (out_in east_south y n, (back_in east_south y n, tt))), tt),
                ),
              ),
            ),
          ),
        )

    -- 4. Start
    start_fine : Within (variables b) (start_at b x)
    start_fine =
        all_joined Fine (start_parts b x) (
          ((s, (z, tt)), tt),
          (
            all_map Fine (black_before x) (lower b x) (λ y n. (s, (in_variables b law (Z y) (of_keep b.is_open (up_to x) n).1, tt))),
            (((s, any_fine (map (out x) (neighbours b x (east ∷ []))) (all_map In (out x) (neighbours b x (east ∷ [])) (out_in (east ∷ [])))), tt), tt),
          ),
        )

    -- 5. Distance
    distance_fine : Within (variables b) (distance_at b x)
    distance_fine =
        let first : 0 < open_count b = some_first m in
        all_joined Fine (distance_parts b x) (
          ((z, any_fine (distances_at b x) (all_map In (λ k. Q x k) (up_to (open_count b)) (λ k n. q k (of_up_to (open_count b) n)))), tt),
          (
            all_map Fine (no_distance x) (up_to (open_count b)) (λ k n. (z, (q k (of_up_to (open_count b) n), tt))),
            (
              ((s, (q 0 first, tt)), ((s, (q 0 first, tt)), tt)),
              (
                all_map Fine (not_ahead x) (from_one b) (λ k n. let r = of_from 1 (open_count b - 1) n in (s, (q k (omega arith), tt))),
                (
                  all_each Fine (nearer_each b x) (neighbours b x directions) (λ y i. all_map Fine (nearer x y) (from_one b) (λ k n.
                      let r = of_from 1 (open_count b - 1) n in
                      let z = in_variables b law (Q y.cell (k - 1)) ((beside directions y i).opened, omega arith) in
                      (out_in directions y i, (q k (omega arith), (z, tt))))),
                  tt,
                ),
              ),
            ),
          ),
        )

  pub clauses_within : Within (variables b) (clauses b)
  unfolding clauses
  clauses_within =
      all_joined Fine (families b) (
        all_each Fine (touching_at b) (opens b) (λ x m. touching_fine m),
        (
          all_each Fine (clue_clauses b.is_open) b.clues clue_fine,
          (
            all_each Fine (links_at b) (opens b) (λ x m. links_fine m),
            (
              (any_fine (map (λ x. S x) (opens b)) (all_map In (λ x. S x) (opens b) (λ x m. s m)), all_each Fine (start_at b) (opens b) (λ x m. start_fine m)),
              (all_each Fine (distance_at b) (opens b) (λ x m. distance_fine m), tt),
            ),
          ),
        ),
      )
