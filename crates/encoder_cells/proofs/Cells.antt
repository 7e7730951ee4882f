-- The clauses of an open cell by numbers are those of document 01, family by family. Assumes nothing.
use Prim.Native.Nat.{ℕ, zero, suc, ◌+◌, ◌-◌, ◌<◌}
use native.Mathlib.Omega.{arith}
use native.Mathlib.Numerals.{add-one}
use lib.IntN.{ℤ, pos, neg_ℤ}
use mathlib.Core.Path.{◌≡◌, refl, sym, ◌∙◌, ap}
use mathlib.Core.Bool.{Bool, true, false}
use Rattle.std.specs.Prelude.{Option, None, Some}
use mathlib.Core.List.{List, [], ◌∷◌, ◌++◌, map, append_assoc, append-nil}
use Rattle.rules.specs.declared.Direction.{Direction}
use Rattle.rules.specs.declared.Direction.TheVariants.{North as north, East as east, South as south, West as west}
use Rattle.rules.specs.Board.{Board}
use Rattle.rules.proofs.Boards.{Laws}
use Rattle.answers.specs.Lists.{up_to, each, joined}
use Rattle.encoder.specs.Variables.{Variable, Z, S, Q, directions, open_count, Neighbour, if_open, if_there, neighbours, out, distances_at, number, lower}
use Rattle.encoder.specs.Variables.{rank, at_cell}
use Rattle.encoder.specs.Clauses.{plus, not_both, pairs, or_any, east_south, touch, touching_at, back, both_white, one_way, link_parts, links_at, black_before, eastward}
use Rattle.encoder.specs.Clauses.{start_parts, start_at, no_distance, not_ahead, nearer, from_one, nearer_each, distance_parts, distance_at, signed, written, list_of}
use Rattle.answers.proofs.Elements.{each_append}
use Rattle.encoder.proofs.Neighbours.{Beside}
use Rattle.encoder.proofs.Places.{place_z}
use Rattle.encoder.proofs.ClauseLists.{each_next, each_shift, each_cell, at_open, at_shut, rank_open, rank_shut, list_append}
use Rattle.encoder.proofs.ClauseLists.{list_joined, list_each, list_map, number_q}
use Rattle.encoder_shapes.specs.Shapes.{not_both as not_pair, implies, or_not, both_imply, each_implies, or_at_least_one, each_not_both}
use Rattle.encoder_numbers.specs.declared.NeighbourNumbers.{NeighbourNumbers}
use Rattle.encoder_cells.specs.Cell as cell
use Rattle.encoder_cells.specs.Cell.{literal_if_present, not_both_if_present, any_parts, pair_parts}
use Rattle.encoder_numbers.specs.Numbered.{no_neighbour, neighbour_numbers_to, neighbour_numbers_if, neighbour_numbers_of, cell_numbers_of}

-- 1. What is made of the open neighbours, and of the open cells before one

each_map : {A B D : Type 0} (f : A → B) (g : B → List D) (xs : List A) → each (map f xs) g ≡ each xs (λ x. g (f x))
each_map f g [] = refl
each_map f g (x ∷ xs) = ap (λ l. g (f x) ++ l) (each_map f g xs)

-- plus literals, as they are written
pub literals-each : (b : Board) {A : Type 0} (f : A → Variable) (xs : List A) → map (signed b) (map plus (map f xs)) ≡ each xs (λ x. pos (number b (f x)) ∷ [])
literals-each b f [] = refl
literals-each b f (x ∷ xs) = ap (λ l. pos (number b (f x)) ∷ l) (literals-each b f xs)

-- the open cells before x, by their ranks
module _ (b : Board) (G F : ℕ → List ℤ) (same : (y : ℕ) → b.is_open y ≡ true → G y ≡ F (rank b y)) where
  pub each_ranked : (x : ℕ) → each (lower b x) G ≡ each (up_to (rank b x)) F
  each_ranked zero = refl
  each_ranked (suc x) =
      ap (λ n. each (lower b n) G) (sym (add-one x)) ∙ each_cell b x G ∙ by (b.is_open x) refl (each_ranked x) ∙ ap (λ n. each (up_to (rank b n)) F) (add-one x)
    where
      by : (t : Bool) → b.is_open x ≡ t → each (lower b x) G ≡ each (up_to (rank b x)) F → each (lower b x) G ++ at_cell b G x ≡ each (up_to (rank b (x + 1))) F
      by true h so_far =
          let e : 0 + rank b x ≡ rank b x = omega arith in
          (λ t. so_far t ++ (at_open b x G h ∙ same x h ∙ ap F (sym e)) t) ∙ sym (each_next F 0 (rank b x)) ∙ ap (λ n. each (up_to n) F) (sym (rank_open b x h))
      by false h so_far = (λ t. so_far t ++ at_shut b x G h t) ∙ append-nil _ ∙ ap (λ n. each (up_to n) F) (sym (rank_shut b x h))

module _ (b : Board) (x : ℕ) where
  -- in one direction
  side_one : (F : Neighbour → List ℤ) (G : NeighbourNumbers → List ℤ) → G no_neighbour ≡ []
      → ((y : Neighbour) → Beside b x y → G (neighbour_numbers_to b x y) ≡ F y) → (d : Direction)
      → each (if_there b d (b.next d x)) F ≡ G (neighbour_numbers_of b x d)
  side_one F G n h d = by (b.next d x) refl
    where
      by : (o : Option ℕ) → b.next d x ≡ o → each (if_there b d o) F ≡ G (neighbour_numbers_if b x (if_there b d o))
      by None e = sym n
      by (Some y) e = opened (b.is_open y) refl
        where
          opened : (t : Bool) → b.is_open y ≡ t → each (if_open t d y) F ≡ G (neighbour_numbers_if b x (if_open t d y))
          opened true o = append-nil (F (record { way = d; cell = y })) ∙ sym (h (record { way = d; cell = y }) (record { leads = e; opened = o }))
          opened false o = sym n

  -- in each
  side-each : (F : Neighbour → List ℤ) (G : NeighbourNumbers → List ℤ) → G no_neighbour ≡ []
      → ((y : Neighbour) → Beside b x y → G (neighbour_numbers_to b x y) ≡ F y) → (ds : List Direction)
      → each (neighbours b x ds) F ≡ each ds (λ d. G (neighbour_numbers_of b x d))
  side-each F G n h [] = refl
  side-each F G n h (d ∷ ds) = each_append F (if_there b d (b.next d x)) (neighbours b x ds) ∙ (λ t. side_one F G n h d t ++ side-each F G n h ds t)

  -- variables that tell of a neighbour, with their numbers at a side
  module _ (f : Neighbour → Variable) (g : NeighbourNumbers → ℕ) (off : g no_neighbour ≡ 0)
      (on : (y : Neighbour) → g (neighbour_numbers_to b x y) ≡ number b (f y)) where
    -- [z, all of them]
    any_list : (v : Variable) (n e s w : Direction)
        → list_of b (or_any v (map f (neighbours b x (n ∷ e ∷ s ∷ w ∷ []))) ∷ [])
        ≡ joined
        (any_parts (number b v) (g (neighbour_numbers_of b x n)) (g (neighbour_numbers_of b x e)) (g (neighbour_numbers_of b x s)) (g (neighbour_numbers_of b x w)))
    any_list v n e s w =
        let ds = n ∷ e ∷ s ∷ w ∷ [] in
        append-nil _
        ∙ ap (λ l. pos (number b v) ∷ (l ++ (pos 0 ∷ [])))
        (literals-each b f (neighbours b x ds)
        ∙ side-each (λ y. pos (number b (f y)) ∷ []) (λ s. literal_if_present (g s)) (ap literal_if_present off) (λ y k. ap literal_if_present (on y)) ds)
        ∙ simp (append_assoc)

    -- each pair of them
    abbrev pairs_of : List Direction → List ℤ
    pairs_of [] = []
    pairs_of (d ∷ ds) = each ds (λ e. not_both_if_present (g (neighbour_numbers_of b x d)) (g (neighbour_numbers_of b x e))) ++ pairs_of ds

    pairs-from : (ds : List Direction) → list_of b (pairs (map f (neighbours b x ds))) ≡ pairs_of ds
    pairs-from [] = refl
    pairs-from (d ∷ ds) = by (b.next d x) (pairs-from ds)
      where
        ns : List Neighbour
        ns = neighbours b x ds

        -- without a first one, and with it
        nothing : (es : List Direction) → [] ≡ each es (λ e. not_both_if_present (g no_neighbour) (g (neighbour_numbers_of b x e)))
        nothing [] = refl
        nothing (e ∷ es) =
            let rest = each es (λ e. not_both_if_present (g no_neighbour) (g (neighbour_numbers_of b x e))) in
            nothing es ∙ ap (λ k. not_both_if_present k (g (neighbour_numbers_of b x e)) ++ rest) (sym off)

        with : (y : Neighbour)
            → list_of b (map (not_both (f y)) (map f ns)) ≡ each ds (λ e. not_both_if_present (g (neighbour_numbers_to b x y)) (g (neighbour_numbers_of b x e)))
        with y =
            list_map b (not_both (f y)) (map f ns) ∙ each_map f (λ v. written b (not_both (f y) v)) ns
            ∙ side-each (λ z. written b (not_both (f y) (f z))) (λ s. not_both_if_present (number b (f y)) (g s)) (ap (not_both_if_present (number b (f y))) off)
            (λ z k. ap (not_both_if_present (number b (f y))) (on z)) ds
            ∙ ap (λ k. each ds (λ e. not_both_if_present k (g (neighbour_numbers_of b x e)))) (sym (on y))

        by : (o : Option ℕ) → list_of b (pairs (map f ns)) ≡ pairs_of ds
            → list_of b (pairs (map f (if_there b d o ++ ns)))
            ≡ each ds (λ e. not_both_if_present (g (neighbour_numbers_if b x (if_there b d o))) (g (neighbour_numbers_of b x e))) ++ pairs_of ds
        by None go = (λ t. nothing ds t ++ go t)
        by (Some y) go = opened (b.is_open y)
          where
            opened : (t : Bool)
                → list_of b (pairs (map f (if_open t d y ++ ns)))
                ≡ each ds (λ e. not_both_if_present (g (neighbour_numbers_if b x (if_open t d y))) (g (neighbour_numbers_of b x e))) ++ pairs_of ds
            opened true =
                let z : Neighbour = record { way = d; cell = y } in list_append b (map (not_both (f z)) (map f ns)) (pairs (map f ns)) ∙ (λ t. with z t ++ go t)
            opened false = (λ t. nothing ds t ++ go t)

    pairs_list : (n e s w : Direction)
        → list_of b (pairs (map f (neighbours b x (n ∷ e ∷ s ∷ w ∷ []))))
        ≡ joined (pair_parts (g (neighbour_numbers_of b x n)) (g (neighbour_numbers_of b x e)) (g (neighbour_numbers_of b x s)) (g (neighbour_numbers_of b x w)))
    pairs_list n e s w = pairs-from (n ∷ e ∷ s ∷ w ∷ []) ∙ simp (append_assoc, append-nil)

  -- 1. Touching
  pub touching_list : list_of b (touching_at b x) ≡ joined (cell.touching_parts (cell_numbers_of b x))
  touching_list =
      list_map b (touch x) (neighbours b x east_south)
      ∙ side-each (λ y. written b (touch x y)) (λ s. not_both_if_present (number b (Z x)) s.black) refl (λ y k. refl) east_south

  -- 3. Links
  pub links_list : list_of b (links_at b x) ≡ joined (cell.link_parts (cell_numbers_of b x))
  links_list =
      list_joined b (link_parts b x)
      ∙ (λ t.
      joined
      (ends t ∷ any_list (out x) (λ s. s.out) refl (λ y. refl) (Z x) north east south west t ∷
      pairs_list (out x) (λ s. s.out) refl (λ y. refl) north east south west t ∷
      any_list back (λ s. s.back) refl (λ y. refl) (Z x) north east south west t ∷
      pairs_list back (λ s. s.back) refl (λ y. refl) north east south west t ∷ link_variables t ∷ []))
    where
      ends : list_of b (each (neighbours b x directions) (both_white x)) ≡ joined (cell.white_parts (cell_numbers_of b x))
      ends =
          list_each b (both_white x) (neighbours b x directions)
          ∙ side-each (λ y. list_of b (both_white x y)) (cell.white_ends (number b (Z x))) refl (λ y k. refl) directions

      link_variables : list_of b (map (one_way x) (neighbours b x east_south)) ≡ joined (cell.one_way_parts (cell_numbers_of b x))
      link_variables =
          list_map b (one_way x) (neighbours b x east_south)
          ∙ side-each (λ y. written b (one_way x y)) (λ s. not_both_if_present s.out s.back) refl (λ y k. refl) east_south

module _ (b : Board) (law : Laws b) (x : ℕ) (h : b.is_open x ≡ true) where
  -- 4. Start
  pub start_list : list_of b (start_at b x) ≡ joined (cell.start_parts (cell_numbers_of b x))
  start_list = list_joined b (start_parts b x) ∙ (λ t. joined (not_pair (number b (S x)) (number b (Z x)) ∷ lowers t ∷ eastwards t ∷ []))
    where
      lowers : list_of b (map (black_before x) (lower b x)) ≡ each_implies (number b (S x)) 1 (rank b x)
      lowers =
          list_map b (black_before x) (lower b x)
          ∙ each_ranked b (λ y. written b (black_before x y)) (λ k. implies (number b (S x)) (1 + k))
          (λ y o. ap (implies (number b (S x))) (let e = place_z b law y o in omega arith)) x

      eastwards : list_of b (eastward b x ∷ []) ≡ joined (cell.eastward_parts (number b (S x)) (neighbour_numbers_of b x east).out)
      eastwards =
          append-nil _
          ∙ ap (λ l. neg_ℤ (pos (number b (S x))) ∷ (l ++ (pos 0 ∷ [])))
          (literals-each b (out x) (neighbours b x (east ∷ []))
          ∙ side-each b x (λ y. pos (number b (out x y)) ∷ []) (λ s. literal_if_present s.out) refl (λ y k. refl) (east ∷ []))
          ∙ simp (append_assoc)

  -- 5. Distance: the numbers of Q go on by one
  pub distance_list : list_of b (distance_at b x) ≡ joined (cell.distance_parts (open_count b) (cell_numbers_of b x))
  distance_list =
      list_joined b (distance_parts b x)
      ∙
      (λ t.
      joined
      (some t ∷ none_black t ∷ implies (number b (S x)) (number b (Q x 0)) ∷ or_not (number b (S x)) (number b (Q x 0)) ∷ not-ahead t ∷ nearer_all t ∷ []))
    where
      some : list_of b (or_any (Z x) (distances_at b x) ∷ []) ≡ or_at_least_one (number b (Z x)) (number b (Q x 0)) (open_count b)
      some =
          append-nil _ ∙ ap (λ l. pos (number b (Z x)) ∷ (l ++ (pos 0 ∷ [])))
          (literals-each b (λ k. Q x k) (up_to (open_count b))
          ∙ each_shift (λ k. pos (number b (Q x k)) ∷ []) (λ k. pos (number b (Q x 0) + k) ∷ []) 0 0 (open_count b)
          (λ k l. ap (λ n. pos n ∷ []) (number_q b law x (0 + k) h (omega arith))))

      none_black : list_of b (map (no_distance x) (up_to (open_count b))) ≡ each_not_both (number b (Z x)) (number b (Q x 0)) (open_count b)
      none_black =
          list_map b (no_distance x) (up_to (open_count b))
          ∙ each_shift (λ k. written b (no_distance x k)) (λ k. not_pair (number b (Z x)) (number b (Q x 0) + k)) 0 0 (open_count b)
          (λ k l. ap (not_pair (number b (Z x))) (number_q b law x (0 + k) h (omega arith)))

      from_one_lem : (k : ℕ) → k < open_count b - 1 → number b (Q x (1 + k)) ≡ number b (Q x 0) + 1 + (0 + k)
      from_one_lem k l = number_q b law x (1 + k) h (omega arith) ∙ omega arith

      not-ahead : list_of b (map (not_ahead x) (from_one b)) ≡ each_not_both (number b (S x)) (number b (Q x 0) + 1) (open_count b - 1)
      not-ahead =
          list_map b (not_ahead x) (from_one b)
          ∙ each_shift (λ k. written b (not_ahead x k)) (λ k. not_pair (number b (S x)) (number b (Q x 0) + 1 + k)) 1 0 (open_count b - 1)
          (λ k l. ap (not_pair (number b (S x))) (from_one_lem k l))

      nearer_one : (y : Neighbour) → Beside b x y → cell.nearer (number b (Q x 0)) (open_count b) (neighbour_numbers_to b x y) ≡ list_of b (nearer_each b x y)
      nearer_one y k =
          sym (list_map b (nearer x y) (from_one b)
          ∙ each_shift (λ k. written b (nearer x y k)) (λ k. both_imply (number b (out x y)) (number b (Q x 0) + 1 + k) (number b (Q y.cell 0) + k)) 1 0
          (open_count b - 1)
          (λ j l. (λ t. both_imply (number b (out x y)) (from_one_lem j l t) (before j l t))))
        where
          before : (j : ℕ) → j < open_count b - 1 → number b (Q y.cell (1 + j - 1)) ≡ number b (Q y.cell 0) + (0 + j)
          before j l =
              let e : 1 + j - 1 ≡ 0 + j = omega arith in ap (λ k. number b (Q y.cell k)) e ∙ number_q b law y.cell (0 + j) k.opened (omega arith)

      nearer_all : list_of b (each (neighbours b x directions) (nearer_each b x)) ≡ joined (cell.nearer_parts (open_count b) (cell_numbers_of b x))
      nearer_all =
          list_each b (nearer_each b x) (neighbours b x directions)
          ∙ side-each b x (λ y. list_of b (nearer_each b x y)) (cell.nearer (number b (Q x 0)) (open_count b)) refl nearer_one directions
