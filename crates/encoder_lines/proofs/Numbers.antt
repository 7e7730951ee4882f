-- The clauses of a clue by numbers are those of document 01. Assumes nothing.
use Prim.Native.Nat.{ℕ, suc, ◌+◌, ◌*◌, ◌-◌, ◌≤◌, ◌<◌}
use native.Mathlib.Omega.{arith}
use native.Mathlib.Nat.{suc-mul}
use native.Mathlib.Numerals.{add-one}
use lib.ListN.{length, length-map}
use borrow.Author.Tests.{eq-eqb, ne_eqb}
use mathlib.Core.Path.{◌≡◌, refl, sym, ◌∙◌, ap}
use mathlib.Core.Bool.{Bool, true, false, cond}
use mathlib.Core.List.{List, [], ◌∷◌, ◌++◌, map}
use Rattle.rules.specs.Board.{Clue, Board}
use Rattle.rules.proofs.Boards.{Laws}
use Rattle.answers.specs.Lists.{from, up_to, each, joined}
use Rattle.encoder.specs.Variables.{Z, T, counts_at, number}
use Rattle.encoder.specs.Clauses.{not_both, pairs, count_step, cell_parts, cell_clauses, line_clauses, none_black, clue_parts, clue_clauses, written, list_of}
use Rattle.encoder.proofs.Places.{At}
use Rattle.encoder.proofs.ClauseLists.{each_next, each_shift, pairs-each, list_append, list_joined, list_each, list_map, number_t}
use Rattle.encoder_shapes.specs.Shapes.{unit, unit_not as unit_not#, not_both as not_pair, implies, implies_either, both_imply, each_unit_not, each_not_both, pairs_with}
use Rattle.encoder_shapes.specs.Shapes.{at_most_one}
use Rattle.encoder_numbers.specs.Numbered.{black_of}
use Rattle.encoder_lines.specs.Line.{count_step_shut, count_step_both, count_step_below, count_step_open, count_step_row, count_step_parts, count_step_each}
use Rattle.encoder_lines.specs.Line.{clue_numbers}

-- a clue c of a board, cs the clues before it
module _ (b : Board) (law : Laws b) (c : Clue) (cs : List Clue) (m : At b.clues c cs) where
  abbrev a : ℕ
  a = c.cell

  abbrev n : ℕ
  n = c.number

  -- the number of T(j,t)
  abbrev t# : ℕ → ℕ → ℕ
  t# j t = number b (T a j t)

  -- a row goes on by one, and the next row stands after it
  row_on : (j t : ℕ) → j ≤ length c.line → t ≤ n → t# j t ≡ t# j 0 + t
  row_on j t h k = let p = number_t b law c cs j t m h k in let q = number_t b law c cs j 0 m h (omega arith) in omega arith

  row_next : (j : ℕ) → suc j ≤ length c.line → t# (suc j) 0 ≡ t# j 0 + (n + 1)
  row_next j h =
      let p = number_t b law c cs (suc j) 0 m h (omega arith) in
      let q = number_t b law c cs j 0 m (omega arith) (omega arith) in omega (arith, suc-mul j (suc n))

  row_first : (j : ℕ) → j ≤ length c.line → t# j 0 ≡ t# 0 0 + j * (n + 1)
  row_first j h = let p = number_t b law c cs j 0 m h (omega arith) in let e : j * suc n ≡ j * (n + 1) = ap (λ k. j * k) (sym (add-one n)) in omega arith

  module _ (j x : ℕ) (h : suc j ≤ length c.line) where
    abbrev row : ℕ
    row = t# j 0

    abbrev next : ℕ
    next = t# j 0 + (n + 1)

    here : (t : ℕ) → t ≤ n → t# j t ≡ row + t
    here t k = row_on j t (omega arith) k

    there : (t : ℕ) → t ≤ n → t# (suc j) t ≡ next + t
    there t k = row_on (suc j) t h k ∙ ap (λ r. r + t) (row_next j h)

    count-step-shut : list_of b (each (up_to (suc n)) (count_step false a n j x)) ≡ count_step_shut row next (n + 1)
    count-step-shut =
        list_each b (count_step false a n j x) (up_to (suc n))
        ∙ each_shift (λ t. list_of b (count_step false a n j x t)) (λ t. implies (row + t) (next + t)) 0 0 (suc n)
        (λ t k. (λ i. implies (here (0 + t) (omega arith) i) (there (0 + t) (omega arith) i)))
        ∙ ap (λ k. each (up_to k) (λ t. implies (row + t) (next + t))) (sym (add-one n))

    count-step-open : list_of b (each (up_to (suc n)) (count_step true a n j x)) ≡ joined (count_step_open row next (number b (Z x)) n)
    count-step-open =
        list_each b (count_step true a n j x) (up_to (suc n))
        ∙ ap (λ k. each (up_to k) (λ t. list_of b (count_step true a n j x t))) (sym (add-one n))
        ∙ each_next (λ t. list_of b (count_step true a n j x t)) 0 n
        ∙ (λ i. below i ++ last i)
      where
        below : each (up_to n) (λ t. list_of b (count_step true a n j x t)) ≡ count_step_below row next (number b (Z x)) n
        below = each_shift (λ t. list_of b (count_step true a n j x t)) (λ t. joined (count_step_both (row + t) (number b (Z x)) (next + t))) 0 0 n one
          where
            one : (t : ℕ) → t < n → list_of b (count_step true a n j x (0 + t)) ≡ joined (count_step_both (row + (0 + t)) (number b (Z x)) (next + (0 + t)))
            one t k =
                rw (ne_eqb (0 + t) n (omega arith))
                (λ i.
                implies_either (here (0 + t) (omega arith) i) (number b (Z x)) (there (0 + t) (omega arith) i) ++
                both_imply (here (0 + t) (omega arith) i) (number b (Z x)) (up i))
              where
                up : t# (suc j) (suc (0 + t)) ≡ next + (0 + t) + 1
                up = there (suc (0 + t)) (omega arith) ∙ omega arith

        last : list_of b (count_step true a n j x (0 + n))
            ≡ joined (implies_either (row + n) (number b (Z x)) (next + n) ∷ not_pair (row + n) (number b (Z x)) ∷ [])
        last =
            let e : 0 + n ≡ n = omega arith in
            rw (e, eq-eqb n n refl)
            (λ i. implies_either (here n (omega arith) i) (number b (Z x)) (there n (omega arith) i) ++ not_pair (here n (omega arith) i) (number b (Z x)))

    count-step-row : list_of b (each (up_to (suc n)) (count_step (b.is_open x) a n j x)) ≡ count_step_row (black_of b x) row next n
    count-step-row = by (b.is_open x)
      where
        by : (o : Bool) → list_of b (each (up_to (suc n)) (count_step o a n j x)) ≡ count_step_row (cond o (number b (Z x)) 0) row next n
        by true = count-step-open
        by false = count-step-shut

    -- each pair of the next row
    next-pairs : list_of b (pairs (counts_at a n (suc j))) ≡ at_most_one next (n + 1)
    next-pairs =
        ap (list_of b) (pairs-each (λ t. T a (suc j) t) 0 (suc n))
        ∙ list_each b (λ t. map (λ u. not_both (T a (suc j) t) (T a (suc j) u)) (from (suc t) (0 + suc n - suc t))) (up_to (suc n))
        ∙ each_shift (λ t. list_of b (map (λ u. not_both (T a (suc j) t) (T a (suc j) u)) (from (suc t) (0 + suc n - suc t)))) (pairs_with next (n + 1)) 0 0
        (suc n) one
        ∙ ap (λ k. each (up_to k) (pairs_with next (n + 1))) (sym (add-one n))
      where
        one : (t : ℕ) → t < suc n
            → list_of b (map (λ u. not_both (T a (suc j) (0 + t)) (T a (suc j) u)) (from (suc (0 + t)) (0 + suc n - suc (0 + t))))
            ≡ pairs_with next (n + 1) (0 + t)
        one t k =
            let e : 0 + suc n - suc (0 + t) ≡ n + 1 - (0 + t + 1) = omega arith in
            list_map b (λ u. not_both (T a (suc j) (0 + t)) (T a (suc j) u)) (from (suc (0 + t)) (0 + suc n - suc (0 + t)))
            ∙ each_shift (λ u. written b (not_both (T a (suc j) (0 + t)) (T a (suc j) u))) (λ k. not_pair (next + (0 + t)) (next + (0 + t) + 1 + k)) (suc (0 + t))
            0 (0 + suc n - suc (0 + t)) pair
            ∙ ap (each_not_both (next + (0 + t)) (next + (0 + t) + 1)) e
          where
            pair : (u : ℕ) → u < 0 + suc n - suc (0 + t)
                → written b (not_both (T a (suc j) (0 + t)) (T a (suc j) (suc (0 + t) + u))) ≡ not_pair (next + (0 + t)) (next + (0 + t) + 1 + (0 + u))
            pair u l = (λ i. not_pair (there (0 + t) (omega arith) i) (second i))
              where
                second : t# (suc j) (suc (0 + t) + u) ≡ next + (0 + t) + 1 + (0 + u)
                second = there (suc (0 + t) + u) (omega arith) ∙ omega arith

    count_step_cell : list_of b (cell_clauses b.is_open a n j x) ≡ joined (count_step_parts row (black_of b x) n)
    count_step_cell = list_joined b (cell_parts b.is_open a n j x) ∙ (λ i. joined (count-step-row i ∷ next-pairs i ∷ []))

  -- the cells of the line from the j-th on
  past_line : (j : ℕ) (xs : List ℕ) → j + length xs ≤ length c.line
      → list_of b (line_clauses b.is_open a n j xs) ≡ count_step_each (t# j 0) n (map (black_of b) xs)
  past_line j [] h = refl
  past_line j (x ∷ xs) h =
      let l : suc j ≤ length c.line = omega arith in
      list_append b (cell_clauses b.is_open a n j x) (line_clauses b.is_open a n (suc j) xs)
      ∙ (λ i. count_step_cell j x l i ++ (past_line (suc j) xs (omega arith) ∙ ap (λ r. count_step_each r n (map (black_of b) xs)) (row_next j l)) i)

  pub clue_list : list_of b (clue_clauses b.is_open c) ≡ joined (clue_numbers (t# 0 0) n (map (black_of b) c.line))
  clue_list =
      list_joined b (clue_parts b.is_open a n c.line)
      ∙ (λ i. joined (unit (t# 0 0) ∷ nevers i ∷ past_line 0 c.line (omega arith) i ∷ unit (last i) ∷ []))
    where
      nevers : list_of b (map (none_black a) (from 1 n)) ≡ each_unit_not (t# 0 0 + 1) n
      nevers =
          list_map b (none_black a) (from 1 n)
          ∙ each_shift (λ t. written b (none_black a t)) (λ k. unit_not# (t# 0 0 + 1 + k)) 1 0 n
          (λ t k. let e : t# 0 0 + (1 + t) ≡ t# 0 0 + 1 + (0 + t) = omega arith in ap unit_not# (row_on 0 (1 + t) (omega arith) (omega arith) ∙ e))

      last : t# (length c.line) n ≡ t# 0 0 + length (map (black_of b) c.line) * (n + 1) + n
      last =
          let l = length c.line in
          let e : length (map (black_of b) c.line) ≡ l = length-map c.line (black_of b) in
          row_on l n (omega arith) (omega arith) ∙ ap (λ r. r + n) (row_first l (omega arith) ∙ ap (λ k. t# 0 0 + k * (n + 1)) (sym e))
