-- The clauses of a cell in all families: open, shaded or a clue. Assumes nothing.
use Prim.Native.Nat.{ℕ, suc, ◌+◌, ◌*◌, ◌-◌, ◌≤◌, ◌<◌}
use native.Mathlib.Omega.{arith}
use native.Mathlib.Nat.{mul_assoc, mul-le-mul}
use native.Mathlib.Numerals.{add-one}
use lib.ListN.{length, get_or}
use mathlib.Core.Path.{◌≡◌, refl, sym, ◌∙◌, ap, subst}
use mathlib.Core.Bool.{true, false}
use mathlib.Core.List.{List, [], ◌∷◌, ◌++◌}
use Rattle.answers.specs.Lists.{how_many, each}
use Rattle.answers.proofs.Lists.{many_most}
use Rattle.rules.specs.declared.Direction.{Direction}
use Rattle.rules.specs.declared.Direction.TheVariants.{East as east, South as south}
use Rattle.rules.specs.declared.Cell.{Cell}
use Rattle.rules.specs.declared.Cell.TheVariants.{Open, Clue as Clued, Shaded}
use Rattle.rules.specs.declared.Grid.{Grid}
use Rattle.rules.specs.Record.{size, puzzle, most_cells, RecordFits}
use Rattle.rules.specs.Board.{Board, open_cell, line, clue_of, grid_board}
use Rattle.encoder.specs.Variables.{directions, open_count, neighbours, rank, at_cell}
use Rattle.encoder.specs.Clauses.{Clause, east_south, from_one, touching_at, clue_clauses, links_at, start_at, distance_at, pair_count, Sized}
use Rattle.encoder.proofs.Bounds.{neighbours-most}
use Rattle.encoder.proofs.ClauseLists.{at_open, at_shut}
use Rattle.encoder.proofs.Counts.{sized_none, sized_append, sized_is, around, after, touching_sized, clue_sized, links_sized, start_sized}
use Rattle.encoder.proofs.Counts.{distance_sized, from_one_lem}
use Rattle.judge_cells.proofs.Checks.{is_opened}
use Rattle.encoder_numbers.proofs.Numbers.{line_few, rank_few, links-sum}
use Rattle.encoder_numbers.proofs.Neighbours.{some_open}
use Rattle.encoder_lines.specs.Line.{clue_at}
use Rattle.encoder_size.specs.declared.Amount.{Amount}
use Rattle.encoder_size.specs.Counts.{amount_of, open_amount, clue_amount, cell_families, Amounts}
use Rattle.encoder_size.proofs.Lines.{pairs-most, line_sized}

module _ {g : Grid} {s : List ℕ} {x : ℕ} (h : RecordFits g s) (inside : x < size g) where
  abbrev b : Board
  b = grid_board g s

  module _ (e : get_or (puzzle g s).cells x Open ≡ Open) where
    opened : b.is_open x ≡ true
    opened = sym (is_opened h inside refl) ∙ ap open_cell e

    open_families : touching_at b x ++ ([] ++ (links_at b x ++ (start_at b x ++ distance_at b x))) ≡ cell_families g s x
    open_families =
        let at : (F : ℕ → List Clause) → F x ≡ at_cell b F x = (λ F. sym (at_open b x F opened)) in
        let none : [] ≡ clue_at (puzzle g s) x = ap (λ c. each (clue_of (puzzle g s) x c) (clue_clauses b.is_open)) (sym e) in
        (λ t. at (touching_at b) t ++ (none t ++ (at (links_at b) t ++ (at (start_at b) t ++ at (distance_at b) t))))

    open_few : (0 < open_count b) × (open_count b ≤ most_cells) × (rank b x ≤ most_cells)
    open_few =
        let w = h.sides.few in (some_open h (record { inside = inside; opened = opened }), omega (arith, rank_few b (size g)), omega (arith, rank_few b x))

    open_amounts : Amounts b (cell_families g s x) (open_amount (open_count b) (rank b x) (around b x) (after b x) (length (neighbours b x (east ∷ []))))
    open_amounts =
        let k = from_one_lem b in
        let m = ap (λ k. around b x * k) k in
        let (f, few, low) = open_few in
        let p = pairs-most (around b x) 4 (neighbours-most b x directions) in
        let q : around b x * (open_count b - 1) ≤ 4 * most_cells = mul-le-mul {m₂ = most_cells} (neighbours-most b x directions) (omega arith) in
        let a : Amount = open_amount (open_count b) (rank b x) (around b x) (after b x) (length (neighbours b x (east ∷ []))) in
        let i = neighbours-most b x directions in
        let j = neighbours-most b x east_south in
        let o = neighbours-most b x (east ∷ []) in
        record {
          sized =
              subst (λ cs. Sized b cs a.clauses a.elements) open_families
              (sized_is b (omega arith) (omega (arith, mul_assoc (around b x) (length (from_one b)) 4))
              (sized_append b (touching_sized b x)
              (sized_append b (sized_none b) (sized_append b (links_sized b x) (sized_append b (start_sized b x) (distance_sized b x))))));
          few = omega arith;
          short = omega arith;
        }

    -- with F, the rank and the neighbours as they were counted
    module _ {f lower m t u : ℕ} (F : f ≡ open_count b) (R : lower ≡ rank b x) (M : m ≡ length (neighbours b x directions))
        (T : t ≡ length (neighbours b x (east ∷ []))) (U : u ≡ length (neighbours b x (south ∷ []))) where
      two_sides : t + u ≡ after b x
      two_sides = links-sum b x (east ∷ []) (south ∷ []) T U

      pub open_asks : ((0 < f) × (f ≤ most_cells) × (lower ≤ most_cells)) × ((m ≤ 4) × (t + u ≤ 2) × (t ≤ 1))
      open_asks =
          let (i, j, k) = open_few in (
            (omega arith, omega arith, omega arith),
            (
              omega (arith, neighbours-most b x directions),
              omega (arith, two_sides, neighbours-most b x east_south),
              omega (arith, neighbours-most b x (east ∷ [])),
            ),
          )

      pub open_counted : {r : Amount} → r ≡ open_amount f lower m (t + u) t → Amounts b (cell_families g s x) r
      open_counted q = subst (Amounts b (cell_families g s x)) (sym (q ∙ (λ i. open_amount (F i) (R i) (M i) (two_sides i) (T i)))) open_amounts

  -- of a cell that is not open: the clauses of its clue, if it is one
  shut_families : {c : Cell} → get_or (puzzle g s).cells x Open ≡ c → open_cell c ≡ false
      → [] ++ (each (clue_of (puzzle g s) x c) (clue_clauses b.is_open) ++ ([] ++ ([] ++ []))) ≡ cell_families g s x
  shut_families e k =
      let shut = sym (is_opened h inside refl) ∙ ap open_cell e ∙ k in
      let none : (F : ℕ → List Clause) → [] ≡ at_cell b F x = (λ F. sym (at_shut b x F shut)) in
      let own = ap (λ c. each (clue_of (puzzle g s) x c) (clue_clauses b.is_open)) (sym e) in
      (λ t. none (touching_at b) t ++ (own t ++ (none (links_at b) t ++ (none (start_at b) t ++ none (distance_at b) t))))

  pub shaded_counted : {r : Amount} → get_or (puzzle g s).cells x Open ≡ Shaded → r ≡ amount_of 0 0 0 0 → Amounts b (cell_families g s x) r
  shaded_counted e q =
      subst (Amounts b (cell_families g s x)) (sym q)
      (record { sized = subst (λ cs. Sized b cs 0 0) (shut_families e refl) (sized_none b); few = omega arith; short = omega arith })

  module _ {d : Direction} {n : ℕ} (e : get_or (puzzle g s).cells x Open ≡ Clued d n) (small : n < 256) where
    abbrev cells : List ℕ
    cells = line (puzzle g s) d x

    abbrev opens : ℕ
    opens = how_many b.is_open cells

    clue_amounts : Amounts b (cell_families g s x) (clue_amount n opens (length cells - opens))
    clue_amounts =
        let shut = length cells - opens in
        let l = line_few h inside d in
        let m = many_most b.is_open cells in
        let z : opens + shut ≡ length cells = omega arith in
        let one = add-one n in
        let A : (opens + shut) * pair_count (n + 1) ≡ length cells * pair_count (suc n) = (λ t. z t * pair_count (one t)) in
        let B = ap (λ k. shut * k) one in
        let p = pairs-most (n + 1) 256 (omega arith) in
        let P : (opens + shut) * pair_count (n + 1) ≤ most_cells * 32640 = mul-le-mul {n₂ = most_cells} {m₂ = 32640} (omega arith) (omega arith) in
        let Q : shut * (n + 1) ≤ most_cells * 256 = mul-le-mul {n₂ = most_cells} {m₂ = 256} (omega arith) (omega arith) in
        let R : opens * (n * 2 + 1) ≤ most_cells * 512 = mul-le-mul {n₂ = most_cells} {m₂ = 512} (omega arith) (omega arith) in
        let none = sized_none b in
        let one = clue_sized b x n cells b.is_open (line_sized b b.is_open x n 0 cells shut (omega arith)) in
        let a : Amount = clue_amount n opens shut in
        record {
          sized = subst (λ cs. Sized b cs a.clauses a.elements) (shut_families e refl) (sized_is b (omega arith) (omega arith)
              (sized_append b none (sized_append b (sized_append b one none) (sized_append b none (sized_append b none none)))));
          few = omega arith;
          short = omega arith;
        }

    -- with the line as it was counted
    module _ {l o : ℕ} (L : l ≡ length cells) (O : o ≡ opens) where
      pub clue_less : o ≤ l
      clue_less = omega (arith, many_most b.is_open cells)

      pub clue_asks : (n < 256) × (o ≤ most_cells) × (l - o ≤ most_cells)
      clue_asks = (small, omega (arith, clue_less, line_few h inside d), omega (arith, line_few h inside d))

      pub clue_counted : {r : Amount} → r ≡ clue_amount n o (l - o) → Amounts b (cell_families g s x) r
      clue_counted q = subst (Amounts b (cell_families g s x)) (sym (q ∙ (λ i. clue_amount n (O i) (L i - O i)))) clue_amounts
