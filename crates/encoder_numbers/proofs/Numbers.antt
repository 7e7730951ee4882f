-- Ranks, links and counts, one cell more at a turn, and their bounds. Assumes nothing.
use Prim.Native.Nat.{ℕ, zero, suc, ◌+◌, ◌*◌, ◌≤◌, ◌<◌, ◌^◌}
use native.Mathlib.Omega.{arith}
use native.Mathlib.Nat.{mul-le-mul}
use native.Mathlib.Numerals.{add-one}
use lib.ListN.{length, get_or, take, length-append, length-map}
use lib.Seq.{take_all}
use mathlib.Core.Path.{◌≡◌, refl, sym, ◌∙◌, ap}
use mathlib.Core.Bool.{Bool, true, false, cond}
use Rattle.std.specs.Prelude.{Option, None, Some}
use Rattle.std.proofs.lemmas.Option.{same_Some}
use Rattle.answers.proofs.Options.{some-none}
use mathlib.Core.List.{List, [], ◌++◌, append-nil}
use Rattle.rules.specs.declared.Direction.{Direction}
use Rattle.rules.specs.declared.Direction.TheVariants.{North as north, East as east, South as south, West as west}
use Rattle.rules.specs.declared.Cell.{Cell}
use Rattle.rules.specs.declared.Cell.TheVariants.{Open, Clue as Clued, Shaded}
use Rattle.rules.specs.declared.Grid.{Grid}
use Rattle.rules.specs.Record.{Puzzle, size, puzzle, most_cells, RecordFits}
use Rattle.rules.specs.Directions.{bit}
use Rattle.rules.specs.Board.{Board, open_cell, line, clue_in, clue_of, clues_from, grid_board}
use Rattle.rules.proofs.Records.{number_of, puzzle-filled, number_small}
use Rattle.answers.specs.Lists.{up_to, each}
use Rattle.encoder.specs.Variables.{directions, open_count, if_there, neighbours, out, outgoing, link_variables, clue_counts, counts, variable_count, lower}
use Rattle.encoder.specs.Variables.{rank, links_below, earlier}
use Rattle.answers.proofs.Elements.{each_append, length_from, length_each_most, keep-most, map-most}
use Rattle.encoder.proofs.Places.{clue_long, total}
use Rattle.encoder.proofs.Clues.{clues_next}
use Rattle.encoder.proofs.Lines.{line_short}
use Rattle.encoder.proofs.Bounds.{neighbours-most}
use Rattle.encoder.proofs.ClauseLists.{at_open, at_shut, rank-next, links-next}
use Rattle.judge_cells.proofs.Checks.{is_opened}
use Rattle.encoder_numbers.specs.declared.Sizes.{Sizes}
use Rattle.encoder_numbers.specs.Tables.{cell_counts, counts_below, sizes_at, sizes_below, sizes_of, if_open_cell, open_neighbour}

-- 1. Open cells and links

module _ (b : Board) (x : ℕ) where
  -- the open neighbour in one direction
  pub there_some : (d : Direction) {y : ℕ} → Some y ≡ open_neighbour b d x → (b.next d x ≡ Some y) × (b.is_open y ≡ true)
  there_some d {y} e = by (b.next d x) refl e
    where
      by : (o : Option ℕ) → b.next d x ≡ o → Some y ≡ if_open_cell b o → (b.next d x ≡ Some y) × (b.is_open y ≡ true)
      by None q e = absurd (some-none y e)
      by (Some z) q e = at (b.is_open z) refl e
        where
          at : (t : Bool) → b.is_open z ≡ t → Some y ≡ cond t (Some z) None → (b.next d x ≡ Some y) × (b.is_open y ≡ true)
          at true k e = let r = same_Some y z e in (q ∙ sym e, ap b.is_open r ∙ k)
          at false k e = absurd (some-none y e)

  -- in two groups of directions
  pub links-sum : (ds es : List Direction) {m n : ℕ} → m ≡ length (neighbours b x ds) → n ≡ length (neighbours b x es)
      → m + n ≡ length (neighbours b x (ds ++ es))
  links-sum ds es h k =
      (λ i. h i + k i) ∙ sym (ap length (each_append (λ d. if_there b d (b.next d x)) ds es) ∙ length-append (neighbours b x ds) (neighbours b x es))

  pub earlier_few : (d : Direction) → length (neighbours b x (earlier d)) ≤ 3
  earlier_few north = omega arith
  earlier_few east = omega (arith, neighbours-most b x (earlier east))
  earlier_few south = omega (arith, neighbours-most b x (earlier south))
  earlier_few west = neighbours-most b x (earlier west)

  pub rank_few : rank b x ≤ x
  rank_few = omega (arith, keep-most b.is_open (up_to x), length_from 0 x)

  pub links_few : links_below b x ≤ x * 4
  links_few =
      let h = length_each_most (outgoing b) 4 (lower b x) (λ y m. map-most (out y) (neighbours b y directions) 4 (neighbours-most b y directions)) in
      omega (arith, rank_few)

-- 2. T variables

pub counts_on : (p : Puzzle) (x : ℕ) → x < length p.cells → counts_below p (x + 1) ≡ counts_below p x + cell_counts p x
counts_on p x h =
    let cs = clues_from p 0 (take x p.cells) in
    let ds = clue_of p x (get_or p.cells x Open) in
    ap (λ l. length (each l clue_counts)) (clues_next p x h) ∙ ap length (each_append clue_counts cs ds) ∙ length-append (each cs clue_counts) (each ds clue_counts)

pub clue-counts : (p : Puzzle) (x : ℕ) {d : Direction} {n l m : ℕ} → Clued d n ≡ get_or p.cells x Open → l ≡ length (line p d x) → m ≡ n
    → (l + 1) * (m + 1) ≡ cell_counts p x
clue-counts p x {d} {n} {l} {m} h q e =
    let k = clue_in p x d n in
    (λ i. (add-one l ∙ ap suc q) i * (add-one m ∙ ap suc e) i)
    ∙ sym (ap (λ c. length (each (clue_of p x c) clue_counts)) (sym h) ∙ ap length (append-nil (clue_counts k)) ∙ clue_long k)

-- (a cell that is no clue has none)
pub no-counts : (p : Puzzle) (x : ℕ) {c : Cell} → clue_of p x c ≡ [] → c ≡ get_or p.cells x Open → 0 ≡ cell_counts p x
no-counts p x e h = ap (λ cs. length (each cs clue_counts)) (sym e) ∙ ap (λ c. length (each (clue_of p x c) clue_counts)) h

-- no line is longer than there are cells
pub line_few : {g : Grid} {s : List ℕ} {x : ℕ} → RecordFits g s → x < size g → (d : Direction) → length (line (puzzle g s) d x) ≤ most_cells
line_few {g} {s} {x} h l d =
    let w = h.sides in
    let m : g.rows * 1 ≤ g.rows * g.columns = mul-le-mul {n₂ = g.rows} (omega arith) w.wide in
    let k = line_short (puzzle g s) (suc most_cells) (omega arith) (omega arith) d x l in
    omega arith

-- the T variables of a cell
pub counts_few : {g : Grid} {s : List ℕ} {x : ℕ} → RecordFits g s → x < size g → cell_counts (puzzle g s) x ≤ 2 ^ 17
counts_few {g} {s} {x} h l = by (get_or (puzzle g s).cells x Open) refl
  where
    by : (c : Cell) → get_or (puzzle g s).cells x Open ≡ c → cell_counts (puzzle g s) x ≤ 2 ^ 17
    by Open e = let z = no-counts (puzzle g s) x refl (sym e) in omega arith
    by Shaded e = let z = no-counts (puzzle g s) x refl (sym e) in omega arith
    by (Clued d n) e =
        let z = clue-counts (puzzle g s) x (sym e) refl refl in
        let m : n ≤ 44 = omega (arith, number_small g s x l, ap number_of e) in
        let j = length (line (puzzle g s) d x) in
        let k : (j + 1) * (n + 1) ≤ suc most_cells * 45 = mul-le-mul {n₂ = suc most_cells} {m₂ = 45} (omega (arith, line_few h l d)) (omega arith) in
        omega arith

-- and of all: whatever the grid, nothing that is counted overflows
pub below_few : {g : Grid} {s : List ℕ} → RecordFits g s → (x : ℕ) → x ≤ size g → counts_below (puzzle g s) x ≤ x * 2 ^ 17
below_few h zero l = omega arith
below_few {g} {s} h (suc x) l =
    let f = puzzle-filled g s in
    let k = below_few h x (omega arith) in
    let e : counts_below (puzzle g s) (suc x) ≡ counts_below (puzzle g s) x + cell_counts (puzzle g s) x = ap (counts_below (puzzle g s)) (sym (add-one x))
    ∙ counts_on (puzzle g s) x (omega arith) in
    omega (arith, counts_few {x = x} h l)

pub counts_are : {g : Grid} {s : List ℕ} → RecordFits g s → counts_below (puzzle g s) (size g) ≡ length (counts (grid_board g s))
counts_are {g} {s} h =
    let f = puzzle-filled g s in ap (λ cs. length (each (clues_from (puzzle g s) 0 cs) clue_counts)) (take_all (size g) (puzzle g s).cells (omega arith))

-- 3. The sizes of a cell and of the cells before it, and their bounds

module _ {g : Grid} {s : List ℕ} (h : RecordFits g s) {x : ℕ} (l : x < size g) where
  -- the sizes of an open cell, and of one that is not, which has its T variables only, if any
  module _ {c : Cell} (q : c ≡ get_or (puzzle g s).cells x Open) {z : Sizes} where
    pub open_sizes : c ≡ Open → z.opens ≡ 1 → z.links ≡ length (neighbours (grid_board g s) x directions) → z.counts ≡ 0 → z ≡ sizes_at g s x
    open_sizes k i m j =
        let b = grid_board g s in
        let o = sym (is_opened h l q) ∙ ap open_cell k in
        let links = m ∙ sym (ap length (at_open b x (outgoing b) o) ∙ length-map (neighbours b x directions) (out x)) in
        let none = j ∙ no-counts (puzzle g s) x (ap (clue_of (puzzle g s) x) k) q in
        (λ t. record { opens = (i ∙ ap bit (sym o)) t; links = links t; counts = none t })

    pub shut_sizes : open_cell c ≡ false → z.opens ≡ 0 → z.links ≡ 0 → z.counts ≡ cell_counts (puzzle g s) x → z ≡ sizes_at g s x
    shut_sizes k i j m =
        let b = grid_board g s in
        let o = sym (is_opened h l q) ∙ k in
        (λ t. record { opens = (i ∙ ap bit (sym o)) t; links = (j ∙ ap length (sym (at_shut b x (outgoing b) o))) t; counts = m t })

  pub sizes_next : {z y : Sizes} → z ≡ sizes_below g s x → y ≡ sizes_at g s x
      → ◌≡◌ {A = Sizes} (record { opens = z.opens + y.opens; links = z.links + y.links; counts = z.counts + y.counts }) (sizes_below g s (x + 1))
  sizes_next e q =
      let b = grid_board g s in
      let f = puzzle-filled g s in
      let sum : Sizes → Sizes → Sizes = (λ z y. record { opens = z.opens + y.opens; links = z.links + y.links; counts = z.counts + y.counts }) in
      (λ t. sum (e t) (q t))
      ∙ sym (λ t. record { opens = rank-next b x t; links = links-next b x t; counts = counts_on (puzzle g s) x (omega arith) t })

-- whatever the grid, nothing that is counted overflows
pub record Few (z : Sizes) : Type 0 where
  pub opens : z.opens ≤ most_cells
  pub links : z.links ≤ 4 * most_cells
  pub counts : z.counts ≤ 2 ^ 30

pub sizes_few : {g : Grid} {s : List ℕ} → RecordFits g s → (x : ℕ) → x ≤ size g → {z : Sizes} → z ≡ sizes_below g s x → Few z
sizes_few {g} {s} h x l e =
    let b = grid_board g s in
    let w = h.sides.few in
    rw e (record { opens = omega (arith, rank_few b x); links = omega (arith, links_few b x); counts = omega (arith, below_few h x l) })

pub next_few : {g : Grid} {s : List ℕ} → RecordFits g s → {x : ℕ} → x < size g → {z y : Sizes} → z ≡ sizes_below g s x → y ≡ sizes_at g s x
    → Few (record { opens = z.opens + y.opens; links = z.links + y.links; counts = z.counts + y.counts })
next_few h {x} l e q = sizes_few h (x + 1) (omega arith) (sizes_next h l e q)

-- 4. V

module _ {g : Grid} {s : List ℕ} (h : RecordFits g s) {z : Sizes} (e : z ≡ sizes_of g s) where
  pub total_is : z.opens + z.opens + z.links + z.opens * z.opens + z.counts ≡ variable_count (grid_board g s)
  total_is =
      ap (λ (z : Sizes). z.opens + z.opens + z.links + z.opens * z.opens + z.counts) e
      ∙ ap (λ n. open_count b + open_count b + length (link_variables b) + open_count b * open_count b + n) (counts_are h) ∙ sym (total b)
    where
      b : Board
      b = grid_board g s

  pub square_few : z.opens * z.opens ≤ most_cells * most_cells
  square_few = let f = sizes_few h (size g) (omega arith) e in mul-le-mul f.opens f.opens

  pub total_small : z.opens + z.opens + z.links + z.opens * z.opens + z.counts < 2 ^ 64
  total_small = let f = sizes_few h (size g) (omega arith) e in omega (arith, square_few)
