-- The numbers of a cell's variables by the table, and the neighbour in a direction, the same for all four. Assumes nothing.
use Prim.Native.Nat.{ℕ, ◌+◌, ◌*◌, ◌≤◌, ◌<◌, ◌^◌}
use native.Mathlib.Omega.{arith}
use native.Mathlib.Nat.{mul-le-mul}
use lib.ListN.{length}
use mathlib.Core.Path.{◌≡◌, sym, ◌∙◌, ap}
use mathlib.Core.Bool.{cond}
use Rattle.std.specs.Prelude.{Some}
use mathlib.Core.List.Memᴰ
use mathlib.Core.List.{List}
use Rattle.answers.specs.Lists.{◌∈◌}
use Rattle.rules.specs.declared.Direction.{Direction}
use Rattle.rules.specs.declared.Grid.{Grid}
use Rattle.rules.specs.Directions.{opposite}
use Rattle.rules.specs.Record.{size, puzzle, most_cells, RecordFits}
use Rattle.rules.specs.Board.{grid_board}
use Rattle.rules.proofs.Boards.{Laws, laws}
use Rattle.rules.proofs.Records.{puzzle-filled}
use Rattle.encoder.specs.Variables.{Z, S, E, Q, neighbours, open_count, number, rank, earlier}
use Rattle.encoder.proofs.Neighbours.{in_opens}
use Rattle.encoder.proofs.Places.{place_z, place_s, place_e, place_q}
use Rattle.encoder_numbers.specs.declared.Sizes.{Sizes}
use Rattle.encoder_numbers.specs.declared.NeighbourNumbers.{NeighbourNumbers}
use Rattle.encoder_numbers.specs.declared.CellNumbers.{CellNumbers}
use Rattle.encoder_numbers.specs.Tables.{sizes_below, open_neighbour, Tables, OpenCell, OpenPair}
use Rattle.encoder_numbers.specs.Numbered.{black_of, cell_numbers_of}
use Rattle.encoder_numbers.proofs.Numbers.{Few, sizes_few, square_few, earlier_few, there_some}

pub fits_laws : {g : Grid} {s : List ℕ} → RecordFits g s → Laws (grid_board g s)
fits_laws {g} {s} h = laws (puzzle g s) (puzzle-filled g s)

-- there is an open cell, so F is not 0
some_member : {A : Type 0} {x : A} {xs : List A} → x ∈ xs → 0 < length xs
some_member (Memᴰ.head e) = omega arith
some_member (Memᴰ.tail m) = omega arith

pub some_open : {g : Grid} {s : List ℕ} {x : ℕ} → RecordFits g s → OpenCell g s x → 0 < open_count (grid_board g s)
some_open {g} {s} h o = some_member (in_opens (grid_board g s) (fits_laws h) o.opened)

-- an open neighbour, and the same link seen from there
module _ {g : Grid} {s : List ℕ} (h : RecordFits g s) {x : ℕ} {d : Direction} {y : ℕ} where
  pub open_pair : OpenCell g s x → Some y ≡ open_neighbour (grid_board g s) d x → OpenPair g s x d y
  open_pair o e =
      let r = there_some (grid_board g s) x d e in
      record { here = o; leads = r.0; there = record { inside = ((fits_laws h).wired.inside d x y r.0).1; opened = r.1 } }

  pub pair_back : {c : Direction} → c ≡ opposite d → OpenPair g s x d y → OpenPair g s y c x
  pair_back q p = record { here = p.there; leads = ap (λ d. (grid_board g s).next d y) q ∙ (fits_laws h).wired.back d x y p.leads; there = p.here }

module _ {g : Grid} {s table : List ℕ} {sizes : Sizes} (t : Tables g s sizes table) where
  -- the sizes, all and those of the cells before x, and their bounds
  pub few : Few sizes
  few = sizes_few t.record_fits (size g) (omega arith) t.sized

  module _ {x : ℕ} (l : x < size g) {z : Sizes} (e : z ≡ sizes_below g s x) where
    few_below : Few z
    few_below = sizes_few t.record_fits x (omega arith) e

    pub product_few : z.opens * sizes.opens ≤ most_cells * most_cells
    product_few = mul-le-mul few_below.opens few.opens

    -- no number overflows
    pub cell_small : sizes.opens + z.opens + 1 < 2 ^ 64
    cell_small = let f = few in let b = few_below in omega arith

    pub link_small : (d : Direction) {n : ℕ} → n ≡ length (neighbours (grid_board g s) x (earlier d))
        → sizes.opens + sizes.opens + z.links + n + 1 < 2 ^ 64
    link_small d q = let f = few in let b = few_below in omega (arith, earlier_few (grid_board g s) x d)

    pub distance_small : sizes.opens + sizes.opens + sizes.links + z.opens * sizes.opens + 1 < 2 ^ 64
    distance_small = let f = few in omega (arith, product_few)

    pub count_small : sizes.opens + sizes.opens + sizes.links + sizes.opens * sizes.opens + z.counts + 1 < 2 ^ 64
    count_small = let f = few in let b = few_below in omega (arith, square_few t.record_fits t.sized)

  -- Z, S, Q and E of an open cell
  module _ {x : ℕ} (o : OpenCell g s x) {z : Sizes} (e : z ≡ sizes_below g s x) where
    pub number_z : z.opens + 1 ≡ number (grid_board g s) (Z x)
    number_z = let p = place_z (grid_board g s) (fits_laws t.record_fits) x o.opened in omega (arith, ap (λ (z : Sizes). z.opens) e)

    pub number_s : sizes.opens + z.opens + 1 ≡ number (grid_board g s) (S x)
    number_s =
        let p = place_s (grid_board g s) (fits_laws t.record_fits) x o.opened in
        omega (arith, ap (λ (z : Sizes). z.opens) e, ap (λ (z : Sizes). z.opens) t.sized)

    pub number_q : sizes.opens + sizes.opens + sizes.links + z.opens * sizes.opens + 1 ≡ number (grid_board g s) (Q x 0)
    number_q =
        let b = grid_board g s in
        let p = place_q b (fits_laws t.record_fits) x 0 o.opened (some_open t.record_fits o) in
        let q : z.opens * sizes.opens ≡ rank b x * open_count b = (λ i. (e i).opens * (t.sized i).opens) in
        omega (arith, ap (λ (z : Sizes). z.opens) t.sized, ap (λ (z : Sizes). z.links) t.sized)

    pub number_e : {d : Direction} {y n : ℕ} → OpenPair g s x d y → n ≡ length (neighbours (grid_board g s) x (earlier d))
        → sizes.opens + sizes.opens + z.links + n + 1 ≡ number (grid_board g s) (E x d)
    number_e {d} {y} p q =
        let k = place_e (grid_board g s) (fits_laws t.record_fits) x d y o.opened p.leads p.there.opened in
        omega (arith, ap (λ (z : Sizes). z.links) e, ap (λ (z : Sizes). z.opens) t.sized)

    -- the number of Z, or 0
    pub black_open : z.opens + 1 ≡ black_of (grid_board g s) x
    black_open = number_z ∙ sym (ap (λ t. cond t (number (grid_board g s) (Z x)) 0) o.opened)

  -- all of a cell
  pub cell_is : {x : ℕ} → OpenCell g s x → {z : Sizes} {n : ℕ} {north east south west : NeighbourNumbers} → z ≡ sizes_below g s x
      → n ≡ number (grid_board g s) (Q x 0)
      → north ≡ (cell_numbers_of (grid_board g s) x).north → east ≡ (cell_numbers_of (grid_board g s) x).east
      → south ≡ (cell_numbers_of (grid_board g s) x).south → west ≡ (cell_numbers_of (grid_board g s) x).west
      → ◌≡◌ {A = CellNumbers}
      (record {
        rank = z.opens;
        black = z.opens + 1;
        start = sizes.opens + z.opens + 1;
        distance = n;
        north = north;
        east = east;
        south = south;
        west = west;
      })
      (cell_numbers_of (grid_board g s) x)
  cell_is o e q hn he hs hw =
      (λ i. record { rank = (e i).opens; black = number_z o e i; start = number_s o e i; distance = q i; north = hn i; east = he i; south = hs i; west = hw i })
