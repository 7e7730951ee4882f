-- The judge's tests of a cell, by the code's branches. Assumes nothing.
use Prim.Native.Nat.{ℕ, suc, ◌+◌, ◌≤◌, ◌<◌}
use native.Mathlib.Omega.{arith}
use lib.Dec.{eqb}
use lib.ListN.{length, get_or}
use borrow.Author.Tests.{lt-ltb, le-ltb, le-leb, lt-leb, eq-eqb, ne_eqb}
use mathlib.Core.Path.{◌≡◌, refl, sym, ◌∙◌, ap}
use mathlib.Core.Bool.{Bool, true, false, not}
use Rattle.std.specs.Prelude.{Option, Some}
use mathlib.Core.List.{List, [], ◌∷◌, ◌++◌}
use Rattle.answers.specs.Lists.{how_many}
use Rattle.answers.specs.First.{found, first_from, first_where}
use Rattle.rules.specs.declared.Direction.{Direction}
use Rattle.rules.specs.declared.Direction.TheVariants.{North as north, East as east, South as south, West as west}
use Rattle.rules.specs.declared.Cell.{Cell}
use Rattle.rules.specs.declared.Cell.TheVariants.{Open, Clue as Clued, Shaded}
use Rattle.rules.specs.declared.Grid.{Grid}
use Rattle.rules.specs.declared.board.Drawn.{Drawn}
use Rattle.rules.specs.Directions.{opposite, bit}
use Rattle.rules.specs.Record.{Puzzle, size, OnBoard, RecordFits, DrawingFits, puzzle}
use Rattle.rules.specs.Board.{Board, neighbour, open_cell, line, clue_of, clues_from, board, grid_board}
use Rattle.rules.specs.Drawing.{weight, link_at, black_at}
use Rattle.rules.specs.Judge.{bad_byte, there, touches_at, unmatched_link, unless_met, unmet_clue}
use Rattle.judge_cells.specs.declared.Test.{Test}
use Rattle.judge_cells.specs.declared.Test.TheVariants.{DrawingByte, Touching, ClueNotMet, LinkUnmatched, NotTwoLinks, White}
use Rattle.judge_cells.specs.Tests.{unmet_cell, unmet_at, test_at, first_of}
use Rattle.rules.proofs.Boards.{Filled, open-at}
use Rattle.rules.proofs.Records.{puzzle-filled}
use Rattle.rules_board.proofs.Steps.{stays_on}

-- bytes of a drawing
pub open_or_not : (o : Bool) → o ≡ bad_byte o 0x20
open_or_not true = refl
open_or_not false = refl

pub low_byte : (o : Bool) (v : ℕ) → v ≤ 0x10 → not o ≡ bad_byte o v
low_byte true v h = simp (le-ltb 0x20 v (omega arith), lt-leb 0x11 v (omega arith), ne_eqb v 0x20 (λ e. omega arith))
low_byte false v h = simp (le-ltb 0x20 v (omega arith), lt-leb 0x11 v (omega arith), ne_eqb v 0x20 (λ e. omega arith))

pub middle_byte : (o : Bool) (v : ℕ) → 0x11 ≤ v → v ≤ 0x1F → true ≡ bad_byte o v
middle_byte o v h k = simp (le-ltb 0x20 v (omega arith), le-leb 0x11 v h, le-leb v 0x1F k)

pub over_byte : (o : Bool) (v : ℕ) → 0x20 < v → true ≡ bad_byte o v
over_byte o v h = simp (lt-ltb 0x20 v h)

-- a cell that was read tells whether it is open
module _ {g : Grid} {s : List ℕ} {x : ℕ} (h : RecordFits g s) (inside : x < size g) where
  pub is_opened : {c : Cell} → c ≡ get_or (puzzle g s).cells x Open → open_cell c ≡ (grid_board g s).is_open x
  is_opened e = let l = puzzle-filled g s in ap open_cell e ∙ open-at (puzzle g s).cells x (omega arith)

-- a board with its drawing fits, and so its cells are on it
pub drawing_fits : (d : Drawn) → DrawingFits d.board.grid d.board.record.now d.drawing.now
drawing_fits d = record { record_fits = d.board.fits; drawn = d.drawn }

pub on_drawn : {x : ℕ} (d : Drawn) → x < size d.board.grid → OnBoard d.board.grid x
on_drawn d h = record { sides = d.board.fits.sides; inside = h }

-- so has the drawing a byte for its neighbour
pub beside : {g : Grid} {n x y : ℕ} → OnBoard g x → n ≡ size g → (d : Direction) → Some y ≡ neighbour g d x → y < n
beside o l d e = let i = (stays_on o d e).inside in omega arith

module _ (b : Board) (ds : List ℕ) (x : ℕ) where
  -- 11: black beside black to its east or south
  pub not-black : (get_or ds x 0 ≡ 0x10 → ⊥) → false ≡ touches_at b ds x
  not-black h = rw (ne_eqb _ _ h)

  module _ (black : get_or ds x 0 ≡ 0x10) where
    pub touches_east : there (black_at ds) (b.next east x) ≡ true → true ≡ touches_at b ds x
    touches_east e = rw (eq-eqb _ _ black, e)

    pub touches_south : {t : Bool} → there (black_at ds) (b.next east x) ≡ false → t ≡ there (black_at ds) (b.next south x) → t ≡ touches_at b ds x
    touches_south e h = h ∙ rw (eq-eqb _ _ black, e)

  -- 13: a link that is unmatched or off the board
  module _ (d : Direction) where
    pub no_link : link_at ds x d ≡ false → false ≡ unmatched_link b ds x d
    no_link e = rw e

    pub matched_back : {t : Bool} → link_at ds x d ≡ true → t ≡ there (λ y. link_at ds y (opposite d)) (b.next d x) → not t ≡ unmatched_link b ds x d
    matched_back e h = ap not h ∙ rw e

-- the first unmet clue of the board is the first cell that is one
module _ (p : Puzzle) (ds : List ℕ) where
  unmet_from : (cs : List Cell) (a : ℕ) → ((k : ℕ) → k < length cs → get_or p.cells (a + k) Open ≡ get_or cs k Open)
      → first_from (unmet_at p ds) a (length cs) ≡ unmet_clue (black_at ds) (clues_from p a cs)
  unfolding first_from
  unmet_from [] a at = refl
  unmet_from (c ∷ cs) a at =
      ap (λ (t : Bool). found t a (first_from (unmet_at p ds) (suc a) (length cs))) (ap (unmet_cell p (black_at ds) a) here) ∙ by c (unmet_from cs (suc a) later)
    where
      here : get_or p.cells a Open ≡ c
      here = let e : a + 0 ≡ a = omega arith in rw e at (at 0 (omega arith))

      later : (k : ℕ) → k < length cs → get_or p.cells (suc a + k) Open ≡ get_or cs k Open
      later k h = let e : a + suc k ≡ suc a + k = omega arith in rw e at (at (suc k) (omega arith))

      turned : (t : Bool) (rest : Option ℕ) → found (not t) a rest ≡ unless_met t a rest
      turned true rest = refl
      turned false rest = refl

      by : (c : Cell) → first_from (unmet_at p ds) (suc a) (length cs) ≡ unmet_clue (black_at ds) (clues_from p (suc a) cs)
          → found (unmet_cell p (black_at ds) a c) a (first_from (unmet_at p ds) (suc a) (length cs)) ≡ unmet_clue (black_at ds)
          (clue_of p a c ++ clues_from p (suc a) cs)
      by Open ih = ih
      by Shaded ih = ih
      by (Clued d n) ih = turned (eqb (how_many (black_at ds) (line p d a)) n) _ ∙ ap (unless_met (eqb (how_many (black_at ds) (line p d a)) n) a) ih

  unmet_first : Filled p → first_where (unmet_at p ds) (size p.grid) ≡ unmet_clue (black_at ds) (clues_from p 0 p.cells)
  unmet_first f = ap (first_where (unmet_at p ds)) (sym f) ∙ unmet_from p.cells 0 (λ k h. let e : 0 + k ≡ k = omega arith in rw e)

  -- what is sought cell by cell is the first of it
  first-of : Filled p → (t : Test) → first_where (test_at t p ds) (size p.grid) ≡ first_of t (board p) ds
  first-of f DrawingByte = refl
  first-of f Touching = refl
  first-of f ClueNotMet = unmet_first f
  first-of f LinkUnmatched = refl
  first-of f NotTwoLinks = refl
  first-of f White = refl

pub sought : {g : Grid} {s ds : List ℕ} {o : Option ℕ} (t : Test) → DrawingFits g s ds → o ≡ first_where (test_at t (puzzle g s) ds) (size g)
    → o ≡ first_of t (grid_board g s) ds
sought {g = g} {s = s} {ds = ds} t d e = e ∙ first-of (puzzle g s) ds (puzzle-filled g s) t

pub weight_positive : (d : Direction) → 0 < weight d
weight_positive north = omega arith
weight_positive east = omega arith
weight_positive south = omega arith
weight_positive west = omega arith

pub bit_small : (t : Bool) → bit t ≤ 1
bit_small true = omega arith
bit_small false = omega arith
