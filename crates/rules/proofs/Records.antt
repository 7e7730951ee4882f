-- The codes of cells, and what an accepted record is. Assumes nothing.
use Prim.Native.Nat.{ℕ, ◌+◌, ◌-◌, ◌*◌, ◌/◌, ◌%◌, ◌≤◌, ◌<◌}
use native.Mathlib.Omega.{arith}
use native.Mathlib.Nat.{mul-le-mul, div-add-mod'}
use lib.Dec.{eqb, leb, ltb}
use lib.ListN.{length, get_or}
use borrow.Author.Tests.{eqb-true, leb-true, lt-ltb, le-ltb, eq-eqb, ne_eqb, le-leb, not-false}
use mathlib.Core.Path.{◌≡◌, refl, sym, ◌∙◌, ap, subst}
use mathlib.Core.Bool.{Bool, true, false, not, cond}
use mathlib.Core.Logic.{inl, inr}
use Rattle.std.specs.Prelude.{None, Some, Option, Result, Ok, Err}
use mathlib.Core.List.{List, [], ◌∷◌, ◌++◌}
use Rattle.answers.proofs.First.{first_none}
use Rattle.answers.proofs.Bools.{clash, and_both, or_left, or_right, or_neither}
use Rattle.answers.proofs.Rows.{Clear, answered_clear, clear_answered, no-cause, still_refused, refusals_append}
use Rattle.answers.proofs.OneToOne.{number-not}
use Rattle.answers.proofs.Elements.{all_left, all_right, all_map, made_long, made_at}
use Rattle.answers.specs.Lists.{All, up_to}
use Rattle.answers.specs.declared.Outcome.{Outcome}
use Rattle.answers.specs.First.{first_where}
use Rattle.answers.specs.Outcome.{Row, cause, first_refusal}
use types.Run.{OneOf}
use denote.Enum.Declared.{tag_of}
use Rattle.rules.specs.declared.Cell.{Cell}
use Rattle.rules.specs.contracts.Cell.{the_type}
use Rattle.rules.specs.declared.Cell.TheVariants.{Open, Clue, Shaded}
use Rattle.rules.specs.declared.Kind.{Kind}
use Rattle.rules.specs.declared.Layout.{Layout}
use Rattle.rules.specs.declared.Layout.TheVariants.{Byte, Word}
use Rattle.rules.specs.declared.Grid.{Grid}
use Rattle.rules.specs.declared.RecordRefusal.{RecordRefusal}
use Rattle.rules.specs.declared.board.Board as code
use Rattle.rules.specs.Board.{Board, open_cell, board_of, grid_board}
use Rattle.rules.specs.Read.{puzzle_on, rules_board}
use Rattle.rules.proofs.Boards.{Laws, Filled, laws}
use Rattle.rules.proofs.Outcomes.{record_numbers, grid_told, grid-told}
use Rattle.rules.specs.Record.{layout_of, read_kind, kind_of, kind_not_allowed, most_side, cell_bytes, most_number, direction_unit, direction_of, is_direction}
use Rattle.rules.specs.Record.{is_clue, shaded_code, read_cell, cell_of, not_allowed, word, grid_of, size, cell_code, cell_at, puzzle, is_side}
use Rattle.rules.specs.Record.{Sides, RecordSized, RecordFits, wrong_length, wrong_kind, wrong_side, wrong_size, wrong_cell, record_rows, grid_answer}
use Rattle.rules.specs.Record.{record_answer, IsAccepted, record_refusal_outcome, parsed_outcome}

-- The codes of cells, once for every direction and layout

-- a clue's code: its direction d and its number n
clue_of : (k : Layout) (c d n : ℕ) → 1 ≤ d → d ≤ 4 → n ≤ most_number k → (c ≡ 0 → ⊥) → c / direction_unit k ≡ d → c % direction_unit k ≡ n
    → Some (Clue (direction_of d) n) ≡ read_cell k c
clue_of k c d n low high m z q r = simp (ne_eqb c 0 z, q, r, le-leb 1 d low, le-leb d 4 high, le-leb n (most_number k) m)

pub clue_code : (k : Layout) (c d n : ℕ) → 1 ≤ d → d ≤ 4 → n ≤ most_number k → c ≡ d * direction_unit k + n → Some (Clue (direction_of d) n) ≡ read_cell k c
clue_code Byte c d n low high m e = clue_of Byte c d n low high m (λ z. omega arith) (omega arith) (omega arith)
clue_code Word c d n low high m e = clue_of Word c d n low high m (λ z. omega arith) (omega arith) (omega arith)

-- the codes of a direction from its first to its largest number
pub clue_within : (k : Layout) (c d : ℕ) → 1 ≤ d → d ≤ 4 → d * direction_unit k ≤ c → c ≤ d * direction_unit k + most_number k
    → Some (Clue (direction_of d) (c % direction_unit k)) ≡ read_cell k c
clue_within Byte c d low high from to = clue_code Byte c d _ low high (omega arith) (omega arith)
clue_within Word c d low high from to = clue_code Word c d _ low high (omega arith) (omega arith)

-- what a code is read as
pub data ReadAs (k : Layout) (c : ℕ) : Option Cell → Type 0 where
  as_open : c ≡ 0 → ReadAs k c (Some Open)
  as_clue : (d n : ℕ) → 1 ≤ d → d ≤ 4 → n ≤ most_number k → c ≡ d * direction_unit k + n → ReadAs k c (Some (Clue (direction_of d) n))
  as_shaded : c ≡ shaded_code k → ReadAs k c (Some Shaded)
  as_none : ReadAs k c None

pub read_as : (k : Layout) (c : ℕ) → ReadAs k c (read_cell k c)
read_as k c = by (eqb c 0) refl (is_clue k c) refl (eqb c (shaded_code k)) refl
  where
    by : (s : Bool) → eqb c 0 ≡ s → (t : Bool) → is_clue k c ≡ t → (u : Bool) → eqb c (shaded_code k) ≡ u
        → ReadAs k c (cond s (Some Open) (cond t (Some (Clue (direction_of (c / direction_unit k)) (c % direction_unit k))) (cond u (Some Shaded) None)))
    by true z t e u f = as_open (eqb-true c 0 z)
    by false z true e u f =
        let (d, m) = and_both (is_direction (c / direction_unit k)) _ e in
        let (low, high) = and_both (leb 1 (c / direction_unit k)) _ d in
        as_clue _ _ (leb-true _ _ low) (leb-true _ _ high) (leb-true _ _ m) (sym (div-add-mod' c (direction_unit k)))
    by false z false e true f = as_shaded (eqb-true _ _ f)
    by false z false e false f = as_none

pub shaded-code : (k : Layout) (c : ℕ) → c ≡ shaded_code k → Some Shaded ≡ read_cell k c
shaded-code Byte c e = rw e
shaded-code Word c e = rw e

-- what is neither 0 nor the code of a clue or a shaded cell is not allowed:
no_code : (k : Layout) (c : ℕ) → (c ≡ 0 → ⊥) → ((d n : ℕ) → 1 ≤ d → d ≤ 4 → n ≤ most_number k → c ≡ d * direction_unit k + n → ⊥) → (c ≡ shaded_code k → ⊥)
    → None ≡ read_cell k c
no_code k c z no_clue not_shaded = by (read_as k c)
  where
    by : {r : Option Cell} → ReadAs k c r → None ≡ r
    by (as_open e) = absurd (z e)
    by (as_clue d n low high m e) = absurd (no_clue d n low high m e)
    by (as_shaded e) = absurd (not_shaded e)
    by as_none = refl

-- a number with no direction, one that is too large (with one byte none is), and all after the last clue but a shaded cell's
pub no_direction : (k : Layout) (c : ℕ) → (c ≡ 0 → ⊥) → c < direction_unit k → None ≡ read_cell k c
no_direction Byte c z h = no_code Byte c z (λ d n low high m e. omega arith) (λ e. omega arith)
no_direction Word c z h = no_code Word c z (λ d n low high m e. omega arith) (λ e. omega arith)

pub large_number : (c b : ℕ) → b * 0x1000 + 44 < c → c < (b + 1) * 0x1000 → None ≡ read_cell Word c
large_number c b over under = no_code Word c (λ z. omega arith) (λ d n low high m e. omega arith) (λ e. omega arith)

pub past_clues : (k : Layout) (c : ℕ) → 4 * direction_unit k + most_number k < c → (c ≡ shaded_code k → ⊥) → None ≡ read_cell k c
past_clues Byte c h = no_code Byte c (λ z. omega arith) (λ d n low high m e. omega arith)
past_clues Word c h = no_code Word c (λ z. omega arith) (λ d n low high m e. omega arith)

-- the cell numbered x is that of its code
pub cell-at : (g : Grid) (s : List ℕ) (x : ℕ) → x < size g → cell_at (layout_of g.kind) s x ≡ get_or (puzzle g s).cells x Open
cell-at g s x h = sym (made_at (cell_at (layout_of g.kind) s) Open (size g) x h)

-- the sum of a code's first and last byte
abbrev ends_sum : Layout → List ℕ → ℕ → ℕ
ends_sum k s x = get_or s (6 + cell_bytes k * x) 0 + get_or s (6 + cell_bytes k * x + cell_bytes k - 1) 0

sum_zero : (k : Layout) (s : List ℕ) (x : ℕ) → (cell_code k s x ≡ 0 → ends_sum k s x ≡ 0) × (ends_sum k s x ≡ 0 → cell_code k s x ≡ 0)
sum_zero Byte s x =
    let first : 6 + 1 * x ≡ 6 + x = omega arith in
    let last : 6 + 1 * x + 1 - 1 ≡ 6 + x = omega arith in
    rw (last, first) (λ e. omega arith, λ e. omega arith)
sum_zero Word s x = let last : 6 + 2 * x + 2 - 1 ≡ 6 + 2 * x + 1 = omega arith in rw last (λ e. omega arith, λ e. omega arith)

clue_not_zero : (k : Layout) {c : ℕ} (d n : ℕ) → 1 ≤ d → c ≡ d * direction_unit k + n → c ≡ 0 → ⊥
clue_not_zero Byte d n low e z = omega arith
clue_not_zero Word d n low e z = omega arith

shaded_not_zero : (k : Layout) {c : ℕ} → c ≡ shaded_code k → c ≡ 0 → ⊥
shaded_not_zero Byte e z = omega arith
shaded_not_zero Word e z = omega arith

-- of the codes that are allowed only an open cell's has the sum 0
pub open_sum : (k : Layout) (s : List ℕ) (x : ℕ) → not_allowed (read_cell k (cell_code k s x)) ≡ false → eqb (ends_sum k s x) 0 ≡ open_cell (cell_at k s x)
open_sum k s x = by (read_as k (cell_code k s x))
  where
    by : {r : Option Cell} → ReadAs k (cell_code k s x) r → not_allowed r ≡ false → eqb (ends_sum k s x) 0 ≡ open_cell (cell_of r)
    by (as_open e) h = eq-eqb _ 0 ((sum_zero k s x).0 e)
    by (as_clue d n low high m e) h = ne_eqb _ 0 (λ z. clue_not_zero k d n low e ((sum_zero k s x).1 z))
    by (as_shaded e) h = ne_eqb _ 0 (λ z. shaded_not_zero k e ((sum_zero k s x).1 z))
    by as_none h = clash refl h

-- where a cell is not found to be a clue, it is open or shaded
pub else_clue : (P : Cell → Type 0) → P Open → P Shaded → (c : Cell) → OneOf (0 ∷ 2 ∷ []) (tag_of the_type c) → P c
else_clue P o s Open h = o
else_clue P o s (Clue d n) (inl e) = absurd (omega arith)
else_clue P o s (Clue d n) (inr e) = absurd (omega arith)
else_clue P o s Shaded h = s

-- a grid has as many cells as its sides say
pub puzzle-filled : (g : Grid) (s : List ℕ) → Filled (puzzle g s)
puzzle-filled g s = made_long (cell_at (layout_of g.kind) s) (size g)

-- the number of a clue, 0 for another cell; none is above 44
abbrev pub number_of : Cell → ℕ
number_of Open = 0
number_of (Clue d n) = n
number_of Shaded = 0

number_bound : (k : Layout) → most_number k ≤ 44
number_bound Byte = omega arith
number_bound Word = omega arith

code_number : (k : Layout) (c : ℕ) → number_of (cell_of (read_cell k c)) ≤ 44
code_number k c = by (read_as k c)
  where
    by : {r : Option Cell} → ReadAs k c r → number_of (cell_of r) ≤ 44
    by (as_open e) = omega arith
    by (as_clue d n low high m e) = omega (arith, number_bound k)
    by (as_shaded e) = omega arith
    by as_none = omega arith

pub numbers_small : (g : Grid) (s : List ℕ) → All (λ c. number_of c ≤ 44) (puzzle g s).cells
numbers_small g s =
    let l = layout_of g.kind in all_map (λ c. number_of c ≤ 44) (cell_at l s) (up_to (size g)) (λ x m. code_number l (cell_code l s x))

pub number_small : (g : Grid) (s : List ℕ) (x : ℕ) → x < size g → number_of (get_or (puzzle g s).cells x Open) ≤ 44
number_small g s x h = subst (λ c. number_of c ≤ 44) (cell-at g s x h) (code_number (layout_of g.kind) (cell_code (layout_of g.kind) s x))

-- a side is 1 to 45, whatever the layout
side_bound : (k : Layout) → most_side k ≤ 45
side_bound Byte = omega arith
side_bound Word = omega arith

side_between : (k : Layout) (n : ℕ) → is_side k n ≡ true → (1 ≤ n) × (n ≤ 45)
side_between k n h =
    let (low, high) = and_both (leb 1 n) (leb n (most_side k)) h in
    let l : n ≤ most_side k = leb-true _ _ high in
    (leb-true _ _ low, omega (arith, side_bound k))

-- a cell has one byte or two
pub bytes_few : (k : Layout) (n : ℕ) → cell_bytes k * n ≤ 2 * n
bytes_few Byte n = omega arith
bytes_few Word n = omega arith

pub bytes_inside : (k : Layout) {b n x : ℕ} → b ≡ cell_bytes k → x < n → (1 ≤ b) × (b * x + b ≤ cell_bytes k * n)
bytes_inside Byte e h = rw e (omega arith, omega arith)
bytes_inside Word e h = rw e (omega arith, omega arith)

pub fits_sized : {g : Grid} {s : List ℕ} → RecordFits g s → RecordSized g s
fits_sized h = record { sides = h.sides; long = h.long }

pub sides_small : (g : Grid) → is_side (layout_of g.kind) g.rows ≡ true → is_side (layout_of g.kind) g.columns ≡ true → Sides g
sides_small g h k =
    let r = side_between (layout_of g.kind) g.rows h in
    let c = side_between (layout_of g.kind) g.columns k in
    let m : g.rows * g.columns ≤ 45 * 45 = mul-le-mul r.1 c.1 in
    record { wide = omega (arith, c.0); narrow = omega (arith, c.1); few = omega arith }

module _ (s : List ℕ) (acc : IsAccepted s) where
  pub accepted_clear : Clear (record_rows s)
  accepted_clear = answered_clear (record_rows s) _ refl acc

  -- its sides are small,
  accepted_sides : (is_side (layout_of (grid_of s).kind) (grid_of s).rows ≡ true) × (is_side (layout_of (grid_of s).kind) (grid_of s).columns ≡ true)
  accepted_sides =
      let (c1, (c2, (c3, c))) = accepted_clear in
      let w = or_neither (not (is_side (layout_of (grid_of s).kind) (grid_of s).rows)) _ (no-cause _ c3) in
      (not-false _ w.0, not-false _ w.1)

  pub accepted_some : 0 < (grid_of s).rows
  accepted_some = (side_between (layout_of (grid_of s).kind) _ accepted_sides.0).0

  pub accepted_rows : (grid_of s).rows ≤ 45
  accepted_rows = (side_between (layout_of (grid_of s).kind) _ accepted_sides.0).1

  pub accepted_columns : (grid_of s).columns ≤ 45
  accepted_columns = (side_between (layout_of (grid_of s).kind) _ accepted_sides.1).1

  -- it is as long as they say, and its codes are allowed
  pub accepted_fits : RecordFits (grid_of s) s
  accepted_fits =
      let (c1, (c2, (c3, (c4, c)))) = accepted_clear in
      record {
        sides = sides_small (grid_of s) accepted_sides.0 accepted_sides.1;
        long = eqb-true _ _ (not-false _ (no-cause _ c4));
        allowed = first_none _ _ c.0;
      }

  pub accepted_laws : Laws (board_of s)
  accepted_laws = laws (puzzle (grid_of s) s) (puzzle-filled (grid_of s) s)

-- Rows that come after the reader's: none has its cause, so none of the reader's has, and the record is accepted
module _ (s : List ℕ) where
  pub clear_parts : (qs : List Row) → Clear (record_rows s ++ qs) → Clear (record_rows s) × Clear qs
  clear_parts qs c = (all_left (λ (r : Row). r.beside ≡ None) (record_rows s) qs c, all_right (λ (r : Row). r.beside ≡ None) (record_rows s) qs c)

  pub clear_accepted : Clear (record_rows s) → IsAccepted s
  clear_accepted c = ap (λ (t : Outcome). t.number) (clear_answered (record_rows s) _ c)

-- The causes of rows 1 to 5, by the code's tests
module _ (s : List ℕ) where
  pub short_record : length s < 6 → Some 0 ≡ cause (wrong_length s)
  short_record h = ap cause (sym (or_left _ _ (lt-ltb _ _ h)))

  pub other_length : (word s 0 ≡ length s → ⊥) → Some 0 ≡ cause (wrong_length s)
  other_length h = ap cause (sym (or_right (ltb (length s) 6) _ (ap not (ne_eqb _ _ h))))

  pub right_length : 6 ≤ length s → word s 0 ≡ length s → None ≡ cause (wrong_length s)
  right_length h e = rw (le-ltb _ _ h, eq-eqb _ _ e)

  pub wrong-kind : None ≡ read_kind (word s 2) → Some 0 ≡ cause (wrong_kind s)
  wrong-kind e = ap (λ f. cause (kind_not_allowed f)) e

  module _ {k : Kind} (e : Some k ≡ read_kind (word s 2)) where
    pub right_kind : None ≡ cause (wrong_kind s)
    right_kind = ap (λ f. cause (kind_not_allowed f)) e

    -- the grid of this kind is the record's
    pub grid_is : record { kind = k; rows = get_or s 4 0; columns = get_or s 5 0 } ≡ grid_of s
    grid_is = λ i. record { kind = kind_of (e i); rows = get_or s 4 0; columns = get_or s 5 0 }

module _ {g h : Grid} (e : g ≡ h) where
  pub wrong_rows : is_side (layout_of g.kind) g.rows ≡ false → Some 0 ≡ cause (wrong_side h)
  wrong_rows f = ap cause (sym (or_left _ _ (ap not f))) ∙ ap (λ g. cause (wrong_side g)) e

  pub wrong_columns : is_side (layout_of g.kind) g.columns ≡ false → Some 0 ≡ cause (wrong_side h)
  wrong_columns f = ap cause (sym (or_right (not (is_side (layout_of g.kind) g.rows)) _ (ap not f))) ∙ ap (λ g. cause (wrong_side g)) e

  pub right_sides : is_side (layout_of g.kind) g.rows ≡ true → is_side (layout_of g.kind) g.columns ≡ true → None ≡ cause (wrong_side h)
  right_sides f k = rw (f, k) at (ap (λ g. cause (wrong_side g)) e)

  pub other-size : (s : List ℕ) → (length s ≡ 6 + cell_bytes (layout_of g.kind) * size g → ⊥) → Some 0 ≡ cause (wrong_size h s)
  other-size s f = ap (λ t. cause (not t)) (sym (ne_eqb _ _ f)) ∙ ap (λ g. cause (wrong_size g s)) e

  pub right_size : (s : List ℕ) → length s ≡ 6 + cell_bytes (layout_of g.kind) * size g → None ≡ cause (wrong_size h s)
  right_size s f = ap (λ t. cause (not t)) (sym (eq-eqb _ _ f)) ∙ ap (λ g. cause (wrong_size g s)) e

  pub cells_sought : (s : List ℕ) → first_where (wrong_cell g s) (size g) ≡ first_where (wrong_cell h s) (size h)
  cells_sought s = ap (λ g. first_where (wrong_cell g s) (size g)) e

-- What the reader told, for the calls that go on after it: no refusal has the number 0
pub refusal-number : (r : RecordRefusal) → (record_refusal_outcome r).number ≡ 0 → ⊥
refusal-number r = number-not record_numbers r (omega arith)

-- a refusal is passed up unchanged, whatever rows come after the reader's
pub passes_up : (s : List ℕ) (qs : List Row) (t : Outcome) (r : RecordRefusal) → record_refusal_outcome r ≡ record_answer s
    → record_refusal_outcome r ≡ first_refusal (record_rows s ++ qs) t
passes_up s qs t r e = e ∙ still_refused (record_rows s) qs _ t refl (λ z. refusal-number r (ap (λ (u : Outcome). u.number) e ∙ z))

module _ (s : List ℕ) (g : Grid) (e : grid_answer g ≡ record_answer s) where
  pub is_accepted : IsAccepted s
  is_accepted = sym (ap (λ (u : Outcome). u.number) e)

  pub read_grid : g ≡ grid_of s
  read_grid =
      let all : grid_answer g ≡ grid_answer (grid_of s) = e ∙ clear_answered (record_rows s) _ (accepted_clear s is_accepted) in
      sym (grid-told g) ∙ ap grid_told all ∙ grid-told (grid_of s)

  pub read_fits : RecordFits g s
  read_fits = rw read_grid (accepted_fits s is_accepted)

  -- the call is left to the rows after the reader's, over the grid that was read
  pub goes_on : (rows : Grid → List Row) (t : Outcome) → first_refusal (rows g) t ≡ first_refusal (record_rows s ++ rows (grid_of s)) t
  goes_on rows t =
      ap (λ (g : Grid). first_refusal (rows g) t) read_grid ∙ sym
      (refusals_append (record_rows s) (rows (grid_of s)) t ∙ clear_answered (record_rows s) _ (accepted_clear s is_accepted))

-- The board that was read is the one of the record's rules
module _ (s : List ℕ) (b : code.Board) (told : grid_answer b.grid ≡ record_answer s) (same : b.record.now ≡ s) where
  pub same_board : rules_board b ≡ board_of s
  same_board = λ i. grid_board (read_grid s b.grid told i) (same i)

  pub same_puzzle : puzzle_on b ≡ puzzle (grid_of s) s
  same_puzzle = λ i. puzzle (read_grid s b.grid told i) (same i)

  -- and the call is left to the rows after the reader's
  pub board_goes_on : (rows : Board → List Row) (t : Outcome) → first_refusal (rows (rules_board b)) t
      ≡ first_refusal (record_rows s ++ rows (board_of s)) t
  board_goes_on rows t =
      ap (λ (x : Board). first_refusal (rows x) t) same_board ∙ sym
      (refusals_append (record_rows s) (rows (board_of s)) t ∙ clear_answered (record_rows s) _ (accepted_clear s (is_accepted s b.grid told)))
