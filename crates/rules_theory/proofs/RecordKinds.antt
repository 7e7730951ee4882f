-- What the reader tells of a record of each kind, in the documents' words. Once for all kinds. Assumes nothing.
use Prim.Native.Nat.{ℕ, suc, ◌+◌, ◌*◌, ◌≤◌, ◌<◌}
use native.Mathlib.Omega.{arith}
use lib.Dec.{eqb, leb, ltb}
use lib.ListN.{length, get_or, take, drop}
use lib.Seq.{get_or-drop}
use borrow.Author.Tests.{eqb-true, eqb-false, ltb-false, leb-true, le-ltb, le-leb, eq-eqb, not-false}
use mathlib.Core.Path.{◌≡◌, refl, sym, ◌∙◌, ap, subst}
use mathlib.Core.Bool.{Bool, true, false, not, ◌&&◌, cond}
use mathlib.Core.Logic.{◌↔◌, ◌⊎◌, inl, inr}
use Rattle.std.specs.Prelude.{Option, None, Some}
use mathlib.Core.List.{List, [], ◌∷◌, ◌++◌}
use Rattle.answers.specs.declared.Outcome.{Outcome}
use Rattle.answers.specs.First.{first_where, LeastWith}
use Rattle.answers.specs.Outcome.{refusal, Row, cause, unless, first_refusal}
use Rattle.answers.proofs.Bools.{clash, and_both, both_and, or_neither}
use Rattle.answers.proofs.Rows.{refusals_append, clear_answered, no-cause}
use Rattle.answers.proofs.First.{first_none, none_first, first_with}
use Rattle.rules.specs.declared.Direction.{Direction}
use Rattle.rules.specs.declared.Direction.TheVariants.{North as north, East as east, South as south, West as west}
use Rattle.rules.specs.declared.Layout.{Layout}
use Rattle.rules.specs.declared.Layout.TheVariants.{Byte, Word}
use Rattle.rules.specs.declared.Kind.{Kind}
use Rattle.rules.specs.declared.Kind.TheVariants.{One, Two, Three}
use Rattle.rules.specs.declared.Cell.{Cell}
use Rattle.rules.specs.declared.Cell.TheVariants.{Open, Clue, Shaded}
use Rattle.rules.specs.declared.Grid.{Grid}
use Rattle.rules.specs.Board.{Board, neighbour, open_at, clue_cell, stops_before_clues, unless_stopped, outward, line_next, clue_of, clues_from, board, board_of}
use Rattle.rules.specs.Record.{Puzzle, layout_of, kind_number, read_kind, kind_not_allowed, most_side, cell_bytes, most_number, direction_unit, shaded_code, read_cell}
use Rattle.rules.specs.Record.{cell_of, not_allowed, word, grid_of, size, cell_code, cell_at, puzzle, is_side, wrong_length, wrong_kind, wrong_side, wrong_size}
use Rattle.rules.specs.Record.{grid_cell, wrong_cell, record_rows, grid_answer, record_answer, IsAccepted}
use Rattle.rules.proofs.Records.{ReadAs, as_open, as_clue, as_shaded, as_none, read_as, clue_code, shaded-code, cell-at, puzzle-filled, accepted_clear}
use Rattle.rules.proofs.Records.{right_length, right_kind, grid_is}
use Rattle.rules_theory.specs.RecordKinds.{RecordKind, little_endian, bytes_at, Whole, cell_count, CodeIs, codes_open, codes_clue, codes_shaded, OfKind, Sided}
use Rattle.rules_theory.specs.RecordKinds.{RightLength, code_at, NoCell, Accepts, Refuses, OfOtherKind, SameGrid}

-- 1. Bytes

first_byte : (xs : List ℕ) → little_endian (take 1 xs) ≡ get_or xs 0 0
first_byte [] = refl
first_byte (x ∷ xs) = omega arith

two_bytes : (xs : List ℕ) → little_endian (take 2 xs) ≡ get_or xs 0 0 + 256 * get_or xs 1 0
two_bytes [] = refl
two_bytes (x ∷ []) = omega arith
two_bytes (x ∷ y ∷ xs) = omega arith

byte_at : (s : List ℕ) (i : ℕ) → bytes_at s i 1 ≡ get_or s i 0
byte_at s i = first_byte (drop i s) ∙ get_or-drop i s 0 0 ∙ ap (λ j. get_or s j 0) (omega arith)

word_at : (s : List ℕ) (i : ℕ) → bytes_at s i 2 ≡ word s i
word_at s i =
    let low : get_or (drop i s) 0 0 ≡ get_or s i 0 = get_or-drop i s 0 0 ∙ ap (λ j. get_or s j 0) (omega arith) in
    two_bytes (drop i s) ∙ (λ t. low t + 256 * get_or-drop i s 1 0 t)

-- 2. The codes of cells

abbrev pub record_kind : Kind → RecordKind
record_kind k =
    record {
      kind = kind_number k;
      side = most_side (layout_of k);
      bytes = cell_bytes (layout_of k);
      unit = direction_unit (layout_of k);
      number = most_number (layout_of k);
      shaded = shaded_code (layout_of k);
    }

code-at : (k : Kind) (s : List ℕ) (x : ℕ) → code_at (record_kind k) s x ≡ cell_code (layout_of k) s x
code-at k s x = by (layout_of k)
  where
    by : (l : Layout) → bytes_at s (6 + cell_bytes l * x) (cell_bytes l) ≡ cell_code l s x
    by Byte = byte_at s (6 + 1 * x) ∙ ap (λ j. get_or s j 0) (omega arith)
    by Word = word_at s (6 + 2 * x)

pub code_read : (k : Kind) {c : ℕ} {e : Cell} → CodeIs (record_kind k) c e → read_cell (layout_of k) c ≡ Some e
code_read k (codes_open z) = rw z
code_read k (codes_clue d n low high m e) = sym (clue_code (layout_of k) _ d n low high m e)
code_read k (codes_shaded e) = sym (shaded-code (layout_of k) _ e)

read_code : (k : Kind) (c : ℕ) → not_allowed (read_cell (layout_of k) c) ≡ false → CodeIs (record_kind k) c (cell_of (read_cell (layout_of k) c))
read_code k c = by (read_as (layout_of k) c)
  where
    by : {r : Option Cell} → ReadAs (layout_of k) c r → not_allowed r ≡ false → CodeIs (record_kind k) c (cell_of r)
    by (as_open z) h = codes_open z
    by (as_clue d n low high m e) h = codes_clue d n low high m e
    by (as_shaded e) h = codes_shaded e
    by as_none h = clash refl h

-- 3. Rows 3 to 5

on : (t : Bool) → (t ≡ false → ⊥) → t ≡ true
on true n = refl
on false n = absurd (n refl)

other-number : {A : Type 0} {t u : Outcome} → t ≡ u → (t.number ≡ u.number → ⊥) → A
other-number e n = absurd (n (ap (λ (t : Outcome). t.number) e))

abbrev told : Bool → Bool → Option ℕ → Outcome → Outcome
told a b o t = unless 3 (cause a) (unless 4 (cause b) (unless 5 o t))

module _ (t : Outcome) (z : t.number ≡ 0) where
  three : (a b : Bool) (o : Option ℕ) → told a b o t ≡ refusal 3 0 ↔ (a ≡ true)
  three true b o = (λ e. refl, λ e. refl)
  three false true o = (λ e. other-number e (λ n. omega arith), λ e. clash e refl)
  three false false (Some x) = (λ e. other-number e (λ n. omega arith), λ e. clash e refl)
  three false false None = (λ e. other-number e (λ n. omega arith), λ e. clash e refl)

  four : (a b : Bool) (o : Option ℕ) → told a b o t ≡ refusal 4 0 ↔ (a ≡ false) × (b ≡ true)
  four true b o = (λ e. other-number e (λ n. omega arith), λ e. clash refl e.0)
  four false true o = (λ e. (refl, refl), λ e. refl)
  four false false (Some x) = (λ e. other-number e (λ n. omega arith), λ e. clash e.1 refl)
  four false false None = (λ e. other-number e (λ n. omega arith), λ e. clash e.1 refl)

  five : (a b : Bool) (o : Option ℕ) (x : ℕ) → told a b o t ≡ refusal 5 x ↔ (a ≡ false) × (b ≡ false) × (o ≡ Some x)
  five true b o x = (λ e. other-number e (λ n. omega arith), λ e. clash refl e.0)
  five false true o x = (λ e. other-number e (λ n. omega arith), λ e. clash refl e.1)
  five false false (Some y) x = (λ e. (refl, refl, ap (λ (t : Outcome). Some t.first) e), λ e. ap (λ o. told false false o t) e.2)
  five false false None x = (λ e. other-number e (λ n. omega arith), λ e. other-number (ap (λ o. told false false o t) e.2) (λ n. omega arith))

  answered : (a b : Bool) (o : Option ℕ) → (told a b o t).number ≡ 0 ↔ (a ≡ false) × (b ≡ false) × (o ≡ None)
  answered true b o = (λ e. absurd (omega arith), λ e. clash refl e.0)
  answered false true o = (λ e. absurd (omega arith), λ e. clash refl e.1)
  answered false false (Some x) = (λ e. absurd (omega arith), λ e. ap (λ o. (told false false o t).number) e.2 ∙ z)
  answered false false None = (λ e. (refl, refl, refl), λ e. z)

  not_two : (a b : Bool) (o : Option ℕ) → (told a b o t).number ≡ 2 → ⊥
  not_two true b o e = omega arith
  not_two false true o e = omega arith
  not_two false false (Some x) e = omega arith
  not_two false false None e = omega arith

-- 4. Rows 1 and 2

module _ (s : List ℕ) where
  abbrev rest : Outcome
  rest = let g = grid_of s in told (wrong_side g) (wrong_size g s) (first_where (wrong_cell g s) (size g)) (grid_answer g)

  whole : wrong_length s ≡ false ↔ Whole s
  whole = (
    λ e. let p = or_neither (ltb (length s) 6) _ e in record { six = ltb-false _ _ p.0; told = word_at s 0 ∙ eqb-true _ _ (not-false _ p.1) },
    λ w. rw (le-ltb _ _ w.six, eq-eqb _ _ (sym (word_at s 0) ∙ w.told)),
  )

  no_kind : wrong_kind s ≡ true ↔ (bytes_at s 2 2 ≡ 1 → ⊥) × (bytes_at s 2 2 ≡ 2 → ⊥) × (bytes_at s 2 2 ≡ 3 → ⊥)
  no_kind = rw (word_at s 2) (by (word s 2) (eqb (word s 2) 1) refl (eqb (word s 2) 2) refl (eqb (word s 2) 3) refl)
    where
      by : (n : ℕ) (a : Bool) → eqb n 1 ≡ a → (b : Bool) → eqb n 2 ≡ b → (c : Bool) → eqb n 3 ≡ c
          → kind_not_allowed (cond a (Some One) (cond b (Some Two) (cond c (Some Three) None))) ≡ true
          ↔ (n ≡ 1 → ⊥) × (n ≡ 2 → ⊥) × (n ≡ 3 → ⊥)
      by n true e b f c g = (λ q. clash q refl, λ p. absurd (p.0 (eqb-true n 1 e)))
      by n false e true f c g = (λ q. clash q refl, λ p. absurd (p.1 (eqb-true n 2 f)))
      by n false e false f true g = (λ q. clash q refl, λ p. absurd (p.2 (eqb-true n 3 g)))
      by n false e false f false g = (λ q. (eqb-false n 1 e, eqb-false n 2 f, eqb-false n 3 g), λ p. refl)

  rest_two : {A : Type 0} → rest ≡ refusal 2 0 → A
  rest_two e =
      let g = grid_of s in
      absurd (not_two (grid_answer g) refl (wrong_side g) (wrong_size g s) (first_where (wrong_cell g s) (size g)) (ap (λ (t : Outcome). t.number) e))

  two : (a b : Bool) → unless 1 (cause a) (unless 2 (cause b) rest) ≡ refusal 2 0 ↔ (a ≡ false) × (b ≡ true)
  two true b = (λ e. other-number e (λ n. omega arith), λ p. clash refl p.0)
  two false true = (λ e. (refl, refl), λ p. refl)
  two false false = (rest_two, λ p. clash p.1 refl)

  pub refused_kind : record_answer s ≡ refusal 2 0 ↔ OfOtherKind s
  refused_kind =
      let w = two (wrong_length s) (wrong_kind s) in (
        λ e. let p = w.0 e in let q = no_kind.0 p.1 in record { whole = whole.0 p.0; not_one = q.0; not_two = q.1; not_three = q.2 },
        λ o. w.1 (whole.1 o.whole, no_kind.1 (o.not_one, o.not_two, o.not_three)),
      )

  -- an accepted record is of kind 1, 2 or 3
  pub each_kind : IsAccepted s → (OfKind (record_kind One) s ⊎ OfKind (record_kind Two) s) ⊎ OfKind (record_kind Three) s
  each_kind a =
      let (c1, (c2, c)) = accepted_clear s a in
      let w = whole.0 (no-cause _ c1) in
      by (eqb (bytes_at s 2 2) 1) refl (eqb (bytes_at s 2 2) 2) refl (eqb (bytes_at s 2 2) 3) refl w (no-cause _ c2)
    where
      by : (p : Bool) → eqb (bytes_at s 2 2) 1 ≡ p → (q : Bool) → eqb (bytes_at s 2 2) 2 ≡ q → (r : Bool) → eqb (bytes_at s 2 2) 3 ≡ r
          → Whole s → wrong_kind s ≡ false → (OfKind (record_kind One) s ⊎ OfKind (record_kind Two) s) ⊎ OfKind (record_kind Three) s
      by true e q f r g w k = inl (inl (record { whole = w; kind = eqb-true _ _ e }))
      by false e true f r g w k = inl (inr (record { whole = w; kind = eqb-true _ _ f }))
      by false e false f true g w k = inr (record { whole = w; kind = eqb-true _ _ g })
      by false e false f false g w k = clash (no_kind.1 (eqb-false _ _ e, eqb-false _ _ f, eqb-false _ _ g)) k

-- 5. A record of a kind

module _ (k : Kind) (s : List ℕ) (h : OfKind (record_kind k) s) where
  kind_field : Some k ≡ read_kind (word s 2)
  kind_field = by k ∙ ap read_kind (sym h.kind ∙ word_at s 2)
    where
      by : (k : Kind) → Some k ≡ read_kind (kind_number k)
      by One = refl
      by Two = refl
      by Three = refl

  abbrev grid : Grid
  grid = record { kind = k; rows = get_or s 4 0; columns = get_or s 5 0 }

  grid_same : grid ≡ grid_of s
  grid_same = grid_is s kind_field

  -- whether its lines stop before clue cells
  pub stops_of : stops_before_clues (grid_of s).kind ≡ stops_before_clues k
  stops_of = ap (λ (g : Grid). stops_before_clues g.kind) (sym grid_same)

  -- the cause of row 5
  abbrev wrong : Option ℕ
  wrong = first_where (wrong_cell grid s) (size grid)

  -- rows 1 and 2 have none
  answer_is : record_answer s ≡ told (wrong_side grid) (wrong_size grid s) wrong (grid_answer grid)
  answer_is =
      let w = h.whole in
      let c1 = right_length s w.six (sym (word_at s 0) ∙ w.told) in
      let c2 = right_kind s kind_field in
      (λ i. unless 1 (sym c1 i) (unless 2 (sym c2 i) (rest s)))
      ∙ ap (λ g. told (wrong_side g) (wrong_size g s) (first_where (wrong_cell g s) (size g)) (grid_answer g)) (sym grid_same)

  side_right : (n : ℕ) → is_side (layout_of k) n ≡ true ↔ (1 ≤ n) × (n ≤ most_side (layout_of k))
  side_right n = (
    λ e. let (low, high) = and_both (leb 1 n) (leb n (most_side (layout_of k))) e in (leb-true _ _ low, leb-true _ _ high),
    λ b. both_and _ _ (le-leb _ _ b.0) (le-leb _ _ b.1),
  )

  sided : wrong_side grid ≡ false ↔ Sided (record_kind k) s
  sided = (
    λ e. let (r, c) = or_neither (not (is_side (layout_of k) (get_or s 4 0))) _ e in
        record { rows = (side_right _).0 (not-false _ r); columns = (side_right _).0 (not-false _ c) },
    λ b. rw ((side_right (get_or s 4 0)).1 b.rows, (side_right (get_or s 5 0)).1 b.columns),
  )

  long : wrong_size grid s ≡ false ↔ RightLength (record_kind k) s
  long = (λ e. eqb-true _ _ (not-false _ e), λ e. ap not (eq-eqb _ _ e))

  -- a cell's code
  is_cell : (x : ℕ) → wrong_cell grid s x ≡ false → CodeIs (record_kind k) (code_at (record_kind k) s x) (cell_at (layout_of k) s x)
  is_cell x e = subst (λ c. CodeIs (record_kind k) c (cell_at (layout_of k) s x)) (sym (code-at k s x)) (read_code k (cell_code (layout_of k) s x) e)

  not_wrong : (x : ℕ) {e : Cell} → CodeIs (record_kind k) (code_at (record_kind k) s x) e → wrong_cell grid s x ≡ false
  not_wrong x c = ap not_allowed (ap (read_cell (layout_of k)) (sym (code-at k s x)) ∙ code_read k c)

  no_cell : (x : ℕ) → x < cell_count s → wrong_cell grid s x ≡ true ↔ NoCell (record_kind k) s x
  no_cell x l = (λ e c i. clash e (not_wrong x i), λ n. on _ (λ e. n _ (is_cell x e)))

  all_cells : wrong ≡ None ↔ ((x : ℕ) → x < cell_count s → (c : Cell) × CodeIs (record_kind k) (code_at (record_kind k) s x) c)
  all_cells = (
    λ e x l. (cell_at (layout_of k) s x, is_cell x (first_none _ _ e x l)),
    λ f. none_first _ _ (λ x l. not_wrong x (f x l).1),
  )

  parts : IsAccepted s ↔ (wrong_side grid ≡ false) × (wrong_size grid s ≡ false) × (wrong ≡ None)
  parts =
      let w = answered (grid_answer grid) refl (wrong_side grid) (wrong_size grid s) wrong in
      let e = ap (λ (t : Outcome). t.number) answer_is in
      (λ a. w.0 (sym e ∙ a), λ p. e ∙ w.1 p)

  accepted : IsAccepted s
      ↔ Sided (record_kind k) s × RightLength (record_kind k) s × ((x : ℕ) → x < cell_count s → (c : Cell) × CodeIs (record_kind k) (code_at (record_kind k) s x) c)
  accepted = (
    λ a. let p = parts.0 a in (sided.0 p.0, long.0 p.1, all_cells.0 p.2),
    λ b. parts.1 (sided.1 b.0, long.1 b.1, all_cells.1 b.2),
  )

  tells : IsAccepted s → record_answer s ≡ grid_answer grid
  tells a = let p = parts.0 a in answer_is ∙ (λ i. told (p.0 i) (p.1 i) (p.2 i) (grid_answer grid))

  all : IsAccepted s → length (puzzle (grid_of s) s).cells ≡ cell_count s
  all a = puzzle-filled (grid_of s) s

  cells : IsAccepted s → (x : ℕ) → x < cell_count s → CodeIs (record_kind k) (code_at (record_kind k) s x) (grid_cell s x)
  cells a x l =
      subst (λ (g : Grid). CodeIs (record_kind k) (code_at (record_kind k) s x) (get_or (puzzle g s).cells x Open)) grid_same
      (subst (CodeIs (record_kind k) (code_at (record_kind k) s x)) (cell-at grid s x l) (is_cell x (first_none _ _ (parts.0 a).2 x l)))

  refused-side : record_answer s ≡ refusal 3 0 ↔ (Sided (record_kind k) s → ⊥)
  refused-side =
      let w = three (grid_answer grid) refl (wrong_side grid) (wrong_size grid s) wrong in
      (λ e b. clash (w.0 (sym answer_is ∙ e)) (sided.1 b), λ n. answer_is ∙ w.1 (on _ (λ e. n (sided.0 e))))

  refused-size : record_answer s ≡ refusal 4 0 ↔ Sided (record_kind k) s × (RightLength (record_kind k) s → ⊥)
  refused-size =
      let w = four (grid_answer grid) refl (wrong_side grid) (wrong_size grid s) wrong in (
        λ e. let p = w.0 (sym answer_is ∙ e) in (sided.0 p.0, λ l. clash p.1 (long.1 l)),
        λ p. answer_is ∙ w.1 (sided.1 p.0, on _ (λ e. p.1 (long.0 e))),
      )

  refused_cell : (x : ℕ) → record_answer s ≡ refusal 5 x
      ↔ Sided (record_kind k) s × RightLength (record_kind k) s × LeastWith (NoCell (record_kind k) s) (cell_count s) x
  refused_cell x =
      let w = five (grid_answer grid) refl (wrong_side grid) (wrong_size grid s) wrong x in
      let f = first_with (wrong_cell grid s) (NoCell (record_kind k) s) (cell_count s) no_cell x in (
        λ e. let p = w.0 (sym answer_is ∙ e) in (sided.0 p.0, long.0 p.1, f.0 p.2),
        λ p. answer_is ∙ w.1 (sided.1 p.0, long.1 p.1, f.1 p.2),
      )

pub accepts : (k : Kind) → Accepts (record_kind k)
accepts k = record { accepted = accepted k; tells = tells k; all = all k; cells = cells k }

pub refuses : (k : Kind) → Refuses (record_kind k)
refuses k = record { side = refused-side k; size = refused-size k; cell = refused_cell k }

-- 6. One inner form: the board knows no kind, but for where lines stop

abbrev with_kind : Kind → Grid → Grid
with_kind k g = record { kind = k; rows = g.rows; columns = g.columns }

neighbour_same : (k : Kind) (g : Grid) (d : Direction) (x : ℕ) → neighbour (with_kind k g) d x ≡ neighbour g d x
neighbour_same k g north x = refl
neighbour_same k g east x = refl
neighbour_same k g south x = refl
neighbour_same k g west x = refl

module _ (k : Kind) (p : Puzzle) (alike : stops_before_clues k ≡ stops_before_clues p.grid.kind) where
  abbrev puzzle_with : Puzzle
  puzzle_with = record { grid = with_kind k p.grid; cells = p.cells }

  next_same : (d : Direction) (x : ℕ) → line_next puzzle_with d x ≡ line_next p d x
  next_same d x = λ i. unless_stopped (λ y. alike i && clue_cell (get_or p.cells y Open)) (neighbour_same k p.grid d x i)

  clue_same : (x : ℕ) (c : Cell) → clue_of puzzle_with x c ≡ clue_of p x c
  clue_same x Open = refl
  clue_same x Shaded = refl
  clue_same x (Clue d n) = λ i. record { cell = x; number = n; line = outward (λ y. next_same d y i) (size p.grid) x [] } ∷ []

  clues_same : (x : ℕ) (cs : List Cell) → clues_from puzzle_with x cs ≡ clues_from p x cs
  clues_same x [] = refl
  clues_same x (c ∷ cs) = λ i. clue_same x c i ++ clues_same (suc x) cs i

  board_same : board puzzle_with ≡ board p
  board_same =
      λ i. record { size = size p.grid; is_open = open_at p.cells; next = λ d x. neighbour_same k p.grid d x i; clues = clues_same 0 p.cells i }

-- two records of the same grid whose lines stop alike
module _ (s t : List ℕ) (e : SameGrid s t) (alike : stops_before_clues (grid_of s).kind ≡ stops_before_clues (grid_of t).kind) where
  pub one_form : board_of s ≡ board_of t
  one_form =
      let k = (grid_of s).kind in
      (λ i. board (record { grid = record { kind = k; rows = e.rows i; columns = e.columns i }; cells = e.cells i }))
      ∙ board_same k (puzzle (grid_of t) t) alike

-- what a call tells of accepted records with the same board is the same: it is told by rows over the board
pub same_told : (s t : List ℕ) → IsAccepted s → IsAccepted t → board_of s ≡ board_of t → (rows : Board → List Row) (tells : Board → Outcome)
    → first_refusal (record_rows s ++ rows (board_of s)) (tells (board_of s)) ≡ first_refusal (record_rows t ++ rows (board_of t)) (tells (board_of t))
same_told s t a c e rows tells =
    left s a ∙ ap (λ b. first_refusal (rows b) (tells b)) e ∙ sym (left t c)
  where
    left : (s : List ℕ) → IsAccepted s
        → first_refusal (record_rows s ++ rows (board_of s)) (tells (board_of s)) ≡ first_refusal (rows (board_of s)) (tells (board_of s))
    left s a = refusals_append (record_rows s) (rows (board_of s)) (tells (board_of s)) ∙ clear_answered (record_rows s) _ (accepted_clear s a)
