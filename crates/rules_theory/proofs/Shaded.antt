-- A shaded cell is neither black nor on the loop, and says nothing; in a clue's line it acts as a clue cell. Assumes nothing.
use Prim.Native.Nat.{ℕ, zero, suc, ◌+◌, ◌*◌, ◌≤◌, ◌<◌}
use native.Mathlib.Omega.{arith}
use lib.Dec.{eqb}
use lib.ListN.{length, get_or}
use borrow.Author.Tests.{eqb-true, eqb-false}
use mathlib.Core.Path.{◌≡◌, refl, sym, ◌∙◌, ap, subst}
use mathlib.Core.Bool.{Bool, true, false}
use mathlib.Core.Logic.{◌↔◌, ◌⊎◌, inl, inr}
use Rattle.std.proofs.lemmas.Option.{same_Some}
use mathlib.Core.List.{List, [], ◌∷◌}
use Rattle.answers.specs.Lists.{how_many, All, ◌∈◌}
use Rattle.answers.proofs.Bools.{clash, off, and_both}
use Rattle.answers.proofs.Elements.{all_in, all_at}
use Rattle.rules.specs.declared.Direction.{Direction}
use Rattle.rules.specs.declared.Layout.{Layout}
use Rattle.rules.specs.declared.Layout.TheVariants.{Byte, Word}
use Rattle.rules.specs.declared.Kind.{Kind}
use Rattle.rules.specs.declared.Cell.{Cell}
use Rattle.rules.specs.declared.Cell.TheVariants.{Open, Clue as Clued, Shaded}
use Rattle.rules.specs.Directions.{opposite}
use Rattle.rules.specs.Record.{Puzzle, layout_of, most_number, direction_unit, shaded_code, grid_of, size, puzzle, grid_cell, IsAccepted}
use Rattle.rules.specs.Record as records
use Rattle.rules.specs.Board.{Clue, Board, open_cell, open_at, stops_before_clues, line, clue_in, clue_of, board, board_of}
use Rattle.rules.specs.Drawing.{Reach, here, along, white, Allowed, SolutionBytes, link_at, black_at}
use Rattle.rules.specs.Judge.{bad_byte_at}
use Rattle.rules.proofs.Boards.{open-at}
use Rattle.rules.proofs.Records.{puzzle-filled, shaded-code}
use Rattle.rules_theory.specs.Places.{Met}
use Rattle.rules_theory.specs.RecordKinds.{CodeIs, codes_open, codes_clue, codes_shaded, OfKind, cell_count, code_at}
use Rattle.rules_theory.specs.Shaded.{ShadedAt, ClueShaded}
use Rattle.rules_theory.proofs.RecordKinds.{record_kind, code_read, accepts}
use Rattle.rules_theory.proofs.Bytes.{allowed_byte}
use Rattle.rules_theory.proofs.Clues.{ClueAt, of_clues, in_clues}
use Rattle.rules_theory.proofs.Lines.{line_to_edge}

-- 1. Cells of a board

-- cells that are open alike
open_alike : (cs ds : List Cell) → length cs ≡ length ds → ((y : ℕ) → y < length cs → open_cell (get_or cs y Open) ≡ open_cell (get_or ds y Open))
    → (y : ℕ) → open_at cs y ≡ open_at ds y
open_alike [] [] e h y = refl
open_alike [] (d ∷ ds) e h y = absurd (omega arith)
open_alike (c ∷ cs) [] e h y = absurd (omega arith)
open_alike (c ∷ cs) (d ∷ ds) e h zero = h zero (omega arith)
open_alike (c ∷ cs) (d ∷ ds) e h (suc y) = open_alike cs ds (omega arith) (λ z l. h (suc z) (omega arith)) y

abbrev is_shaded : Cell → Bool
is_shaded Open = false
is_shaded (Clued d n) = false
is_shaded Shaded = true

-- no cell is both shaded and a clue
pub not-both : {c : Cell} {d : Direction} {n : ℕ} → c ≡ Shaded → c ≡ Clued d n → ⊥
not-both h k = clash (ap is_shaded h) (ap is_shaded k)

-- a cell that is not open is a clue or shaded
pub not_open : (s : List ℕ) (x : ℕ) → x < size (grid_of s)
    → (board_of s).is_open x ≡ false ↔ ((d : Direction) × (n : ℕ) × (grid_cell s x ≡ Clued d n)) ⊎ (grid_cell s x ≡ Shaded)
not_open s x l =
    let f = puzzle-filled (grid_of s) s in
    subst (λ t. t ≡ false ↔ ((d : Direction) × (n : ℕ) × (grid_cell s x ≡ Clued d n)) ⊎ (grid_cell s x ≡ Shaded))
    (open-at (puzzle (grid_of s) s).cells x (omega arith)) (by (grid_cell s x))
  where
    by : (c : Cell) → open_cell c ≡ false ↔ ((d : Direction) × (n : ℕ) × (c ≡ Clued d n)) ⊎ (c ≡ Shaded)
    by Open = (λ e. clash refl e, elim [ inl p ↦ ap open_cell p.2 | inr e ↦ ap open_cell e ])
    by (Clued d n) = (λ e. inl (d, n, refl), λ p. refl)
    by Shaded = (λ e. inr refl, λ p. refl)

-- 2. A shaded cell in a solution

module _ (s : List ℕ) (x : ℕ) (h : ShadedAt s x) where
  abbrev b : Board
  b = board_of s

  pub shut : b.is_open x ≡ false
  shut = (not_open s x h.inside).1 (inr h.shaded)

  pub no_clue : (c : Clue) → c ∈ b.clues → c.cell ≡ x → ⊥
  no_clue c m e = not-both h.shaded (ap (grid_cell s) (sym e) ∙ (of_clues (puzzle (grid_of s) s) c m).read)

  not_white : (black : ℕ → Bool) → white b black x ≡ true → ⊥
  not_white black w = clash (and_both (b.is_open x) _ w).0 shut

  module _ (ds : List ℕ) (S : SolutionBytes b ds) where
    pub not-black : black_at ds x ≡ false
    not-black = off _ (λ e. clash (S.solution.only_open x e) shut)

    pub no_link : (d : Direction) → link_at ds x d ≡ false
    no_link d = off _ (λ e. not_white (black_at ds) (S.solution.links.at_white x d e))

    -- a link that led to it would be matched by one of its own
    pub off_loop : (t : ℕ) → Reach b.next (link_at ds) t x → t ≡ x
    off_loop t (here e) = sym e
    off_loop t (along {x = y} {d = d} r l n) =
        let (z, next, back) = S.solution.links.matched y d l in
        let same : z ≡ x = same_Some z x (sym next ∙ n) in
        clash (ap (λ y. link_at ds y (opposite d)) (sym same) ∙ back) (no_link (opposite d))

    pub solution_byte : get_or ds x 0 ≡ 0x20
    solution_byte = subst (λ t. Allowed t (get_or ds x 0)) shut (S.allowed x h.inside)

  -- the judge asks for that byte
  pub judged_byte : (ds : List ℕ) → bad_byte_at b ds x ≡ false ↔ get_or ds x 0 ≡ 0x20
  judged_byte ds = rw shut (allowed_byte false (get_or ds x 0))

-- 3. A clue made shaded

-- another board whose open cells are the same, with clues that are met
with_clues : (b : Board) {is_open : ℕ → Bool} {cs : List Clue} {ds : List ℕ} → b.is_open ≡ is_open → SolutionBytes b ds → All (Met ds) cs
    → SolutionBytes (record { size = b.size; is_open = is_open; next = b.next; clues = cs }) ds
with_clues b {cs = cs} {ds} e S met =
    let R = S.solution in
    subst (λ is_open. SolutionBytes (record { size = b.size; is_open = is_open; next = b.next; clues = cs }) ds) e
    (record {
      long = S.long;
      allowed = S.allowed;
      solution = record { only_open = R.only_open; untouched = R.untouched; met = met; links = R.links; whole = R.whole };
    })

module _ (s t : List ℕ) (x : ℕ) (d : Direction) (n : ℕ) (h : ClueShaded s t x d n) where
  abbrev first : Puzzle
  first = puzzle (grid_of s) s

  -- the second over the first one's grid
  abbrev second : Puzzle
  second = record { grid = grid_of s; cells = (puzzle (grid_of t) t).cells }

  second_is : board second ≡ board_of t
  second_is = ap (λ g. board (record { grid = g; cells = (puzzle (grid_of t) t).cells })) h.grid

  first_long : length first.cells ≡ size (grid_of s)
  first_long = puzzle-filled (grid_of s) s

  second_long : length second.cells ≡ size (grid_of s)
  second_long = puzzle-filled (grid_of t) t ∙ ap size (sym h.grid)

  pub same_open : (board_of s).is_open ≡ (board_of t).is_open
  same_open i y = open_alike first.cells second.cells (first_long ∙ sym second_long) at y i
    where
      at : (y : ℕ) → y < length first.cells → open_cell (grid_cell s y) ≡ open_cell (grid_cell t y)
      at y l = by (eqb y x) refl
        where
          by : (u : Bool) → eqb y x ≡ u → open_cell (grid_cell s y) ≡ open_cell (grid_cell t y)
          by true e =
              let q = eqb-true y x e in ap open_cell (ap (grid_cell s) q ∙ h.clue) ∙ sym (ap open_cell (ap (grid_cell t) q ∙ h.shaded))
          by false e = let f = first_long in ap open_cell (h.others y (omega arith) (eqb-false y x e))

  -- the clue of the first that stands in x
  clue_in_x : (k : Clue) → k ∈ (board first).clues → k.cell ≡ x → k ≡ clue_in first x d n
  clue_in_x k m q =
      let c = of_clues first k m in
      let read : Clued c.direction k.number ≡ Clued d n = sym c.read ∙ ap (grid_cell s) q ∙ h.clue in
      (λ i. record { cell = k.cell; number = k.number; line = c.along i }) ∙ (λ i. get_or (clue_of first (q i) (read i)) 0 k)

  x_has_clue : clue_in first x d n ∈ (board first).clues
  x_has_clue =
      let l = h.inside in
      let f = first_long in
      in_clues first (clue_in first x d n) (record { direction = d; within = omega arith; read = h.clue; along = refl })

  -- in kinds 1 and 2, where no clue stops a line
  module _ (to_edge : stops_before_clues (grid_of s).kind ≡ false) where
    pub same_line : (e : Direction) (y : ℕ) → line second e y ≡ line first e y
    same_line e y = line_to_edge second to_edge e y ∙ sym (line_to_edge first to_edge e y)

    -- the clues of the second are those of the first that do not stand in x
    clue_kept : (k : Clue) → k ∈ (board second).clues ↔ (k ∈ (board first).clues) × (k.cell ≡ x → ⊥)
    clue_kept k = (λ m. of (of_clues second k m), λ p. to (of_clues first k p.0) p.1)
      where
        of : ClueAt second k → (k ∈ (board first).clues) × (k.cell ≡ x → ⊥)
        of c =
            let l = c.within in
            let f = first_long in
            let g = second_long in
            let apart : k.cell ≡ x → ⊥ = (λ e. not-both h.shaded (ap (grid_cell t) (sym e) ∙ c.read)) in
            let read = h.others k.cell (omega arith) apart ∙ c.read in
            let along = c.along ∙ same_line c.direction k.cell in
            (in_clues first k (record { direction = c.direction; within = omega arith; read = read; along = along }), apart)

        to : ClueAt first k → (k.cell ≡ x → ⊥) → k ∈ (board second).clues
        to c apart =
            let l = c.within in
            let f = first_long in
            let g = second_long in
            let read = sym (h.others k.cell (omega arith) apart) ∙ c.read in
            let along = c.along ∙ sym (same_line c.direction k.cell) in
            in_clues second k (record { direction = c.direction; within = omega arith; read = read; along = along })

    pub same_clues : (k : Clue) → k ∈ (board_of t).clues ↔ (k ∈ (board_of s).clues) × (k.cell ≡ x → ⊥)
    same_clues k = subst (λ (b : Board). k ∈ b.clues ↔ (k ∈ (board_of s).clues) × (k.cell ≡ x → ⊥)) second_is (clue_kept k)

    pub same_solutions : (ds : List ℕ) → SolutionBytes (board_of s) ds ↔ SolutionBytes (board_of t) ds × (how_many (black_at ds) (line first d x) ≡ n)
    same_solutions ds = subst (λ b. SolutionBytes (board_of s) ds ↔ SolutionBytes b ds × (how_many (black_at ds) (line first d x) ≡ n)) second_is (
      λ S. let met = S.solution.met in (
        with_clues (board first) same_open S (all_in (Met ds) (board second).clues (λ k m. all_at (Met ds) met ((clue_kept k).0 m).0)),
        all_at (Met ds) met x_has_clue,
      ),
      λ R. with_clues (board second) (sym same_open) R.0 (all_in (Met ds) (board first).clues (λ k m. by R k m (eqb k.cell x) refl)),
    )
      where
        by : SolutionBytes (board second) ds × (how_many (black_at ds) (line first d x) ≡ n) → (k : Clue) → k ∈ (board first).clues
            → (u : Bool) → eqb k.cell x ≡ u → Met ds k
        by R k m true e = subst (Met ds) (sym (clue_in_x k m (eqb-true k.cell x e))) R.1
        by R k m false e = all_at (Met ds) R.0.solution.met ((clue_kept k).1 (m, eqb-false k.cell x e))

-- 4. Its code

code_shaded : (k : Kind) {c : ℕ} {e : Cell} → CodeIs (record_kind k) c e → e ≡ Shaded → c ≡ shaded_code (layout_of k)
code_shaded k (codes_open z) q = clash (ap is_shaded q) refl
code_shaded k (codes_clue d n low high m z) q = clash (ap is_shaded q) refl
code_shaded k (codes_shaded z) q = z

pub shaded_exactly : (k : Kind) (s : List ℕ) → OfKind (record_kind k) s → IsAccepted s → (x : ℕ)
    → ShadedAt s x ↔ (x < cell_count s) × (code_at (record_kind k) s x ≡ shaded_code (layout_of k))
shaded_exactly k s h a x = (
  λ t. (t.inside, code_shaded k (is t.inside) t.shaded),
  λ p. record { inside = p.0; shaded = ap records.cell_of (sym (code_read k (is p.0)) ∙ sym (shaded-code (layout_of k) _ p.1)) },
)
  where
    is : x < cell_count s → CodeIs (record_kind k) (code_at (record_kind k) s x) (grid_cell s x)
    is l = (accepts k).cells s h a x l

-- past the clues' codes there is no other
below_shaded : (l : Layout) (d n : ℕ) → d ≤ 4 → n ≤ most_number l → d * direction_unit l + n < shaded_code l
below_shaded Byte d n h m = omega arith
below_shaded Word d n h m = omega arith

shaded_large : (l : Layout) → 0 < shaded_code l
shaded_large Byte = omega arith
shaded_large Word = omega arith

pub no_other : (k : Kind) (c : ℕ) → shaded_code (layout_of k) ≤ c → ((e : Cell) × CodeIs (record_kind k) c e) ↔ (c ≡ shaded_code (layout_of k))
no_other k c h = (λ p. by p.1, λ e. (Shaded, codes_shaded e))
  where
    by : {e : Cell} → CodeIs (record_kind k) c e → c ≡ shaded_code (layout_of k)
    by (codes_open z) = absurd (omega (arith, shaded_large (layout_of k)))
    by (codes_clue d n low high m z) = absurd (omega (arith, below_shaded (layout_of k) d n high m))
    by (codes_shaded z) = z
