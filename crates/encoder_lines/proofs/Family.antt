-- The clues of a grid, cell by cell: what a cell gives, and the number of its first T variable. Assumes nothing.
use Prim.Native.Nat.{ℕ, zero, suc, ◌+◌, ◌*◌, ◌≤◌, ◌<◌}
use native.Mathlib.Omega.{arith}
use native.Mathlib.Nat.{mul-le-mul}
use native.Mathlib.Numerals.{add-one}
use lib.ListN.{length, get_or, take, length-map}
use lib.Seq.{take_all}
use mathlib.Core.Path.{◌≡◌, refl, sym, ◌∙◌, ap}
use mathlib.Core.List.{List, [], ◌++◌, map, append-nil}
use Rattle.rules.specs.declared.Direction.{Direction}
use Rattle.rules.specs.declared.Cell.{Cell}
use Rattle.rules.specs.declared.Cell.TheVariants.{Open, Clue as Clued}
use Rattle.rules.specs.declared.Grid.{Grid}
use Rattle.rules.specs.Record.{size, puzzle, most_cells, RecordFits}
use Rattle.rules.specs.Board.{line, clue_in, clue_of, clues_from, grid_board}
use Rattle.rules.proofs.Records.{puzzle-filled}
use Rattle.answers.specs.Lists.{up_to, each, joined}
use Rattle.encoder.specs.Variables.{T, number}
use Rattle.encoder.specs.Clauses.{clue_clauses, clue_lines, list_of}
use Rattle.answers.proofs.Elements.{each_append}
use Rattle.encoder.proofs.Places.{place_t}
use Rattle.encoder.proofs.Clues.{clues_next, at_clue}
use Rattle.encoder.proofs.ClauseLists.{each_next, list_each}
use Rattle.encoder_numbers.proofs.Numbers.{line_few}
use Rattle.encoder_numbers.specs.Tables.{first_count}
use Rattle.encoder_numbers.specs.Numbered.{black_of}
use Rattle.encoder_numbers.proofs.Neighbours.{fits_laws}
use Rattle.encoder_shapes.proofs.Turns.{shapes}
use Rattle.encoder_lines.specs.Line.{blacks_of, clue_numbers, clue_at}
use Rattle.encoder_lines.proofs.Numbers.{clue_list}

-- the number of the last T variable, with the line's length counted
module _ (g : Grid) (s : List ℕ) (d : Direction) (x n : ℕ) {cells : ℕ} (e : cells ≡ length (line (puzzle g s) d x)) where
  pub last_is : (first : ℕ) → first + cells * (n + 1) + n ≡ first + length (blacks_of g s d x) * (n + 1) + n
  last_is first = ap (λ k. first + k * (n + 1) + n) (e ∙ sym (length-map (line (puzzle g s) d x) (black_of (grid_board g s))))

  pub last_few : RecordFits g s → x < size g → n < 256 → cells * (n + 1) ≤ most_cells * 256
  last_few h l k = mul-le-mul {n₂ = most_cells} {m₂ = 256} (omega (arith, line_few h l d)) (omega arith)

-- no clue, or a clue
pub clue_none : (g : Grid) (s : List ℕ) (x : ℕ) {c : Cell} → c ≡ get_or (puzzle g s).cells x Open → clue_of (puzzle g s) x c ≡ []
    → [] ≡ list_of (grid_board g s) (clue_at (puzzle g s) x)
clue_none g s x e q =
    let b = grid_board g s in
    let F = clue_clauses b.is_open in
    ap (λ cs. list_of b (each cs F)) (sym q) ∙ ap (λ c. list_of b (each (clue_of (puzzle g s) x c) F)) e

pub clue_some : {g : Grid} {s : List ℕ} (x : ℕ) {d : Direction} {n : ℕ} → RecordFits g s → x < size g → Clued d n ≡ get_or (puzzle g s).cells x Open
    → list_of (grid_board g s) (clue_at (puzzle g s) x) ≡ joined (clue_numbers (first_count g s x) n (blacks_of g s d x))
clue_some {g} {s} x {d} {n} h l e =
    let b = grid_board g s in
    let p = puzzle g s in
    let w = puzzle-filled g s in
    let k = clue_in p x d n in
    let m = at_clue p x (omega arith) (sym e) in
    let r = place_t b (fits_laws h) k (clues_from p 0 (take x p.cells)) 0 0 m (omega arith) (omega arith) in
    let z : number b (T x 0 0) ≡ first_count g s x = omega arith in
    ap (λ c. list_of b (each (clue_of p x c) (clue_clauses b.is_open))) (sym e) ∙ ap (list_of b) (append-nil (clue_clauses b.is_open k))
    ∙ clue_list b (fits_laws h) k (clues_from p 0 (take x p.cells)) m ∙ ap (λ r. joined (clue_numbers r n (map (black_of b) (line p d x)))) z

module _ {g : Grid} {s : List ℕ} (h : RecordFits g s) where
  -- the family, cell by cell
  so_far : (x : ℕ) → x ≤ size g
      → each (clues_from (puzzle g s) 0 (take x (puzzle g s).cells)) (clue_clauses (grid_board g s).is_open) ≡ each (up_to x) (clue_at (puzzle g s))
  so_far zero l = refl
  so_far (suc x) l =
      let p = puzzle g s in
      let F = clue_clauses (grid_board g s).is_open in
      let w = puzzle-filled g s in
      let e : 0 + x ≡ x = omega arith in
      ap (λ k. each (clues_from p 0 (take k p.cells)) F) (sym (add-one x)) ∙ ap (λ cs. each cs F) (clues_next p x (omega arith))
      ∙ each_append F (clues_from p 0 (take x p.cells)) (clue_of p x (get_or p.cells x Open))
      ∙ (λ t. so_far x (omega arith) t ++ clue_at p (sym e t)) ∙ sym (each_next (clue_at p) 0 x) ∙ ap (λ k. each (up_to k) (clue_at p)) (add-one x)

  pub lines_cells : clue_lines (grid_board g s) ≡ each (up_to (size g)) (clue_at (puzzle g s))
  lines_cells =
      let p = puzzle g s in
      let w = puzzle-filled g s in
      ap (λ cs. each (clues_from p 0 cs) (clue_clauses (grid_board g s).is_open)) (sym (take_all (size g) p.cells (omega arith)))
      ∙ so_far (size g) (omega arith)

  pub lines-each : list_of (grid_board g s) (clue_lines (grid_board g s)) ≡ each (up_to (size g)) (λ x. list_of (grid_board g s) (clue_at (puzzle g s) x))
  lines-each = let b = grid_board g s in ap (list_of b) lines_cells ∙ list_each b (clue_at (puzzle g s)) (up_to (size g))

pub ruleset clues = (shapes, clue_some, lines-each)
