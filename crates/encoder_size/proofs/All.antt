-- The clauses cell by cell are as many as family by family, and adding them up. Assumes nothing.
use Prim.Native.Nat.{ℕ, ◌+◌, ◌*◌, ◌≤◌, ◌^◌}
use native.Mathlib.Omega.{arith}
use lib.ListN.{length, length-append}
use mathlib.Core.Path.{◌≡◌, refl, sym, ◌∙◌, ap, subst}
use mathlib.Core.List.{List, [], ◌∷◌, ◌++◌}
use Rattle.rules.specs.declared.Grid.{Grid}
use Rattle.rules.specs.Record.{size, puzzle, RecordFits}
use Rattle.rules.specs.Board.{Board, grid_board}
use Rattle.answers.specs.Lists.{up_to, each, keep}
use Rattle.encoder.specs.Variables.{open_count, variable_count, at_cell}
use Rattle.encoder.specs.Clauses.{Clause, touching_at, links_at, start_at, distance_at, some_start, start, touching, clue_lines, links, distance, clauses, list_of}
use Rattle.encoder.specs.Clauses.{clause_list, Sized}
use Rattle.encoder.proofs.ClauseLists.{each_next, lower-each, list_append}
use Rattle.encoder.proofs.Counts.{sized_none, sized_append, some_start_sized}
use Rattle.encoder_lines.specs.Line.{clue_at}
use Rattle.encoder_lines.proofs.Family.{lines_cells}
use Rattle.encoder_size.specs.declared.Amount.{Amount}
use Rattle.encoder_size.specs.Counts.{counts_of, cell_families, Amounts}

-- 1. Whatever is added up over clauses, as their number

module _ (many : List Clause → ℕ) (none : many [] ≡ 0) (adds : (cs ds : List Clause) → many (cs ++ ds) ≡ many cs + many ds) where
  both : (F G : ℕ → List Clause) (xs : List ℕ) → many (each xs (λ x. F x ++ G x)) ≡ many (each xs F) + many (each xs G)
  both F G [] = omega arith
  both F G (x ∷ xs) =
      let i = both F G xs in
      omega (arith, adds (F x ++ G x) (each xs (λ x. F x ++ G x)), adds (F x) (G x), adds (F x) (each xs F), adds (G x) (each xs G))

  regrouped : {g : Grid} {s : List ℕ} → RecordFits g s
      → many (clauses (grid_board g s)) ≡ many (each (up_to (size g)) (cell_families g s)) + many (some_start (grid_board g s) ∷ [])
  unfolding clauses
  regrouped {g} {s} h =
      let b = grid_board g s in
      let xs = up_to (size g) in
      let at : (ℕ → List Clause) → ℕ → List Clause = at_cell b in
      let cells : (F : ℕ → List Clause) → many (each (keep b.is_open xs) F) ≡ many (each xs (at F)) = (λ F. ap many (lower-each b F (size g))) in
      let c2 = ap many (lines_cells h) in
      let five = at (distance_at b) in
      let four : ℕ → List Clause = (λ x. at (start_at b) x ++ five x) in
      let three : ℕ → List Clause = (λ x. at (links_at b) x ++ four x) in
      let two : ℕ → List Clause = (λ x. clue_at (puzzle g s) x ++ three x) in
      let ends = distance b ++ [] in
      omega (
        arith,
        cells (touching_at b),
        c2,
        cells (links_at b),
        cells (start_at b),
        cells (distance_at b),
        both (at (touching_at b)) two xs,
        both (clue_at (puzzle g s)) three xs,
        both (at (links_at b)) four xs,
        both (at (start_at b)) five xs,
        adds (touching b) (clue_lines b ++ (links b ++ (start b ++ ends))),
        adds (clue_lines b) (links b ++ (start b ++ ends)),
        adds (links b) (start b ++ ends),
        adds (start b) ends,
        adds (distance b) [],
        adds (some_start b ∷ []) (each (keep b.is_open xs) (start_at b)),
      )

-- 2. Cell by cell

-- with x cells added to [all S]
pub record Adding (g : Grid) (s : List ℕ) (n e x : ℕ) : Type 0 where
  clauses : ℕ
  elements : ℕ
  sized : Sized (grid_board g s) (each (up_to x) (cell_families g s)) clauses elements
  few : clauses ≤ x * 2 ^ 40
  short : elements ≤ x * 2 ^ 40
  all : n ≡ clauses + 1
  long : e ≡ elements + (open_count (grid_board g s) + 1)

pub adding_start : {g : Grid} {s : List ℕ} {f : ℕ} → f ≡ open_count (grid_board g s) → Adding g s 1 (f + 1) 0
adding_start {g} {s} q =
    record {
      clauses = 0;
      elements = 0;
      sized = sized_none (grid_board g s);
      few = omega arith;
      short = omega arith;
      all = refl;
      long = omega arith;
    }

module _ {g : Grid} {s : List ℕ} {n e x : ℕ} (p : Adding g s n e x) where
  pub adding_few : (n ≤ x * 2 ^ 40 + 1) × (e ≤ x * 2 ^ 40 + (open_count (grid_board g s) + 1))
  adding_few = let i = p.few in let j = p.short in let k = p.all in let l = p.long in (omega arith, omega arith)

  pub adding_on : {a : Amount} → Amounts (grid_board g s) (cell_families g s x) a → Adding g s (n + a.clauses) (e + a.elements) (x + 1)
  adding_on {a} r =
      let i = p.few in
      let j = p.short in
      let u = p.all in
      let v = p.long in
      let y = r.few in
      let z = r.short in
      let q : 0 + x ≡ x = omega arith in
      let f = cell_families g s in
      let m : each (up_to x) f ++ f x ≡ each (up_to (x + 1)) f = ap (λ k. each (up_to x) f ++ f k) (sym q) ∙ sym (each_next f 0 x) in
      record {
        clauses = p.clauses + a.clauses;
        elements = p.elements + a.elements;
        sized =
            subst (λ cs. Sized (grid_board g s) cs (p.clauses + a.clauses) (p.elements + a.elements)) m (sized_append (grid_board g s) p.sized r.sized);
        few = omega arith;
        short = omega arith;
        all = omega arith;
        long = omega arith;
      }

  pub adding_end : RecordFits g s → x ≡ size g → Sized (grid_board g s) (clauses (grid_board g s)) n e
  adding_end h q =
      let b = grid_board g s in
      let c = p.sized.clauses in
      let d = p.sized.elements in
      let u = p.all in
      let v = p.long in
      let f = some_start_sized b in
      let i = f.clauses in
      let j = f.elements in
      let X = ap (λ k. length (each (up_to k) (cell_families g s))) q in
      let Y = ap (λ k. length (list_of b (each (up_to k) (cell_families g s)))) q in
      record {
        clauses = (let z = regrouped length refl length-append h in omega arith);
        elements =
            (let z = regrouped (λ cs. length (list_of b cs)) refl (λ cs ds. ap length (list_append b cs ds) ∙ length-append (list_of b cs) (list_of b ds)) h in
            omega arith);
      }

pub counted : (b : Board) {n e v : ℕ} → Sized b (clauses b) n e → v ≡ variable_count b → record { elements = e; variables = v; clauses = n } ≡ counts_of b
unfolding clause_list
counted b p q = (λ t. record { elements = sym p.elements t; variables = q t; clauses = sym p.clauses t })
