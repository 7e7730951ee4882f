-- The families cell by cell: what a cell gives, open or not, and what all of them give. Assumes nothing.
use Prim.Native.Nat.{ℕ, ◌+◌, ◌-◌, ◌≤◌, ◌<◌}
use native.Mathlib.Omega.{arith}
use lib.IntN.{ℤ, pos}
use mathlib.Core.Path.{◌≡◌, refl, sym, ◌∙◌, ap, subst}
use mathlib.Core.Bool.{true}
use mathlib.Core.List.{List, [], ◌∷◌, ◌++◌, map, append-nil}
use Rattle.rules.specs.declared.Grid.{Grid}
use Rattle.rules.specs.Board.{Board, grid_board}
use Rattle.rules.proofs.Boards.{Laws}
use Rattle.cnf.specs.Literals.{most_variables}
use Rattle.answers.specs.Lists.{from, up_to, each, joined}
use Rattle.encoder.specs.Variables.{S, opens, open_count, number, rank, at_cell}
use Rattle.encoder.specs.Clauses.{Clause, touching, clue_lines, links, some_start, start, start_at, distance, clause_list, signed, list_of}
use Rattle.encoder.proofs.Places.{place_s}
use Rattle.encoder.proofs.ClauseLists.{lower-each, at_open, list_each, list_families}
use Rattle.answers.specs.declared.Writer.{Writer}
use Rattle.encoder_shapes.specs.Limits.{WithinLimits, PartsWithinLimits}
use Rattle.encoder_shapes.proofs.Turns.{limits_recast, Turn}
use Rattle.encoder_shapes.specs.Shapes.{literals, at_least_one}
use Rattle.encoder_numbers.specs.declared.CellNumbers.{CellNumbers}
use Rattle.encoder_numbers.specs.Numbered.{cell_numbers_of}
use Rattle.encoder_cells.proofs.Cells.{each_ranked, literals-each, touching_list, links_list, start_list, distance_list}
use Rattle.encoder_numbers.specs.Tables.{Tables, OpenCell}
use Rattle.encoder_numbers.specs.declared.Sizes.{Sizes}
use Rattle.encoder_numbers.proofs.Neighbours.{fits_laws, some_open, few, product_few, number_q}
use Rattle.encoder_call.specs.declared.Family.{Family}
use Rattle.encoder_call.specs.declared.Family.TheVariants.{Touching, Links, Start, Distance}
use Rattle.encoder_call.specs.Families.{family_at, family_parts}

-- an open cell, by numbers
pub family_list : (w : Family) (b : Board) → Laws b → (x : ℕ) → b.is_open x ≡ true
    → list_of b (family_at w b x) ≡ joined (family_parts w (open_count b) (cell_numbers_of b x))
family_list Touching b law x h = touching_list b x
family_list Links b law x h = links_list b x
family_list Start b law x h = start_list b law x h
family_list Distance b law x h = distance_list b law x h

module _ (b : Board) where
  pub cells_each : (F : ℕ → List Clause) → list_of b (each (opens b) F) ≡ each (up_to b.size) (λ x. list_of b (at_cell b F x))
  cells_each F = ap (list_of b) (lower-each b F b.size) ∙ list_each b (at_cell b F) (up_to b.size)

  -- [all S]
  pub start_parts : Laws b → {f : ℕ} → f ≡ open_count b → list_of b (start b) ≡ joined (at_least_one (f + 1) f ∷ list_of b (each (opens b) (start_at b)) ∷ [])
  start_parts law {f} q = (λ t. some t ++ sym (append-nil (list_of b (each (opens b) (start_at b)))) t)
    where
      one : (x : ℕ) → b.is_open x ≡ true → pos (number b (S x)) ∷ [] ≡ pos (f + 1 + rank b x) ∷ []
      one x h = let e = place_s b law x h in let z : number b (S x) ≡ f + 1 + rank b x = omega arith in ap (λ n. pos n ∷ []) z

      some : map (signed b) (some_start b) ++ (pos 0 ∷ []) ≡ at_least_one (f + 1) f
      some =
          ap (λ l. l ++ (pos 0 ∷ []))
          (literals-each b (λ x. S x) (opens b) ∙ each_ranked b (λ x. pos (number b (S x)) ∷ []) (λ k. pos (f + 1 + k) ∷ []) one b.size
          ∙ ap (λ n. literals (f + 1) n) (sym q))

-- an open cell of a grid
module _ {g : Grid} {s table : List ℕ} {sizes : Sizes} (t : Tables g s sizes table) {x : ℕ} (o : OpenCell g s x)
    {numbers : CellNumbers} (e : numbers ≡ cell_numbers_of (grid_board g s) x) where
  pub open_list : (w : Family)
      → list_of (grid_board g s) (at_cell (grid_board g s) (family_at w (grid_board g s)) x) ≡ joined (family_parts w sizes.opens numbers)
  open_list w =
      let b = grid_board g s in
      ap (list_of b) (at_open b x (family_at w b) o.opened) ∙ family_list w b (fits_laws t.record_fits) x o.opened
      ∙ (λ i. joined (family_parts w (sym t.sized i).opens (sym e i)))

  pub open_few : (0 < sizes.opens) × (numbers.distance ≤ most_variables)
  open_few =
      let f = few t in
      let q = ap (λ (z : Sizes). z.opens) t.sized in
      (omega (arith, some_open t.record_fits o), omega (arith, ap (λ (n : CellNumbers). n.distance) e, number_q t o refl, product_few t o.inside refl))

-- what is to be put, in parts, and before the first turn of a loop
pub family_limits : (b : Board) {at : ℕ} → WithinLimits at (clause_list b)
    → PartsWithinLimits at (list_of b (touching b) ∷ list_of b (clue_lines b) ∷ list_of b (links b) ∷ list_of b (start b) ∷ list_of b (distance b) ∷ [])
family_limits b h = record { limits = limits_recast (list_families b) h }

pub start_limits : (b : Board) → Laws b → {f at : ℕ} → f ≡ open_count b → WithinLimits at (list_of b (start b))
    → PartsWithinLimits at (at_least_one (f + 1) f ∷ list_of b (each (opens b) (start_at b)) ∷ [])
start_limits b law q h = record { limits = limits_recast (start_parts b law q) h }

pub turn_start : {w : Writer ℤ} {f : ℕ → List ℤ} {n : ℕ} → WithinLimits w.place (each (up_to n) f) → Turn w w f n 0
turn_start {w} {f} {n} h =
    let all : n ≡ n - 0 = omega arith in
    record {
      put = record { same_buffer = refl; place = refl; holds = refl };
      limits = subst (λ m. WithinLimits w.place (each (from 0 m) f)) all h;
    }
