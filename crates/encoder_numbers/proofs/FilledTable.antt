-- The loop that fills the table, a row at a turn, and what the table then holds. Assumes nothing.
use Prim.Native.Nat.{ℕ, zero, suc, ◌+◌, ◌*◌, ◌≤◌, ◌<◌}
use native.Mathlib.Omega.{arith}
use lib.ListN.{length, get_or, drop, length-append, get_or-append}
use lib.Seq.{get_or-append-add}
use mathlib.Core.Path.{◌≡◌, refl, sym, ◌∙◌, ap}
use mathlib.Core.List.{List, ◌++◌}
use Rattle.answers.specs.Lent.{filled, Wrote}
use Rattle.answers.proofs.Lent.{wrote_after, wrote_recast, wrote_length, wrote_filled}
use Rattle.rules.specs.declared.Grid.{Grid}
use Rattle.rules.specs.Record.{size, RecordFits}
use Rattle.answers.specs.Lists.{from, up_to, each}
use Rattle.answers.proofs.Elements.{length_from, length-each}
use Rattle.encoder.proofs.ClauseLists.{each_next}
use Rattle.encoder_numbers.specs.declared.Sizes.{Sizes}
use Rattle.encoder_numbers.specs.Tables.{sizes_below, sizes_of, row_of, table_of, Tables}

module _ (g : Grid) (s : List ℕ) where
  abbrev rows : ℕ → List ℕ
  rows x = each (up_to x) (λ x. row_of (sizes_below g s x))

  rows_long : (x : ℕ) → length (rows x) ≡ x * 3
  rows_long x = length-each (λ x. row_of (sizes_below g s x)) 3 (up_to x) (λ x. refl) ∙ ap (λ n. n * 3) (length_from 0 x)

  rows_next : (x : ℕ) → rows (x + 1) ≡ rows x ++ row_of (sizes_below g s x)
  rows_next x = let e : 0 + x ≡ x = omega arith in each_next (λ x. row_of (sizes_below g s x)) 0 x ∙ ap (λ y. rows x ++ row_of (sizes_below g s y)) e

  rows_at : (a n x k : ℕ) → x < n → k < 3 → get_or (each (from a n) (λ x. row_of (sizes_below g s x))) (3 * x + k) 0 ≡ get_or (row_of (sizes_below g s (a + x))) k 0
  rows_at a zero x k h l = absurd (omega arith)
  rows_at a (suc n) zero k h l =
      let e : a ≡ a + 0 = omega arith in
      let q : 3 * 0 + k ≡ k = omega arith in
      ap (λ i. get_or (row_of (sizes_below g s a) ++ each (from (suc a) n) (λ x. row_of (sizes_below g s x))) i 0) q
      ∙ get_or-append (row_of (sizes_below g s a)) (each (from (suc a) n) (λ x. row_of (sizes_below g s x))) 0 k l
      ∙ ap (λ y. get_or (row_of (sizes_below g s y)) k 0) e
  rows_at a (suc n) (suc x) k h l =
      let e : suc a + x ≡ a + suc x = omega arith in
      let q : 3 * suc x + k ≡ 3 + (3 * x + k) = omega arith in
      ap (λ i. get_or (row_of (sizes_below g s a) ++ each (from (suc a) n) (λ x. row_of (sizes_below g s x))) i 0) q
      ∙ get_or-append-add (row_of (sizes_below g s a)) (each (from (suc a) n) (λ x. row_of (sizes_below g s x))) (3 * x + k) 0 ∙ rows_at (suc a) n x k (omega arith) l
      ∙ ap (λ y. get_or (row_of (sizes_below g s y)) k 0) e

  -- at the head of the loop: the rows of the cells before x stand in the table, and their sizes are counted
  pub record Filling (table₀ table : List ℕ) (below : Sizes) (at x : ℕ) : Type 0 where
    pub is : below ≡ sizes_below g s x
    pub wrote : Wrote table₀ 0 (rows x) table at

module _ {g : Grid} {s : List ℕ} where
  module _ {table₀ table : List ℕ} {below : Sizes} {at x : ℕ} (p : Filling g s table₀ table below at x) where
    pub fill_room : x < size g → 3 * size g ≤ length table₀ → at + 3 ≤ length table
    fill_room h r = let q = p.wrote.place in omega (arith, wrote_length p.wrote, rows_long g s x)

    pub fill_on : {new : List ℕ} {next : Sizes} {r : ℕ} → Wrote table at (row_of below) new r → next ≡ sizes_below g s (x + 1)
        → Filling g s table₀ new next r (x + 1)
    fill_on w e =
        record { is = e; wrote = wrote_recast (sym (rows_next g s x)) (wrote_after p.wrote (wrote_recast (ap row_of p.is) w)) }

    pub fill_end : x ≡ size g → 3 * size g ≤ length table₀ → table ≡ filled table₀ (table_of g s)
    fill_end e r =
        let l : length (rows g s x) ≤ length table₀ = omega (arith, rows_long g s x) in wrote_filled p.wrote l ∙ ap (λ n. filled table₀ (rows g s n)) e

  -- what the table holds
  pub tables_filled : RecordFits g s → (buf : List ℕ) → 3 * size g ≤ length buf → {sizes : Sizes} {table : List ℕ} → sizes ≡ sizes_of g s
      → table ≡ filled buf (table_of g s) → Tables g s sizes table
  tables_filled h buf room e q =
      let l = rows_long g s (size g) in
      rw q (record {
        record_fits = h;
        sized = e;
        long = omega (arith, length-append (table_of g s) (drop (length (table_of g s)) buf));
        rows =
            λ x k i j.
            let b : 3 * x + k < length (table_of g s) = omega arith in
            let z : 0 + x ≡ x = omega arith in
            get_or-append (table_of g s) _ 0 (3 * x + k) b ∙ rows_at g s 0 (size g) x k i j ∙ ap (λ y. get_or (row_of (sizes_below g s y)) k 0) z;
      })
