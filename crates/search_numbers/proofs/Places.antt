-- Where clauses begin. Assumes nothing.
use Prim.Native.Nat.{ℕ, suc, ◌+◌, ◌*◌, ◌-◌, ◌/◌, ◌≤◌, ◌<◌, min}
use native.Mathlib.Omega.{arith}
use native.Mathlib.Decide.{ℕ_discrete}
use native.Mathlib.Nat.{zero-mul, suc-mul, mul-le-mul_right, div-mul-le_self, div-le_self}
use native.Mathlib.Numerals.{add-one}
use lib.IntN.{ℤ, pos}
use lib.ListN.{length, get_or, set, take, drop, length-set, drop_of_length-le}
use lib.Seq.{drop-cons, length-take-le, get_or-set_same, get_or-set_other, ext_get_or}
use mathlib.Core.Path.{◌≡◌, refl, sym, ◌∙◌, ap}
use mathlib.Core.Bool.{Bool, true, false, cond}
use mathlib.Core.List.{List, ◌∷◌, ◌++◌}
use Rattle.answers.specs.Lent.{filled}
use Rattle.answers.proofs.Elements.{made_long, made_at}
use Rattle.answers.proofs.Lists.{many_most}
use Rattle.cnf.specs.Literals.{closes}
use Rattle.cnf.specs.Clauses.{clause_count, place_after}
use Rattle.cnf.proofs.Lists.{place_zero, place-step, place_more}
use Rattle.search_numbers.specs.Places.{places_by, places_in, IsTable}

-- 1. Over some clauses

-- at j, with `left` clauses left, on the way from i over n
pub record Walking (ls : List ℤ) (i n j left : ℕ) : Type 0 where
  pub rest : j + place_after left (drop j ls) ≡ i + place_after n (drop i ls)

module _ {ls : List ℤ} {i n j left : ℕ} (w : Walking ls i n j left) where
  pub walk_end : {k : ℕ} → length ls ≤ j → k ≡ j → k ≡ i + place_after n (drop i ls)
  unfolding place_after
  walk_end h q = let e : j + 0 ≡ j = omega arith in q ∙ sym e ∙ (rw (drop_of_length-le ls h) at w.rest)

  pub walk_here : left ≡ 0 → j ≡ i + place_after n (drop i ls)
  walk_here z = let r = w.rest in let e : place_after left (drop j ls) ≡ 0 = rw z (place_zero (drop j ls)) in omega arith

  module _ (h : j < length ls) (z : left ≡ 0 → ⊥) where
    walked : (b : Bool) → closes (get_or ls j (pos 0)) ≡ b → j + 1 + place_after (cond b (left - 1) left) (drop (j + 1) ls) ≡ i + place_after n (drop i ls)
    walked b e =
        let r : j + place_after left (get_or ls j (pos 0) ∷ drop (suc j) ls) ≡ i + place_after n (drop i ls) = rw (drop-cons ls j (pos 0) h) at w.rest in
        let q : j + suc (place_after (cond b (left - 1) left) (drop (suc j) ls)) ≡ i + place_after n (drop i ls) =
        rw (place-step left (get_or ls j (pos 0)) (drop (suc j) ls) z, e) at r in
        rw add-one (omega arith)

    pub walk-closed : closes (get_or ls j (pos 0)) ≡ true → Walking ls i n (j + 1) (left - 1)
    walk-closed e = record { rest = walked true e }

    pub walk_on : closes (get_or ls j (pos 0)) ≡ false → Walking ls i n (j + 1) left
    walk_on e = record { rest = walked false e }

-- 2. The table

-- at the head of the loop that fills it: the first j places stand, and the next is known
pub record Filling (ls : List ℤ) (stride : ℕ) (table₀ table : List ℕ) (place j : ℕ) : Type 0 where
  pub long : length table ≡ length table₀
  pub next : place ≡ place_after (j * stride) ls
  pub done : (k : ℕ) → k < j → get_or table k 0 ≡ place_after (k * stride) ls

pub fill_start : {ls : List ℤ} {stride : ℕ} {table : List ℕ} → Filling ls stride table table 0 0
fill_start {ls} {stride} = record { long = refl; next = rw (zero-mul stride) (sym (place_zero ls)); done = λ k h. absurd (omega arith) }

module _ {ls : List ℤ} {stride : ℕ} {table₀ table : List ℕ} {place j : ℕ} (f : Filling ls stride table₀ table place j) where
  pub fill_on : {after : ℕ} → j < length table₀ → after ≡ place + place_after stride (drop place ls)
      → Filling ls stride table₀ (set table j place) after (j + 1)
  fill_on {after} h e =
      record {
        long = length-set table j place ∙ f.long;
        next = e ∙ ap (λ p. p + place_after stride (drop p ls)) f.next ∙ place_more (j * stride) stride ls ∙ rw (add-one j, suc-mul j stride) refl;
        done = λ k l. by k l (ℕ_discrete k j);
      }
    where
      by : (k : ℕ) → k < j + 1 → Dec (k ≡ j) → get_or (set table j place) k 0 ≡ place_after (k * stride) ls
      by k l (yes q) = let n = f.long in rw q (get_or-set_same table j place 0 (omega arith) ∙ f.next)
      by k l (no q) = get_or-set_other table j k place 0 q ∙ f.done k (omega arith)

  pub fill_end : length table₀ ≤ j → table ≡ places_by stride ls (length table₀)
  fill_end h =
      let n = f.long in
      ext_get_or 0 table (places_by stride ls (length table₀)) (n ∙ sym (made_long _ (length table₀)))
      (λ k l. f.done k (omega arith) ∙ sym (made_at _ 0 (length table₀) k (omega arith)))

-- the part of a table that is filled
module _ (table : List ℕ) (clauses : ℕ) {places : ℕ} (h : 1 ≤ length table) (p : places ≡ min clauses (length table - 1)) where
  pub part_fits : places + 1 ≤ length table
  part_fits = omega arith

  pub part_long : length (take (places + 1) table) ≡ places + 1
  part_long = length-take-le (places + 1) table part_fits

  pub part_filled : (ls : List ℤ) {part : List ℕ} → clauses ≡ clause_count ls
      → part ≡ places_by (clauses / length table + 1) ls (length (take (places + 1) table))
      → part ++ drop (places + 1) table ≡ filled table (places_in (length table) ls)
  part_filled ls {part} c e = λ j. same j ++ drop (sym long j) table
    where
      count : places + 1 ≡ min (clause_count ls) (length table - 1) + 1
      count = ap (λ n. n + 1) p ∙ ap (λ n. min n (length table - 1) + 1) c

      same : part ≡ places_in (length table) ls
      same = e ∙ (λ j. places_by (c j / length table + 1) ls ((part_long ∙ count) j))

      long : length (places_in (length table) ls) ≡ places + 1
      long = made_long _ (min (clause_count ls) (length table - 1) + 1) ∙ sym count

pub stride_fits : (ls : List ℤ) (size : ℕ) {clauses : ℕ} → clauses ≡ clause_count ls → clauses / size ≤ length ls
stride_fits ls size {clauses} c = omega (arith, div-le_self clauses size, many_most closes ls)

-- 3. A clause by its number

-- the place j of the table is before the clause, or where it begins
module _ {ls : List ℤ} {stride : ℕ} {table : List ℕ} (t : IsTable ls stride table) (clauses : ℕ) {j : ℕ}
    (h : j ≡ min (clauses / stride) (length table - 1)) where
  pub look_inside : j < length table
  look_inside = let s = t.some in omega arith

  pub look_before : j * stride ≤ clauses
  look_before =
      let l : j ≤ clauses / stride = omega arith in
      omega (arith, mul-le-mul_right stride l, div-mul-le_self clauses stride)

  pub look_on : {r : ℕ} → r ≡ get_or table j 0 + place_after (clauses - j * stride) (drop (get_or table j 0) ls) → r ≡ place_after clauses ls
  look_on e =
      let b = look_before in
      let q : j * stride + (clauses - j * stride) ≡ clauses = omega arith in
      let p : get_or table j 0 ≡ place_after (j * stride) ls = ap (λ ps. get_or ps j 0) t.holds ∙ made_at _ 0 (length table) j look_inside in
      e ∙ ap (λ p. p + place_after (clauses - j * stride) (drop p ls)) p ∙ place_more (j * stride) (clauses - j * stride) ls ∙ ap (λ n. place_after n ls) q
