-- The clauses of a clue's line, by the cells on it that are open and those that are not. Assumes nothing.
use Prim.Native.Nat.{ℕ, zero, suc, ◌+◌, ◌*◌, ◌-◌, ◌/◌, ◌≤◌}
use native.Mathlib.Omega.{arith}
use native.Mathlib.Nat.{suc-mul, mul-le-mul}
use lib.ListN.{length}
use mathlib.Core.Path.{◌≡◌, refl}
use mathlib.Core.Bool.{Bool, true, false}
use mathlib.Core.List.{List, [], ◌∷◌}
use Rattle.answers.specs.Lists.{tally, how_many}
use Rattle.answers.proofs.Lists.{many_most}
use Rattle.rules.specs.Board.{Board}
use Rattle.encoder.specs.Clauses.{line_clauses, pair_count, Sized}
use Rattle.encoder.proofs.Counts.{pair-count, sized_none, sized_append, sized_is, cell_shut, cell_open}

pub pairs_half : (n : ℕ) → n * (n - 1) / 2 ≡ pair_count n
pairs_half n = omega (arith, pair-count n)

pub pairs-most : (n m : ℕ) → n ≤ m → pair_count n * 2 ≤ m * (m - 1)
pairs-most n m h = let i : n * (n - 1) ≤ m * (m - 1) = mul-le-mul h (omega arith) in omega (arith, pair-count n)

-- q is the number of cells that are not open
module _ (b : Board) (is_open : ℕ → Bool) (a n : ℕ) where
  abbrev twos : ℕ → ℕ → ℕ → ℕ
  twos l q o = l * pair_count (suc n) + q * suc n + o

  abbrev LineSized : ℕ → List ℕ → ℕ → ℕ → ℕ → Type 0
  LineSized j cs l q o = Sized b (line_clauses is_open a n j cs) (twos l q o + o * (n * 2 + 1)) (twos l q o * 3 + o * (n * 2 + 1) * 4)

  pub line_sized : (j : ℕ) (cs : List ℕ) (q : ℕ) → q + how_many is_open cs ≡ length cs → LineSized j cs (length cs) q (how_many is_open cs)
  line_sized j [] q e = let z : q ≡ 0 = omega arith in rw z (sized_is b (omega arith) (omega arith) (sized_none b))
  line_sized j (c ∷ cs) q e = by (is_open c) refl q e (line_sized (suc j) cs)
    where
      by : (t : Bool) → is_open c ≡ t → (q : ℕ) → q + tally t (how_many is_open cs) ≡ suc (length cs)
          → ((q : ℕ) → q + how_many is_open cs ≡ length cs → LineSized (suc j) cs (length cs) q (how_many is_open cs))
          → LineSized j (c ∷ cs) (suc (length cs)) q (tally t (how_many is_open cs))
      by true h q e go =
          sized_is b (omega (arith, suc-mul (length cs) (pair_count (suc n)), suc-mul (how_many is_open cs) (n * 2 + 1)))
          (omega (arith, suc-mul (length cs) (pair_count (suc n)), suc-mul (how_many is_open cs) (n * 2 + 1)))
          (sized_append b (cell_open b a n j c is_open h) (go q (omega arith)))
      by false h zero e go = absurd (let m = many_most is_open cs in omega arith)
      by false h (suc q) e go =
          sized_is b (omega (arith, suc-mul (length cs) (pair_count (suc n)), suc-mul q (suc n)))
          (omega (arith, suc-mul (length cs) (pair_count (suc n)), suc-mul q (suc n)))
          (sized_append b (cell_shut b a n j c is_open h) (go q (omega arith)))
