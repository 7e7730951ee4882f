-- The clauses of one clue say that its line has as many black cells as its number. Assumes nothing.
use Prim.Native.Nat.{ℕ, zero, suc, ◌+◌, ◌≤◌, ◌<◌}
use native.Mathlib.Omega.{arith}
use native.Mathlib.Decide.{ℕ_discrete}
use lib.ListN.{length}
use lib.Dec.{eqb}
use borrow.Author.Tests.{eqb-true, eqb-false, eq-eqb, ne_eqb}
use mathlib.Core.Path.{◌≡◌, refl, sym, ◌∙◌, ap}
use mathlib.Core.Bool.{Bool, true, false, ◌&&◌}
use mathlib.Core.Logic.{inl}
use mathlib.Core.List.Memᴰ
use mathlib.Core.List.{List, [], ◌∷◌, map}
use Rattle.answers.specs.Lists.{tally, how_many, ◌∈◌, from, up_to, joined}
use Rattle.answers.proofs.Bools.{off}
use Rattle.answers.proofs.Lists.{many_all}
use Rattle.rules.specs.Drawing.{blacks_nearest}
use Rattle.encoder.specs.Variables.{Variable, Z, T, counts_at}
use Rattle.encoder.specs.Clauses.{plus, minus, pairs, one_more, count_step, cell_parts, cell_clauses, line_clauses, none_black, clue_parts}
use Rattle.answers.proofs.Elements.{all_append, all_left, all_right, all_each, each_at, all_map, map_at, all_joined, joined_all, in_from, of_from, in_up_to}
use Rattle.answers.proofs.Elements.{of_up_to}
use Rattle.encoder.proofs.Distinct.{t_count, counts_apart}
use Rattle.encoder_theory.specs.Valuations.{Sat, Holds}
use Rattle.encoder_theory.proofs.Views.{unit-plus, unit-minus, next-minus, next-plus, not-both, implies, by_minus, by_plus, both_not, at_most_one}
use Rattle.encoder_theory.proofs.Views.{one_at_most}

tally-add : (t : Bool) (k m : ℕ) → tally t k + m ≡ k + tally t m
tally-add true k m = omega arith
tally-add false k m = refl

-- w a valuation, a the clue's cell, n its number
module _ (w : Variable → Bool) (is_open : ℕ → Bool) (a n : ℕ) where
  abbrev pub black : ℕ → Bool
  black c = is_open c && w (Z c)

  -- of the T(j,..) exactly T(j,k) holds
  record Row (j k : ℕ) : Type 0 where
    bound : k ≤ n
    only : (t : ℕ) → t ≤ n → w (T a j t) ≡ eqb k t

  moved : {i j k m : ℕ} → i ≡ j → k ≡ m → Row i k → Row j m
  moved e f r = rw (← e, ← f) r

  row_of : (j k : ℕ) → k ≤ n → w (T a j k) ≡ true → Holds w (pairs (counts_at a n j)) → Row j k
  row_of j k h p q = record { bound = h; only = λ t l. by t l (ℕ_discrete k t) }
    where
      here : (t : ℕ) → t ≤ n → T a j t ∈ counts_at a n j
      here t l = Memᴰ.map (λ t. T a j t) (in_up_to (suc n) t (omega arith))

      by : (t : ℕ) → t ≤ n → Dec (k ≡ t) → w (T a j t) ≡ eqb k t
      by t l (yes e) = ap (λ z. w (T a j z)) (sym e) ∙ p ∙ sym (eq-eqb k t e)
      by t l (no ne) = off (w (T a j t)) (λ r. ne (t_count a j k t (at_most_one w q (here k h) (here t l) p r))) ∙ sym (ne_eqb k t ne)

  holds_at : {j k : ℕ} → Row j k → w (T a j k) ≡ true
  holds_at {k = k} r = r.only k r.bound ∙ eq-eqb k k refl

  -- 1. From the clauses to the rows

  -- past one cell
  past_to : (j k c : ℕ) (o : Bool) → Row j k → Holds w (count_step o a n j c k)
      → (tally (o && w (Z c)) k ≤ n) × (w (T a (suc j) (tally (o && w (Z c)) k)) ≡ true)
  past_to j k c false r h = (r.bound, implies w (T a j k) (T a (suc j) k) h.0 (holds_at r))
  past_to j k c true r h = by (w (Z c)) refl
    where
      full : (l : Bool) → eqb k n ≡ l → w (Z c) ≡ true → Sat w (one_more l a j k c) → (suc k ≤ n) × (w (T a (suc j) (suc k)) ≡ true)
      full true q z s = absurd (not-both w (T a j k) (Z c) s (holds_at r) z)
      full false q z s =
          let ne : k ≡ n → ⊥ = eqb-false k n q in
          let le : k ≤ n = r.bound in
          (omega arith, implies w (Z c) (T a (suc j) (suc k)) (next-minus w (T a j k) (minus (Z c) ∷ plus (T a (suc j) (suc k)) ∷ []) s (holds_at r)) z)

      by : (z : Bool) → w (Z c) ≡ z → (tally z k ≤ n) × (w (T a (suc j) (tally z k)) ≡ true)
      by true z = full (eqb k n) refl z h.1.0
      by false z = (
        r.bound,
        unit-plus w (T a (suc j) k)
            (next-plus w (Z c) (plus (T a (suc j) k) ∷ []) (next-minus w (T a j k) (plus (Z c) ∷ plus (T a (suc j) k) ∷ []) h.0 (holds_at r)) z),
      )

  step : (j k c : ℕ) → Row j k → Holds w (cell_clauses is_open a n j c) → Row (suc j) (tally (black c) k)
  step j k c r h =
      let (ts, (us, e)) = joined_all (Sat w) (cell_parts is_open a n j c) h in
      let l : k ≤ n = r.bound in
      let s = past_to j k c (is_open c) r (each_at (Sat w) (count_step (is_open c) a n j c) ts (in_up_to (suc n) k (omega arith))) in
      row_of (suc j) (tally (black c) k) s.0 s.1 us

  -- after i cells more
  rows : (j k : ℕ) (cs : List ℕ) → Row j k → Holds w (line_clauses is_open a n j cs) → (i : ℕ) → i ≤ length cs → Row (j + i) (k + blacks_nearest black cs i)
  rows j k cs r h zero l = moved (omega arith) (omega arith) r
  rows j k [] r h (suc i) l = absurd (omega arith)
  rows j k (c ∷ cs) r h (suc i) l =
      moved (omega arith) (tally-add (black c) k (blacks_nearest black cs i))
      (rows (suc j) (tally (black c) k) cs (step j k c r (all_left (Sat w) (cell_clauses is_open a n j c) (line_clauses is_open a n (suc j) cs) h))
      (all_right (Sat w) (cell_clauses is_open a n j c) (line_clauses is_open a n (suc j) cs) h) i (omega arith))

  first_row : w (T a 0 0) ≡ true → Holds w (map (none_black a) (from 1 n)) → Row 0 0
  first_row p h = record { bound = omega arith; only = by }
    where
      by : (t : ℕ) → t ≤ n → w (T a 0 t) ≡ eqb 0 t
      by zero l = p
      by (suc t) l =
          unit-minus w (T a 0 (suc t)) (map_at (Sat w) (none_black a) h (in_from 1 n (suc t) (omega arith) (omega arith))) ∙ sym (ne_eqb 0 (suc t) (omega arith))

  -- what T means: of the j cells of the line nearest its far end, t are black
  abbrev pub Counts : List ℕ → Type 0
  Counts cs = (j t : ℕ) → j ≤ length cs → t ≤ n → w (T a j t) ≡ eqb (blacks_nearest black cs j) t

  module _ (cs : List ℕ) where
    module _ (h : Holds w (joined (clue_parts is_open a n cs))) where
      pub counts : Counts cs
      counts j t l k =
          let g = joined_all (Sat w) (clue_parts is_open a n cs) h in
          let from_start = rows 0 0 cs (first_row (unit-plus w (T a 0 0) g.0.0) g.1.0) g.1.1.0 j l in
          let r : Row j (blacks_nearest black cs j) = moved (omega arith) (omega arith) from_start in
          r.only t k

      -- its line has exactly n black cells
      pub clue_met : how_many black cs ≡ n
      clue_met =
          let g = joined_all (Sat w) (clue_parts is_open a n cs) h in
          let e : w (T a (length cs) n) ≡ true = unit-plus w (T a (length cs) n) g.1.1.1.0.0 in
          sym (many_all black cs refl) ∙ eqb-true _ _ (sym (counts (length cs) n (omega arith) (omega arith)) ∙ e)

  -- 2. From the rows to the clauses

  past_of : (j k c t : ℕ) (o : Bool) → t ≤ n → Row j k → Row (suc j) (tally (o && w (Z c)) k) → Holds w (count_step o a n j c t)
  past_of j k c t false l r s = (by_minus w (T a j t) (plus (T a (suc j) t) ∷ []) (λ p. inl (s.only t l ∙ sym (r.only t l) ∙ p)), tt)
  past_of j k c t true l r s = (
    by_minus w (T a j t) (plus (Z c) ∷ plus (T a (suc j) t) ∷ []) (λ p. by_plus w (Z c) (plus (T a (suc j) t) ∷ []) (λ z. inl (white p z))),
    (full (eqb t n) refl, tt),
  )
    where
      same : w (T a j t) ≡ true → k ≡ t
      same p = eqb-true k t (sym (r.only t l) ∙ p)

      white : w (T a j t) ≡ true → w (Z c) ≡ false → w (T a (suc j) t) ≡ true
      white p z = (rw z at s).only t l ∙ eq-eqb k t (same p)

      full : (m : Bool) → eqb t n ≡ m → Sat w (one_more m a j t c)
      full true q =
          both_not w (T a j t) (Z c) (λ p z. let b : suc k ≤ n = (rw z at s).bound in let f : t ≡ n = eqb-true t n q in let g : k ≡ t = same p in omega arith)
      full false q = by_minus w (T a j t) (minus (Z c) ∷ plus (T a (suc j) (suc t)) ∷ []) (λ p. by_minus w (Z c) (plus (T a (suc j) (suc t)) ∷ []) (λ z.
          let ne : t ≡ n → ⊥ = eqb-false t n q in
          inl ((rw z at s).only (suc t) (omega arith) ∙ eq-eqb (suc k) (suc t) (ap suc (same p)))))

  pairs_of : (j k : ℕ) → Row j k → Holds w (pairs (counts_at a n j))
  pairs_of j k r = one_at_most w (counts_at a n j) (counts_apart a n j) one
    where
      is : (t : ℕ) → t < suc n → w (T a j t) ≡ true → k ≡ t
      is t l p = eqb-true k t (sym (r.only t (omega arith)) ∙ p)

      one : (u v : Variable) → u ∈ counts_at a n j → v ∈ counts_at a n j → w u ≡ true → w v ≡ true → u ≡ v
      one u v m o p q =
          let x = Memᴰ.of_map (λ t. T a j t) (up_to (suc n)) m in
          let y = Memᴰ.of_map (λ t. T a j t) (up_to (suc n)) o in
          sym x.2 ∙ ap (λ t. T a j t) (sym (is x.0 (of_up_to (suc n) x.1) (ap w x.2 ∙ p)) ∙ is y.0 (of_up_to (suc n) y.1) (ap w y.2 ∙ q))
          ∙ y.2

  line_of : (j k : ℕ) (cs : List ℕ) → ((i : ℕ) → i ≤ length cs → Row (j + i) (k + blacks_nearest black cs i)) → Holds w (line_clauses is_open a n j cs)
  line_of j k [] f = tt
  line_of j k (c ∷ cs) f =
      all_append (Sat w) (cell_clauses is_open a n j c) (line_clauses is_open a n (suc j) cs)
      (all_joined (Sat w) (cell_parts is_open a n j c) (
        all_each (Sat w) (count_step (is_open c) a n j c) (up_to (suc n)) (λ t m. let l = of_up_to (suc n) m in past_of j k c t (is_open c) (omega arith) this next),
        (pairs_of (suc j) (tally (black c) k) next, tt),
      ))
      (line_of (suc j) (tally (black c) k) cs (λ i l. moved (omega arith) (sym (tally-add (black c) k (blacks_nearest black cs i))) (f (suc i) (omega arith))))
    where
      this : Row j k
      this = moved (omega arith) (omega arith) (f 0 (omega arith))

      next : Row (suc j) (tally (black c) k)
      next = moved (omega arith) (sym (tally-add (black c) k 0) ∙ omega arith) (f 1 (omega arith))

  -- part of a line has no more black cells than the line
  part_of : (cs : List ℕ) (i : ℕ) → blacks_nearest black cs i ≤ how_many black cs
  part_of cs zero = omega arith
  part_of [] (suc i) = omega arith
  part_of (c ∷ cs) (suc i) = by (black c) (part_of cs i)
    where
      by : (t : Bool) → blacks_nearest black cs i ≤ how_many black cs → tally t (blacks_nearest black cs i) ≤ tally t (how_many black cs)
      by true h = omega arith
      by false h = h

  -- T by counting, and as many black cells as the number: the clauses of the clue hold
  pub clue_of : (cs : List ℕ) → Counts cs → how_many black cs ≡ n → Holds w (joined (clue_parts is_open a n cs))
  clue_of cs h e =
      all_joined (Sat w) (clue_parts is_open a n cs) (
        (inl (h 0 0 (omega arith) (omega arith)), tt),
        (
          all_map (Sat w) (none_black a) (from 1 n) (λ t m. let r = of_from 1 n m in inl (h 0 t (omega arith) (omega arith) ∙ ne_eqb 0 t (omega arith))),
          (
            line_of 0 0 cs
                (λ i l.
                moved {i = i} {k = blacks_nearest black cs i} (omega arith) (omega arith)
                (record { bound = (let p = part_of cs i in omega arith); only = λ t k. h i t l k })),
            ((inl (h (length cs) n (omega arith) (omega arith) ∙ eq-eqb _ _ (many_all black cs refl ∙ e)), tt), tt),
          ),
        ),
      )
