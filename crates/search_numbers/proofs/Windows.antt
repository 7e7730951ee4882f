-- The variables, window by window. Assumes nothing.
use Prim.Native.Nat.{ℕ, suc, ◌+◌, ◌-◌, ◌≤◌, ◌<◌}
use native.Mathlib.Omega.{arith}
use native.Mathlib.Decide.{dec_lt}
use lib.Dec.{eqb, leb, ltb}
use lib.IntN.{ℤ, pos, nat_abs}
use lib.ListN.{length, get_or, drop, length-drop}
use lib.Seq.{get_or-drop}
use borrow.Author.Tests.{eq-eqb, ne_eqb, lt-ltb, le-ltb, le-leb, lt-leb, ltb-false}
use mathlib.Core.Path.{◌≡◌, refl, sym, ◌∙◌, ap, subst}
use mathlib.Core.Bool.{Bool, true, false, not, ◌&&◌, ◌||◌, and-true, or-and_distrib_left}
use Rattle.std.specs.Prelude.{None, Some}
use mathlib.Core.List.{List, [], ◌∷◌}
use Rattle.answers.specs.First.{first_where, Until}
use Rattle.cnf.specs.Literals.{closes, code_of}
use Rattle.cnf.specs.Clauses.{place_after}
use Rattle.cnf.proofs.Lists.{some_variable}
use Rattle.search.specs.Trail.{Entry, Slices, Values, entry_at, trail_of, variable_value}
use Rattle.search.specs.Step.{every_literal, fails, passes_but}
use Rattle.search.specs.Reasons.{differs, is_reason, from_number, wrong_number, wrong_number_at, wrong_numbers}
use Rattle.search_scan.specs.PackedValues.{Within}
use Rattle.answers.proofs.Bounds.{until_found, until_none, until_both, until_same}
use Rattle.search_numbers.specs.Entries.{HasEntries, numbered_at}
use Rattle.search_numbers.specs.Window.{passes, wrong_in}

-- 1. Two tests, and both

and_swap : (a b c d : Bool) → (a && b) && (c && d) ≡ (a && c) && (b && d)
and_swap true true c d = refl
and_swap true false true d = refl
and_swap true false false d = refl
and_swap false b c d = refl

every_both : (p q : ℤ → Bool) (c : List ℤ) → every_literal p c && every_literal q c ≡ every_literal (λ k. p k && q k) c
unfolding every_literal
every_both p q [] = refl
every_both p q (l ∷ c) = by (closes l) (every_both p q c)
  where
    by : (b : Bool) → every_literal p c && every_literal q c ≡ every_literal (λ k. p k && q k) c
        → (b || (p l && every_literal p c)) && (b || (q l && every_literal q c)) ≡ b || ((p l && q l) && every_literal (λ k. p k && q k) c)
    by true h = refl
    by false h = and_swap (p l) (every_literal p c) (q l) (every_literal q c) ∙ ap (λ b. (p l && q l) && b) h

module _ (p q : ℤ → Bool) where
  reason_both : (l : ℤ) (c : List ℤ) → is_reason p l c && is_reason q l c ≡ is_reason (λ k. p k && q k) l c
  reason_both l c =
      let has : Bool = not (every_literal (differs l) c) in
      by has (every_literal (passes_but p l) c) (every_literal (passes_but q l) c)
      ∙ ap (λ b. has && b)
      (every_both (passes_but p l) (passes_but q l) c
      ∙ ap (λ r. every_literal r c) (λ j k. sym (or-and_distrib_left (eqb (code_of k) (code_of l)) (p k) (q k)) j))
    where
      by : (h a b : Bool) → (h && a) && (h && b) ≡ h && (a && b)
      by true a b = refl
      by false a b = refl

  wrong_both : (ls : List ℤ) (e : Entry) → wrong_number p ls e || wrong_number q ls e ≡ wrong_number (λ k. p k && q k) ls e
  wrong_both ls e =
      let c : List ℤ = from_number ls e.number in
      by (not (eqb e.number 0)) (eqb e.mark 1) (is_reason p e.literal c) (is_reason q e.literal c)
      ∙ ap (λ r. not (eqb e.number 0) && (eqb e.mark 1 || not r)) (reason_both e.literal c)
    where
      by : (n m a b : Bool) → (n && (m || not a)) || (n && (m || not b)) ≡ n && (m || not (a && b))
      by false m a b = refl
      by true true a b = refl
      by true false true b = refl
      by true false false b = refl

-- 2. Two windows, and both

passes_both : (low mid high : ℕ) → low ≤ mid → mid ≤ high → (w : Values) (k : ℤ)
    → passes low mid w k && passes mid high w k ≡ passes low high w k
passes_both low mid high a b w k = by (nat_abs k) (fails w k) (dec_lt (nat_abs k) mid)
  where
    by : (x : ℕ) (f : Bool) → Dec (x < mid)
        → (not (leb low x && ltb x mid) || f) && (not (leb mid x && ltb x high) || f) ≡ not (leb low x && ltb x high) || f
    by x f (yes h) = rw (lt-ltb x mid h, lt-leb mid x h, lt-ltb x high (omega arith)) (and-true (not (leb low x && true) || f))
    by x f (no h) = rw (le-ltb x mid (omega arith), le-leb mid x (omega arith), le-leb low x (omega arith))

-- below `low` no entry before the n-th is wrong, and below 1 none was looked at
pub record Below (ls : List ℤ) (s : Slices) (n₀ low n : ℕ) : Type 0 where
  few : n ≤ n₀
  none : low ≡ 1 → n ≡ n₀
  some : 1 < low → Until (wrong_in 1 low ls s) n₀ n

module _ {ls : List ℤ} {s : Slices} where
  pub below_few : {n₀ low n : ℕ} → Below ls s n₀ low n → HasEntries s n₀ → HasEntries s n
  below_few g h = let f = g.few in record { trail = omega arith; marks = omega arith; numbers = omega arith }

  pub below_start : {n : ℕ} → Below ls s n 1 n
  below_start = record { few = omega arith; none = λ e. refl; some = λ h. absurd (omega arith) }

  -- a window more
  pub below_on : {n₀ n m low high : ℕ} → Below ls s n₀ low n → Until (wrong_in low high ls s) n m → 1 ≤ low → low < high → Below ls s n₀ high m
  below_on {n₀} {n} {m} {low} {high} g x a b =
      let w = x.within in
      let f = g.few in
      record { few = omega arith; none = λ e. absurd (omega arith); some = λ h. by (dec_lt 1 low) }
    where
      same : (i : ℕ) → wrong_in 1 low ls s i || wrong_in low high ls s i ≡ wrong_in 1 high ls s i
      same i =
          let w : Values = variable_value (trail_of s i) in
          wrong_both (passes 1 low w) (passes low high w) ls (entry_at s i)
          ∙ ap (λ p. wrong_number p ls (entry_at s i)) (λ j k. passes_both 1 low high a (omega arith) w k j)

      by : Dec (1 < low) → Until (wrong_in 1 high ls s) n₀ m
      by (yes h) = until_same (until_both (g.some h) x) (λ i h. same i)
      by (no h) =
          let e : low ≡ 1 = omega arith in
          subst (λ (k : ℕ). Until (wrong_in 1 high ls s) k m) (g.none e) (subst (λ (k : ℕ). Until (wrong_in k high ls s) n m) e x)

-- 3. All variables

-- tests that agree on the literals of a list
every_same : (p q : ℤ → Bool) (c : List ℤ)
    → ((j : ℕ) → j < length c → closes (get_or c j (pos 0)) ≡ false → p (get_or c j (pos 0)) ≡ q (get_or c j (pos 0)))
    → every_literal p c ≡ every_literal q c
unfolding every_literal
every_same p q [] h = refl
every_same p q (l ∷ c) h = by (closes l) refl (every_same p q c (λ j k z. h (suc j) (omega arith) z))
  where
    by : (b : Bool) → closes l ≡ b → every_literal p c ≡ every_literal q c → b || (p l && every_literal p c) ≡ b || (q l && every_literal q c)
    by true z e = refl
    by false z e = (λ j. h 0 (omega arith) z j && e j)

module _ {v : ℕ} {ls : List ℤ} {s : Slices} (inside : Within v ls) where
  -- the windows up to V have all variables of the list
  pub below_all : {n m : ℕ} (high : ℕ) → 1 < high → v < high → Below ls s n high m → Until (wrong_number_at ls s) n m
  below_all high o h g = until_same (g.some o) (λ i l. same (variable_value (trail_of s i)) (entry_at s i))
    where
      at : (w : Values) (start j : ℕ) → j < length (drop start ls) → closes (get_or (drop start ls) j (pos 0)) ≡ false
          → passes 1 high w (get_or (drop start ls) j (pos 0)) ≡ fails w (get_or (drop start ls) j (pos 0))
      at w start j l z =
          let e = get_or-drop start ls j (pos 0) in
          let x : ℤ = get_or (drop start ls) j (pos 0) in
          let low : 1 ≤ nat_abs x = some_variable x z in
          let b = ltb-false v (nat_abs (get_or ls (start + j) (pos 0))) (inside.each (start + j) (omega (arith, length-drop start ls))) in
          let most : nat_abs x ≤ v = rw e b in
          rw (le-leb 1 (nat_abs x) low, lt-ltb (nat_abs x) high (omega arith))

      same : (w : Values) (e : Entry) → wrong_number (passes 1 high w) ls e ≡ wrong_number (fails w) ls e
      same w e =
          let l : ℤ = e.literal in
          let c : List ℤ = from_number ls e.number in
          ap (λ b. not (eqb e.number 0) && (eqb e.mark 1 || not (not (every_literal (differs l) c) && b)))
          (every_same (passes_but (passes 1 high w) l) (passes_but (fails w) l) c
          (λ j h z. ap (λ b. eqb (code_of (get_or c j (pos 0))) (code_of l) || b) (at w (place_after (e.number - 1) ls) j h z)))

-- 4. The refusal

module _ (v : ℕ) (ls : List ℤ) (s : Slices) (used : ℕ) where
  pub numbers_long : (length s.numbers ≡ v → ⊥) → Some 0 ≡ wrong_numbers v ls s used
  numbers_long h = rw (ne_eqb (length s.numbers) v h)

  module _ (h : length s.numbers ≡ v) where
    by_entries : first_where (wrong_number_at ls s) used ≡ wrong_numbers v ls s used
    by_entries = rw (eq-eqb (length s.numbers) v h)

    pub numbers_none : {m : ℕ} → Until (numbered_at s.numbers) used m → m ≡ used → None ≡ wrong_numbers v ls s used
    numbers_none u e = until_none {n = used} {m = used} whole (omega arith) ∙ by_entries
      where
        whole : Until (wrong_number_at ls s) used used
        whole = record { within = omega arith; none_yet = λ k l. rw (u.none_yet k (omega arith)); stops = λ l. absurd (omega arith) }

    module _ {m : ℕ} (u : Until (wrong_number_at ls s) used m) where
      pub numbers_wrong : m < used → Some m ≡ wrong_numbers v ls s used
      numbers_wrong l = until_found u l ∙ by_entries

      pub numbers_right : used ≤ m → None ≡ wrong_numbers v ls s used
      numbers_right l = until_none u l ∙ by_entries
