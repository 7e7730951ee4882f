-- A legal trail has as many entries as variables are assigned; a full one is one assignment. Assumes nothing.
use Prim.Native.Nat.{ℕ, zero, suc, ◌+◌, ◌≤◌, ◌<◌}
use native.Mathlib.Omega.{arith}
use native.Mathlib.Decide.{ℕ_discrete}
use lib.Dec.{eqb}
use lib.IntN.{ℤ, pos, negsuc, nat_abs}
use lib.ListN.{length, get_or}
use lib.Seq.{ext_get_or}
use borrow.Author.Tests.{eq-eqb, ne_eqb, ltb-false, eqb-true}
use mathlib.Core.Path.{◌≡◌, refl, sym, ◌∙◌, ap}
use mathlib.Core.Bool.{Bool, true, false, not, cond}
use mathlib.Core.List.{List, [], ◌∷◌}
use Rattle.answers.specs.Lists.{tally, All}
use Rattle.answers.proofs.Bools.{clash}
use Rattle.cnf.specs.Clauses.{Assignment, value}
use Rattle.search.specs.Trail.{Trail, Value, True, False, Unassigned, is_true, is_false, is_unassigned, opposite, made, variable_value, Agrees, values_from}
use Rattle.search.specs.Trail.{values_of}
use Rattle.search.specs.Step.{fails}
use Rattle.search_theory.specs.Openings.{OneAssignment}
use Rattle.search_theory.specs.Legal.{Proper, Legal}
use Rattle.search_theory.proofs.Lists.{all_map}
use Rattle.search_theory.proofs.Legal.{AllAssigned}
use Rattle.search_theory.proofs.Values.{Tells, variable_told}

-- how many numbers below n pass the test
unfoldable count : (ℕ → Bool) → ℕ → ℕ
count p zero = 0
count p (suc n) = tally (p n) (count p n)

tally-step : (b : Bool) (n : ℕ) → (n ≤ tally b n) × (tally b n ≤ suc n)
tally-step true n = (omega arith, omega arith)
tally-step false n = (omega arith, omega arith)

count_most : (p : ℕ → Bool) (n : ℕ) → count p n ≤ n
unfolding count
count_most p zero = omega arith
count_most p (suc n) = let h = count_most p n in omega (arith, (tally-step (p n) (count p n)).1)

-- all of them, or one short
count_all : (p : ℕ → Bool) (n : ℕ) → ((k : ℕ) → k < n → p k ≡ true) → count p n ≡ n
unfolding count
count_all p zero h = refl
count_all p (suc n) h = rw (h n (omega arith)) (ap suc (count_all p n (λ k l. h k (omega arith))))

count_short : (p : ℕ → Bool) (n k : ℕ) → k < n → p k ≡ false → count p n < n
unfolding count
count_short p zero k h q = absurd (omega arith)
count_short p (suc n) k h q = by (ℕ_discrete k n) (count_short p n k)
  where
    by : Dec (k ≡ n) → (k < n → p k ≡ false → count p n < n) → tally (p n) (count p n) < suc n
    by (yes e) go = rw (sym (ap p e) ∙ q) (let m = count_most p n in omega arith)
    by (no e) go = let m = go (omega arith) q in omega (arith, (tally-step (p n) (count p n)).1)

-- a test that passes one number more
module _ (p q : ℕ → Bool) (k : ℕ) (new : p k ≡ false) (passes : q k ≡ true) (same : (j : ℕ) → (j ≡ k → ⊥) → q j ≡ p j) where
  count_below : (n : ℕ) → n ≤ k → count q n ≡ count p n
  unfolding count
  count_below zero h = refl
  count_below (suc n) h = rw (same n (λ e. omega arith)) (ap (tally (p n)) (count_below n (omega arith)))

  count_more : (n : ℕ) → k < n → count q n ≡ suc (count p n)
  unfolding count
  count_more zero h = absurd (omega arith)
  count_more (suc n) h = by (ℕ_discrete k n) (count_more n)
    where
      over : (b : Bool) (c d : ℕ) → c ≡ suc d → tally b c ≡ suc (tally b d)
      over true c d e = ap suc e
      over false c d e = e

      by : Dec (k ≡ n) → (k < n → count q n ≡ suc (count p n)) → tally (q n) (count q n) ≡ suc (tally (p n) (count p n))
      by (yes e) go = rw (sym (ap q e) ∙ passes, sym (ap p e) ∙ new) (ap suc (count_below n (omega arith)))
      by (no e) go = rw (same n (λ s. e (sym s))) (over (p n) (count q n) (count p n) (go (omega arith)))

-- variable k + 1 is assigned
abbrev pub assigned : Trail → ℕ → Bool
assigned t k = not (is_unassigned (variable_value t (suc k)))

pub made-assigned : (l : ℤ) → not (is_unassigned (made l)) ≡ true
made-assigned (pos n) = refl
made-assigned (negsuc n) = refl

-- the index of a proper literal's variable
index : (v : ℕ) (l : ℤ) → Proper v l → (k : ℕ) × (nat_abs l ≡ suc k) × (k < v)
index v (pos zero) p = clash refl p.nonzero
index v (pos (suc n)) p = let h = ltb-false v (suc n) p.within in (n, refl, omega arith)
index v (negsuc n) p = let h = ltb-false v (suc n) p.within in (n, refl, omega arith)

counted : (v : ℕ) (t : Trail) → Legal v t → count (assigned t) v ≡ length t
unfolding variable_value count
counted v [] l = none v
  where
    none : (n : ℕ) → count (λ k. false) n ≡ 0
    none zero = refl
    none (suc n) = none n
counted v (e ∷ t) l = count_more (assigned t) (assigned (e ∷ t)) x.0 new passes same v x.2 ∙ ap suc (counted v t l.1)
  where
    x : (k : ℕ) × (nat_abs e.literal ≡ suc k) × (k < v)
    x = index v e.literal l.0.proper

    new : assigned t x.0 ≡ false
    new = ap (λ w. not (is_unassigned w)) (ap (variable_value t) (sym x.1) ∙ l.0.free)

    passes : assigned (e ∷ t) x.0 ≡ true
    passes = rw (eq-eqb _ _ x.1) (made-assigned e.literal)

    same : (j : ℕ) → (j ≡ x.0 → ⊥) → assigned (e ∷ t) j ≡ assigned t j
    same j n = rw (ne_eqb (nat_abs e.literal) (suc j) (λ q. n (let r = x.1 in omega arith)))

module _ (v : ℕ) (t : Trail) (legal : Legal v t) where
  pub legal_length : length t ≤ v
  legal_length = let c = counted v t legal in let m = count_most (assigned t) v in omega arith

  -- full exactly if every variable is assigned
  pub full_length : AllAssigned v (variable_value t) → length t ≡ v
  full_length h = sym (counted v t legal) ∙ count_all (assigned t) v (λ k l. ap not (h k l))

  pub length_full : length t ≡ v → AllAssigned v (variable_value t)
  length_full e n h = by (is_unassigned (variable_value t (suc n))) refl
    where
      by : (b : Bool) → is_unassigned (variable_value t (suc n)) ≡ b → b ≡ false
      by true q = let c = counted v t legal in let s = count_short (assigned t) v n h (ap not q) in absurd (omega arith)
      by false q = refl

-- the V values of a trail
pub length_values : (t : Trail) (k n : ℕ) → length (values_from t k n) ≡ n
unfolding values_from
length_values t k zero = refl
length_values t k (suc n) = ap suc (length_values t (suc k) n)

values_at : (t : Trail) (k n i : ℕ) → i < n → get_or (values_from t k n) i false ≡ is_true (variable_value t (suc (k + i)))
unfolding values_from
values_at t k zero i h = absurd (omega arith)
values_at t k (suc n) zero h = let e : k + 0 ≡ k = omega arith in rw e
values_at t k (suc n) (suc i) h = let e : k + suc i ≡ suc k + i = omega arith in rw e (values_at t (suc k) n i (omega arith))

pub values-of : (v : ℕ) (t : Trail) (i : ℕ) → i < v → get_or (values_of v t) i false ≡ is_true (variable_value t (suc i))
values-of v t i h = let e : 0 + i ≡ i = omega arith in rw e at (values_at t 0 v i h)

-- each literal of a legal trail is true under it
own : (v : ℕ) (t : Trail) → Legal v t → All (λ e. Proper v e.literal × (variable_value t (nat_abs e.literal) ≡ made e.literal)) t
unfolding variable_value
own v [] l = tt
own v (e ∷ t) l =
    ((l.0.proper, rw (eq-eqb (nat_abs e.literal) (nat_abs e.literal) refl)), all_map (λ x h. (h.0, later x.literal h.1)) t (own v t l.1))
  where
    later : (k : ℤ) → variable_value t (nat_abs k) ≡ made k
        → cond (eqb (nat_abs e.literal) (nat_abs k)) (made e.literal) (variable_value t (nat_abs k)) ≡ made k
    later k h = by (eqb (nat_abs e.literal) (nat_abs k)) refl
      where
        by : (b : Bool) → eqb (nat_abs e.literal) (nat_abs k) ≡ b → cond b (made e.literal) (variable_value t (nat_abs k)) ≡ made k
        by true q =
            let free = ap (variable_value t) (sym (eqb-true _ _ q)) ∙ l.0.free in
            clash (made-assigned k) (ap (λ w. not (is_unassigned w)) (sym h ∙ free))
        by false q = h

module _ (v : ℕ) (t : Trail) (all : AllAssigned v (variable_value t)) where
  -- where every variable is assigned, a literal that is not false is true
  pub literal_true : (l : ℤ) → fails (variable_value t) l ≡ false → Proper v l → value (values_of v t) l ≡ true
  literal_true (pos zero) h p = clash refl p.nonzero
  literal_true (pos (suc n)) h p = let k = ltb-false v (suc n) p.within in values-of v t n k ∙ by (variable_value t (suc n)) (all n k) h
    where
      by : (w : Value) → is_unassigned w ≡ false → is_false w ≡ false → is_true w ≡ true
      by True u h = refl
      by False u h = clash refl h
      by Unassigned u h = clash refl u
  literal_true (negsuc n) h p = let k = ltb-false v (suc n) p.within in ap not (values-of v t n k) ∙ by (variable_value t (suc n)) (all n k) h
    where
      by : (w : Value) → is_unassigned w ≡ false → is_false (opposite w) ≡ false → not (is_true w) ≡ true
      by True u h = clash refl h
      by False u h = refl
      by Unassigned u h = clash refl u

  full_agrees : Legal v t → Agrees (values_of v t) t
  full_agrees l = all_map (λ e h. literal_true e.literal (by e.literal h.1) h.0) t (own v t l)
    where
      by : (l : ℤ) → variable_value t (nat_abs l) ≡ made l → fails (variable_value t) l ≡ false
      by (pos n) h = ap is_false h
      by (negsuc n) h = ap (λ w. is_false (opposite w)) h

  full_only : (a : List Bool) → Assignment v a → Agrees a t → a ≡ values_of v t
  full_only a long g = ext_get_or false a (values_of v t) (long ∙ sym (length_values t 0 v)) at_each
    where
      by : {b : Bool} (w : Value) → is_unassigned w ≡ false → Tells w b → b ≡ is_true w
      by True u h = h
      by False u h = h
      by Unassigned u h = clash refl u

      at_each : (i : ℕ) → i < length a → get_or a i false ≡ get_or (values_of v t) i false
      at_each i h =
          let k : i < v = omega arith in
          by (variable_value t (suc i)) (all i k) (variable_told a t g i) ∙ sym (values-of v t i k)

  pub one_assignment : Legal v t → OneAssignment v t
  one_assignment l = record { assignment = length_values t 0 v; agrees = full_agrees l; only = full_only }
