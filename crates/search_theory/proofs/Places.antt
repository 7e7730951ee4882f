-- The rows 16 and 18 find the first fault of a list and of a trail. Assumes nothing.
use Prim.Native.Nat.{ℕ, zero, suc, ◌<◌}
use native.Mathlib.Omega.{arith}
use native.Mathlib.Decide.{ℕ_discrete}
use lib.Dec.{eqb, ltb}
use lib.IntN.{ℤ, pos, negsuc, nat_abs}
use lib.ListN.{length, get_or}
use borrow.Author.Tests.{eqb-true, eqb-false, ltb-true, lt-ltb, not-false}
use mathlib.Core.Path.{◌≡◌, refl, sym, ◌∙◌, ap, subst}
use mathlib.Core.Bool.{Bool, true, false, not, ◌||◌, cond}
use mathlib.Core.Logic.{⊎_elim, ◌↔◌}
use Rattle.std.specs.Prelude.{Option, None, Some}
use mathlib.Core.List.{List, [], ◌∷◌, ◌++◌}
use Rattle.answers.specs.First.{found, or_else, first_where, LeastWith, NoneBelow}
use Rattle.answers.proofs.Bools.{clash, off, or_cases, or_left, or_right}
use Rattle.answers.proofs.First.{first_with, none_with}
use Rattle.cnf.specs.Literals.{closes, beyond_at, unclosed, wrong_list}
use Rattle.cnf.proofs.Lists.{unclosed_tail, closed_rest}
use Rattle.search.specs.Trail.{Slices, entry_at, trail_of, made, is_unassigned, variable_value}
use Rattle.search.specs.Call.{wrong_entry_at}
use Rattle.search_theory.specs.Places.{BeyondAt, ListFault, literal_beyond, not_ending, EntryFault, entry_0, entry-beyond, entry_again, entry_mark}
use Rattle.search_theory.specs.Legal.{Legal}
use Rattle.search_theory.proofs.Lists.{found_some}
use Rattle.search_theory.proofs.Legal.{read_legal, legal_read}
use Rattle.search_theory.proofs.Full.{made-assigned}

closes_zero : (l : ℤ) → closes l ≡ true → l ≡ pos 0
closes_zero (pos zero) h = refl
closes_zero (pos (suc n)) h = clash h refl
closes_zero (negsuc n) h = clash h refl

-- 1. Row 16

-- a list that ends in 0
ends-closed : (xs : List ℤ) → unclosed (xs ++ (pos 0 ∷ [])) ≡ false
ends-closed [] = refl
ends-closed (x ∷ []) = unclosed_tail x (pos 0) []
ends-closed (x ∷ y ∷ xs) = unclosed_tail x y (xs ++ (pos 0 ∷ [])) ∙ ends-closed (y ∷ xs)

closed-ends : (l : ℤ) (ls : List ℤ) → unclosed (l ∷ ls) ≡ false → (front : List ℤ) × ((l ∷ ls) ≡ front ++ (pos 0 ∷ []))
closed-ends l [] h = ([], ap (λ x. x ∷ []) (closes_zero l (not-false (closes l) h)))
closed-ends l (m ∷ ls) h = let (front, e) = closed-ends m ls (closed_rest l (m ∷ ls) h) in (l ∷ front, ap (λ xs. l ∷ xs) e)

is_unclosed : (ls : List ℤ) → (ls ≡ [] → ⊥) → ((front : List ℤ) → ls ≡ front ++ (pos 0 ∷ []) → ⊥) → unclosed ls ≡ true
is_unclosed [] e f = absurd (e refl)
is_unclosed (l ∷ ls) e f = by (unclosed (l ∷ ls)) refl
  where
    by : (t : Bool) → unclosed (l ∷ ls) ≡ t → t ≡ true
    by true q = refl
    by false q = let (front, e) = closed-ends l ls q in absurd (f front e)

module _ (v : ℕ) (ls : List ℤ) where
  tests : (k : ℕ) → k < length ls → beyond_at v ls k ≡ true ↔ BeyondAt v ls k
  tests k h = (ltb-true v (nat_abs (get_or ls k (pos 0))), lt-ltb v (nat_abs (get_or ls k (pos 0))))

  abbrev first : Option ℕ
  first = first_where (beyond_at v ls) (length ls)

  first_beyond : (i : ℕ) → first ≡ Some i ↔ LeastWith (BeyondAt v ls) (length ls) i
  first_beyond = first_with (beyond_at v ls) (BeyondAt v ls) (length ls) tests

  none_beyond : first ≡ None ↔ NoneBelow (BeyondAt v ls) (length ls)
  none_beyond = none_with (beyond_at v ls) (BeyondAt v ls) (length ls) tests

  fault_of : (i : ℕ) (o : Option ℕ) → first ≡ o → or_else o (found (unclosed ls) (length ls) None) ≡ Some i → ListFault v ls i
  fault_of i (Some m) q h = literal_beyond ((first_beyond i).0 (q ∙ h))
  fault_of i None q h =
      let (u, e) = found_some (unclosed ls) (length ls) h in
      subst (ListFault v ls) e (not_ending (none_beyond.0 q) (λ r. clash u (ap unclosed r)) (λ front r. clash u (ap unclosed r ∙ ends-closed front)))

  of_fault : {i : ℕ} → ListFault v ls i → wrong_list v ls ≡ Some i
  of_fault {i} (literal_beyond l) = rw ((first_beyond i).1 l) refl
  of_fault (not_ending f e g) = rw (none_beyond.1 f, is_unclosed ls e g) refl

  -- beside 16 stands the first index of a literal beyond V, else the length of a list that does not end in 0
  pub list_place : (i : ℕ) → wrong_list v ls ≡ Some i ↔ ListFault v ls i
  list_place i = (fault_of i first refl, of_fault)

-- 2. Row 18

module _ (s : Slices) where
  abbrev variable_at : ℕ → ℕ
  variable_at j = nat_abs (entry_at s j).literal

  abbrev assigned : ℕ → ℕ → Bool
  assigned i n = not (is_unassigned (variable_value (trail_of s i) n))

  -- a variable is assigned by the entries before i exactly if one of them is on it
  assigned_by : (i n : ℕ) → assigned i n ≡ true → (j : ℕ) × (j < i) × (variable_at j ≡ n)
  unfolding trail_of variable_value
  assigned_by zero n h = clash h refl
  assigned_by (suc i) n h = by (eqb (variable_at i) n) refl h (assigned_by i n)
    where
      by : (t : Bool) → eqb (variable_at i) n ≡ t
          → not (is_unassigned (cond t (made (entry_at s i).literal) (variable_value (trail_of s i) n))) ≡ true
          → (assigned i n ≡ true → (j : ℕ) × (j < i) × (variable_at j ≡ n))
          → (j : ℕ) × (j < suc i) × (variable_at j ≡ n)
      by true q h go = (i, omega arith, eqb-true (variable_at i) n q)
      by false q h go = let (j, l, e) = go h in (j, omega arith, e)

  by_assigned : (i n j : ℕ) → j < i → variable_at j ≡ n → assigned i n ≡ true
  unfolding trail_of variable_value
  by_assigned zero n j l e = absurd (omega arith)
  by_assigned (suc i) n j l e = by (eqb (variable_at i) n) refl (ℕ_discrete j i) (by_assigned i n j)
    where
      by : (t : Bool) → eqb (variable_at i) n ≡ t → Dec (j ≡ i)
          → (j < i → variable_at j ≡ n → assigned i n ≡ true)
          → not (is_unassigned (cond t (made (entry_at s i).literal) (variable_value (trail_of s i) n))) ≡ true
      by true q d go = made-assigned (entry_at s i).literal
      by false q (yes r) go = absurd (eqb-false (variable_at i) n q (ap variable_at (sym r) ∙ e))
      by false q (no r) go = go (omega arith) e

mark_over : (m : ℕ) → (m ≡ 0 → ⊥) → (m ≡ 1 → ⊥) → 1 < m
mark_over zero f g = absurd (f refl)
mark_over (suc zero) f g = absurd (g refl)
mark_over (suc (suc m)) f g = omega arith

module _ (v : ℕ) (s : Slices) where
  module _ (i : ℕ) where
    abbrev l : ℤ
    l = (entry_at s i).literal

    abbrev mark : ℕ
    mark = (entry_at s i).mark

    abbrev outside : Bool
    outside = closes l || ltb v (nat_abs l)

    abbrev again : Bool
    again = assigned s i (nat_abs l)

    fault_at : wrong_entry_at v s i ≡ true → EntryFault v s i
    fault_at h = ⊎_elim (λ k. ⊎_elim (λ m. ⊎_elim zeroed far (or_cases (closes l) _ m)) used (or_cases _ again k)) marks (or_cases _ (ltb 1 mark) h)
      where
        zeroed : closes l ≡ true → EntryFault v s i
        zeroed h = entry_0 (closes_zero l h)

        far : ltb v (nat_abs l) ≡ true → EntryFault v s i
        far h = entry-beyond (ltb-true v (nat_abs l) h)

        used : again ≡ true → EntryFault v s i
        used h = let (j, k, e) = assigned_by s i (nat_abs l) h in entry_again j k e

        marks : ltb 1 mark ≡ true → EntryFault v s i
        marks h = let k = ltb-true 1 mark h in entry_mark (λ e. omega arith) (λ e. omega arith)

    wrong_at : EntryFault v s i → wrong_entry_at v s i ≡ true
    wrong_at (entry_0 h) = rw h refl
    wrong_at (entry-beyond h) = or_left (outside || again) _ (or_left outside again (or_right (closes l) _ (lt-ltb v (nat_abs l) h)))
    wrong_at (entry_again j k e) = or_left (outside || again) _ (or_right outside again (by_assigned s i (nat_abs l) j k e))
    wrong_at (entry_mark f g) = or_right (outside || again) _ (lt-ltb 1 mark (mark_over mark f g))

  -- beside 18 stands the first used entry with a fault
  pub entry_place : (used i : ℕ) → first_where (wrong_entry_at v s) used ≡ Some i ↔ LeastWith (EntryFault v s) used i
  entry_place used i = first_with (wrong_entry_at v s) (EntryFault v s) used (λ k h. (fault_at k, wrong_at k)) i

  -- a trail is legal exactly if no used entry has one
  pub legal_exactly : (used : ℕ) → Legal v (trail_of s used) ↔ NoneBelow (EntryFault v s) used
  legal_exactly used = (
    λ l k h f. clash (wrong_at k f) (legal_read v s used l k h),
    λ n. read_legal v s used (λ k h. off (wrong_entry_at v s k) (λ e. n k h (fault_at k e))),
  )
