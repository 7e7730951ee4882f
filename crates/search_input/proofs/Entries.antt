-- What is wrong with an entry. Assumes nothing.
use Prim.Native.Nat.{ℕ, zero, suc, ◌<◌}
use lib.Dec.{eqb, ltb}
use lib.IntN.{ℤ, pos, negsuc}
use lib.ListN.{get_or}
use borrow.Author.Tests.{ltb-false}
use mathlib.Core.Path.{◌≡◌, refl}
use mathlib.Core.Bool.{Bool, true, false, not, ◌||◌, cond, or_comm}
use mathlib.Core.List.{List}
use Rattle.answers.proofs.Bools.{or_neither}
use Rattle.cnf.specs.Literals.{closes, variable_at}
use Rattle.cnf.proofs.Lists.{some_variable}
use Rattle.search.specs.Trail.{slices, is_unassigned, made, trail_of, variable_value}
use Rattle.search.specs.Call.{wrong_entry_at}
use Rattle.answers.specs.First.{Until}
use Rattle.search_input.specs.Entries.{faulty_at, used_before, used_at, Inside}
use Rattle.answers.proofs.Bounds.{until_both, until_same}

-- a variable has a value exactly if an entry stands on it
used-before : (ts : List ℤ) (ms ns : List ℕ) (n x : ℕ) → not (is_unassigned (variable_value (trail_of (slices ts ms ns) n) x)) ≡ used_before ts n x
unfolding trail_of variable_value used_before
used-before ts ms ns zero x = refl
used-before ts ms ns (suc n) x = by (eqb (variable_at ts n) x) (get_or ts n (pos 0)) (used-before ts ms ns n x)
  where
    by : (b : Bool) (l : ℤ) → not (is_unassigned (variable_value (trail_of (slices ts ms ns) n) x)) ≡ used_before ts n x
        → not (is_unassigned (cond b (made l) (variable_value (trail_of (slices ts ms ns) n) x))) ≡ b || used_before ts n x
    by true (pos m) e = refl
    by true (negsuc m) e = refl
    by false l e = e

-- entries without a fault of their own stand on variables 1 to V
pub faulty_inside : (v : ℕ) (ts : List ℤ) (ms : List ℕ) {used n : ℕ} → Until (faulty_at v ts ms) used n → Inside v ts n
faulty_inside v ts ms {used} {n} u = record { low = λ i h. some_variable (get_or ts i (pos 0)) (both i h).0; high = λ i h. ltb-false v _ (both i h).1 }
  where
    both : (i : ℕ) → i < n → (closes (get_or ts i (pos 0)) ≡ false) × (ltb v (variable_at ts i) ≡ false)
    both i h = or_neither (closes (get_or ts i (pos 0))) _ (or_neither _ (ltb 1 (get_or ms i 0)) (u.none_yet i h)).0

-- an entry is wrong by itself, or for the entries before it
pub wrong_entries : (v : ℕ) (ts : List ℤ) (ms ns : List ℕ) {used n m : ℕ} → Until (faulty_at v ts ms) used n → Until (used_at ts) n m
    → Until (wrong_entry_at v (slices ts ms ns)) used m
wrong_entries v ts ms ns a b = until_same (until_both a b) (λ i h. by i)
  where
    swap : (a b c : Bool) → a || c || b ≡ a || b || c
    swap true b c = refl
    swap false b c = or_comm c b

    by : (i : ℕ) → faulty_at v ts ms i || used_at ts i ≡ wrong_entry_at v (slices ts ms ns) i
    by i = rw (← used-before ts ms ns i (variable_at ts i)) (swap (closes (get_or ts i (pos 0)) || ltb v (variable_at ts i)) _ (ltb 1 (get_or ms i 0)))
