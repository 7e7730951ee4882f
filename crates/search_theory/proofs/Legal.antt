-- Legal trails, and what holds of each entry of a trail. Assumes nothing.
use Prim.Native.Nat.{ℕ, zero, suc, ◌≤◌, ◌<◌}
use native.Mathlib.Omega.{arith}
use native.Mathlib.Decide.{ℕ_discrete}
use lib.Dec.{ltb}
use lib.IntN.{ℤ, pos, nat_abs}
use lib.ListN.{get_or}
use borrow.Author.Tests.{ltb-false, le-ltb, not-false}
use mathlib.Core.Path.{◌≡◌, refl, sym, ◌∙◌, ap, subst}
use mathlib.Core.Bool.{Bool, true, false, not}
use mathlib.Core.Logic.{◌↔◌}
use mathlib.Core.List.{List}
use Rattle.answers.proofs.Bools.{clash, or_neither}
use Rattle.cnf.specs.Literals.{closes, beyond}
use Rattle.search.specs.Trail.{Entry, Trail, Value, True, False, Unassigned, is_unassigned, variable_value, Slices, entry_at, trail_of, Values}
use Rattle.search.specs.Call.{wrong_entry, wrong_entry_at}
use Rattle.search.proofs.Trails.{same_values}
use Rattle.search_theory.specs.Legal.{Proper, LegalEntry, EachEntry, Legal}

-- every variable is assigned
abbrev pub AllAssigned : ℕ → Values → Type 0
AllAssigned v w = (n : ℕ) → n < v → is_unassigned (w (suc n)) ≡ false

pub unassigned : (w : Value) → is_unassigned w ≡ true → w ≡ Unassigned
unassigned True h = clash h refl
unassigned False h = clash h refl
unassigned Unassigned h = refl

entry_legal : (v : ℕ) (t : Trail) (e : Entry) → wrong_entry v t e ≡ false → LegalEntry v t e
entry_legal v t e h =
    let p = or_neither _ (ltb 1 e.mark) h in
    let q = or_neither _ (not (is_unassigned (variable_value t (nat_abs e.literal)))) p.0 in
    let r = or_neither (closes e.literal) (beyond v e.literal) q.0 in
    record {
      proper = record { nonzero = r.0; within = r.1 };
      free = unassigned _ (not-false _ q.1);
      mark_small = ltb-false 1 e.mark p.1;
    }

legal_entry : (v : ℕ) (t : Trail) (e : Entry) → LegalEntry v t e → wrong_entry v t e ≡ false
legal_entry v t e r = rw (r.proper.nonzero, r.proper.within, r.free, le-ltb 1 e.mark r.mark_small)

-- what holds of each entry holds of each at the beginning
module _ (P : Trail → Entry → Type 0) (s : Slices) where
  pub each_before : (n : ℕ) → EachEntry P (trail_of s n) → (i : ℕ) → i ≤ n → EachEntry P (trail_of s i)
  unfolding trail_of
  each_before zero l i h = let e : 0 ≡ i = omega arith in subst (λ (j : ℕ). EachEntry P (trail_of s j)) e l
  each_before (suc n) l i h = by (ℕ_discrete i (suc n)) (each_before n l.1 i)
    where
      by : Dec (i ≡ suc n) → (i ≤ n → EachEntry P (trail_of s i)) → EachEntry P (trail_of s i)
      by (yes e) go = subst (λ (j : ℕ). EachEntry P (trail_of s j)) (sym e) l
      by (no e) go = go (omega arith)

  pub each_at : (n : ℕ) → EachEntry P (trail_of s n) → (i : ℕ) → i < n → P (trail_of s i) (entry_at s i)
  unfolding trail_of
  each_at n l i h = (each_before n l (suc i) (omega arith)).0

-- a property that an entry has exactly if a test of it fails: of each entry that is read from slices
module _ {P : Trail → Entry → Type 0} (wrong : Trail → Entry → Bool) (exactly : (t : Trail) (e : Entry) → wrong t e ≡ false ↔ P t e) (s : Slices) where
  pub read_each : (n : ℕ) → ((i : ℕ) → i < n → wrong (trail_of s i) (entry_at s i) ≡ false) → EachEntry P (trail_of s n)
  unfolding trail_of
  read_each zero h = tt
  read_each (suc n) h = ((exactly _ _).0 (h n (omega arith)), read_each n (λ i k. h i (omega arith)))

  pub each_read : (n : ℕ) → EachEntry P (trail_of s n) → (i : ℕ) → i < n → wrong (trail_of s i) (entry_at s i) ≡ false
  unfolding trail_of
  each_read zero l i h = absurd (omega arith)
  each_read (suc n) l i h = by (ℕ_discrete i n) (each_read n l.1 i)
    where
      by : Dec (i ≡ n) → (i < n → wrong (trail_of s i) (entry_at s i) ≡ false) → wrong (trail_of s i) (entry_at s i) ≡ false
      by (yes e) go = ap (λ k. wrong (trail_of s k) (entry_at s k)) e ∙ (exactly _ _).1 l.0
      by (no e) go = go (omega arith)

module _ (v : ℕ) (s : Slices) where
  entry_exactly : (t : Trail) (e : Entry) → wrong_entry v t e ≡ false ↔ LegalEntry v t e
  entry_exactly t e = (entry_legal v t e, legal_entry v t e)

  pub read_legal : (n : ℕ) → ((i : ℕ) → i < n → wrong_entry_at v s i ≡ false) → Legal v (trail_of s n)
  read_legal = read_each (wrong_entry v) entry_exactly s

  pub legal_read : (n : ℕ) → Legal v (trail_of s n) → (i : ℕ) → i < n → wrong_entry_at v s i ≡ false
  legal_read = each_read (wrong_entry v) entry_exactly s

-- so is a trail with the same literals and with marks 0 or 1, whatever its numbers
pub same_legal : (v : ℕ) (s r : Slices) → s.trail ≡ r.trail → (n : ℕ) → ((i : ℕ) → i < n → (entry_at r i).mark ≤ 1) → Legal v (trail_of s n)
    → Legal v (trail_of r n)
unfolding trail_of
same_legal v s r e zero h l = tt
same_legal v s r e (suc n) h l = (
  record {
    proper = subst (λ (ts : List ℤ). Proper v (get_or ts n (pos 0))) e l.0.proper;
    free = (λ j. same_values r s (sym e) n j (nat_abs (get_or (sym e j) n (pos 0)))) ∙ l.0.free;
    mark_small = h n (omega arith);
  },
  same_legal v s r e n (λ i k. h i (omega arith)) l.1,
)
