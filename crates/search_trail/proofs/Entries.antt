-- The trail in the buffers with an entry more, or less. Assumes nothing.
use Prim.Native.Nat.{ℕ, suc, ◌+◌, ◌-◌, ◌%◌, ◌≤◌, ◌<◌}
use native.Mathlib.Omega.{arith}
use native.Mathlib.Numerals.{add-one}
use lib.Dec.{eqb}
use lib.IntN.{ℤ, pos, nat_abs}
use lib.ListN.{length, get_or, set, length-set, length-map}
use lib.Seq.{get_or-set_same, get_or-set_other}
use borrow.Author.Tests.{eqb-true}
use mathlib.Core.Path.{◌≡◌, refl, sym, ◌∙◌, ap, subst}
use mathlib.Core.Bool.{Bool, true, false, cond}
use mathlib.Core.List.{List, [], ◌∷◌}
use Rattle.cnf.specs.Literals.{code_of, most_variables}
use Rattle.cnf.proofs.Lists.{code_variable}
use Rattle.search.specs.Trail.{Entry, entry, Trail, Slices, slices, entry_at, trail_of, Value, Unassigned, made, variable_value, Values}
use Rattle.search.proofs.Trails.{length_trail, same_trail}
use Rattle.search_theory.specs.Legal.{LegalEntry, Legal}
use Rattle.search_theory.proofs.Legal.{each_before, each_at}
use Rattle.search_theory.proofs.Full.{legal_length}
use Rattle.search_scan.specs.PackedValues.{bare_marks, number_of, packed}
use Rattle.search_trail.specs.Packed.{packed_trail, packed_marks, Packed, HasByte, with_value, with_mark, made_true, assigned}
use Rattle.search_trail.proofs.Bytes.{bare_value, low_most, bare_marked, proper_byte, number-value, number_marked, number-made}
use Rattle.search_trail.proofs.Bytes.{length-packed, packed_bare, pack, unpack}

-- what is legal of a trail is so of its beginning
module _ (v : ℕ) (s : Slices) where
  pub legal_before : (n : ℕ) → Legal v (trail_of s n) → (i : ℕ) → i ≤ n → Legal v (trail_of s i)
  legal_before = each_before (LegalEntry v) s

  pub legal_at : (n : ℕ) → Legal v (trail_of s n) → (i : ℕ) → i < n → LegalEntry v (trail_of s i) (entry_at s i)
  legal_at = each_at (LegalEntry v) s

  pub legal_used : (n : ℕ) → Legal v (trail_of s n) → n ≤ v
  legal_used n l = let h = legal_length v (trail_of s n) l in let e = length_trail s n in omega arith

-- bytes have the values w above their marks
abbrev pub Carries : Values → List ℕ → Type 0
Carries w ms = ms ≡ packed w (bare_marks ms)

-- values with an entry more, or less
module _ {ms : List ℕ} (e : Entry) (t : Trail) (b : HasByte ms (code_of e.literal)) where
  abbrev code : ℕ
  code = code_of e.literal

  pub values_more : Carries (variable_value t) ms → Carries (variable_value (e ∷ t)) (with_value ms (code_of e.literal) (1 + code_of e.literal % 2))
  unfolding variable_value
  values_more h =
      pack (variable_value (e ∷ t)) (with_value ms code (1 + code % 2))
      (λ j l.
      number-value (1 + code % 2) b j
      ∙ rw (code_variable e.literal, number-made e.literal, unpack (variable_value t) ms h j (simp length-set at l))
      (by (eqb (nat_abs e.literal) (suc j)) (variable_value t (suc j))))
    where
      by : (b : Bool) (x : Value) → cond b (number_of (made e.literal)) (number_of x) ≡ number_of (cond b (made e.literal) x)
      by true x = refl
      by false x = refl

  pub values_less : Carries (variable_value (e ∷ t)) ms → variable_value t (nat_abs e.literal) ≡ Unassigned
      → Carries (variable_value t) (with_value ms (code_of e.literal) 0)
  unfolding variable_value
  values_less h f =
      pack (variable_value t) (with_value ms code 0)
      (λ j l.
      number-value 0 b j
      ∙ rw (code_variable e.literal, unpack (variable_value (e ∷ t)) ms h j (simp length-set at l)) (by j (eqb (nat_abs e.literal) (suc j)) refl))
    where
      by : (j : ℕ) (b : Bool) → eqb (nat_abs e.literal) (suc j) ≡ b
          → cond b 0 (number_of (cond b (made e.literal) (variable_value t (suc j)))) ≡ number_of (variable_value t (suc j))
      by j true q = sym (ap (λ n. number_of (variable_value t n)) (sym (eqb-true _ _ q)) ∙ ap number_of f)
      by j false q = refl

values_marked : (w : Values) (ms : List ℕ) {i m : ℕ} → i < length ms → m ≤ 1 → Carries w ms → Carries w (with_mark ms i m)
values_marked w ms {i} {m} h k c = pack w (with_mark ms i m) (λ j l. number_marked ms i m h k j ∙ unpack w ms c j (simp length-set at l))

-- marks that are packed again
module _ (ts : List ℤ) (ms : List ℕ) (n : ℕ) {ns : List ℕ} (e : ns ≡ packed_marks ts ms n) where
  abbrev given : Values
  given = variable_value (packed_trail ts ms n)

  pub packed_long : length ns ≡ length ms
  packed_long = ap length e ∙ length-packed given (bare_marks ms) ∙ length-map ms (λ m. m % 2)

  pub packed_same : bare_marks ns ≡ bare_marks ms
  packed_same = ap bare_marks e ∙ packed_bare given (bare_marks ms) (λ k l. low_most ms k)

  pub repacked : {v : ℕ} → v ≤ most_variables → length ts ≡ v → length ms ≡ v → Legal v (packed_trail ts ms n) → Packed v ts ns n
  repacked few literals bytes legal =
      record { few = few; literals = literals; bytes = packed_long ∙ bytes; legal = rw packed_same legal; values = rw packed_same e }

module _ {v : ℕ} {ts : List ℤ} {ms : List ℕ} {i : ℕ} (r : Packed v ts ms i) where
  pub running_used : i ≤ v
  running_used = legal_used v (slices ts (bare_marks ms) []) i r.legal

  -- another literal in the first unused entry
  pub set_trail : (l : ℤ) → packed_trail ts ms i ≡ packed_trail (set ts i l) ms i
  set_trail l =
      same_trail (slices ts (bare_marks ms) []) (slices (set ts i l) (bare_marks ms) []) i
      (λ j h. ap (λ (x : ℤ). entry x (get_or (bare_marks ms) j 0) 0) (sym (get_or-set_other ts i j l (pos 0) (λ e. omega arith))))

  pub running_set : (l : ℤ) → Packed v (set ts i l) ms i
  running_set l =
      record {
        few = r.few;
        literals = length-set ts i l ∙ r.literals;
        bytes = r.bytes;
        legal = subst (Legal v) (set_trail l) r.legal;
        values = r.values ∙ ap (λ (t : Trail). packed (variable_value t) (bare_marks ms)) (set_trail l);
      }

  -- the first unused entry is used
  module _ (m : ℕ) (h : i < v) (k : m ≤ 1) where
    abbrev new : Entry
    new = entry (get_or ts i (pos 0)) m 0

    pub assigned_bare : bare_marks (assigned ts ms i m) ≡ set (bare_marks ms) i m
    assigned_bare =
        let code = code_of (get_or ts i (pos 0)) in
        bare_marked (made_true ts ms i) i m k ∙ ap (λ (ns : List ℕ). set ns i m) (bare_value ms code (1 + code % 2))

    pub entered_trail : packed_trail ts (assigned ts ms i m) (suc i) ≡ new ∷ packed_trail ts ms i
    unfolding trail_of
    entered_trail =
        ap (λ (ns : List ℕ). trail_of (slices ts ns []) (suc i)) assigned_bare
        ∙ (λ t. entry (get_or ts i (pos 0)) (mark t) 0 ∷ same_trail (slices ts (set (bare_marks ms) i m) []) (slices ts (bare_marks ms) []) i same t)
      where
        mark : get_or (set (bare_marks ms) i m) i 0 ≡ m
        mark = get_or-set_same (bare_marks ms) i m 0 (simp length-map (let e = r.bytes in omega arith))

        same : (j : ℕ) → j < i → entry_at (slices ts (set (bare_marks ms) i m) []) j ≡ entry_at (slices ts (bare_marks ms) []) j
        same j l = ap (λ (b : ℕ). entry (get_or ts j (pos 0)) b 0) (get_or-set_other (bare_marks ms) i j m 0 (λ e. omega arith))

    pub assign_packed : LegalEntry v (packed_trail ts ms i) new → Packed v ts (assigned ts ms i m) (i + 1)
    assign_packed w =
        rw add-one (record {
          few = r.few;
          literals = r.literals;
          bytes = simp length-set r.bytes;
          legal = subst (Legal v) (sym entered_trail) (w, r.legal);
          values =
              subst (λ (t : Trail). Carries (variable_value t) (assigned ts ms i m)) (sym entered_trail)
              (values_marked (variable_value (new ∷ packed_trail ts ms i)) (made_true ts ms i) (simp length-set (let e = r.bytes in omega arith)) k
              (values_more new (packed_trail ts ms i) (proper_byte (get_or ts i (pos 0)) w.proper r.bytes) r.values));
        })

-- the values change and the marks stay: ms₀ has become ms, which has the values of the first i of the entries used
pub record Valuing (ts : List ℤ) (ms₀ : List ℕ) (used : ℕ) (ms : List ℕ) (i : ℕ) : Type 0 where
  pub literals : length ts ≡ length ms₀
  pub legal : Legal (length ms₀) (packed_trail ts ms₀ used)
  pub within : i ≤ used
  pub is : ms ≡ packed_marks ts ms₀ i

module _ {ts : List ℤ} {ms₀ : List ℕ} {used : ℕ} {ms : List ℕ} {i : ℕ} (g : Valuing ts ms₀ used ms i) where
  abbrev s : Slices
  s = slices ts (bare_marks ms₀) []

  pub value_long : length ms ≡ length ms₀
  value_long = packed_long ts ms₀ i g.is

  abbrev same : bare_marks ms ≡ bare_marks ms₀
  same = packed_same ts ms₀ i g.is

  pub value-inside : {j : ℕ} → j < used → j < length ts
  value-inside h = let u = legal_used (length ms₀) s used g.legal in let n = g.literals in omega arith

  pub value_byte : {j : ℕ} → j < used → HasByte ms (code_of (get_or ts j (pos 0)))
  value_byte {j} h = proper_byte (get_or ts j (pos 0)) (legal_at (length ms₀) s used g.legal j h).proper value_long

  -- the value of the next entry, or the last one
  pub value_more : {ns : List ℕ} → i < used → ns ≡ made_true ts ms i → Valuing ts ms₀ used ns (i + 1)
  unfolding trail_of
  value_more {ns} h e =
      let code = code_of (get_or ts i (pos 0)) in
      record {
        literals = g.literals;
        legal = g.legal;
        within = omega arith;
        is =
            rw add-one
            (e
            ∙ values_more (entry_at s i) (trail_of s i) (value_byte h) (rw same g.is)
            ∙ ap (packed (variable_value (entry_at s i ∷ trail_of s i))) (bare_value ms code (1 + code % 2) ∙ same));
      }

  pub value_less : {ns : List ℕ} {k : ℕ} → 0 < i → k ≡ code_of (get_or ts (i - 1) (pos 0)) → ns ≡ with_value ms k 0 → Valuing ts ms₀ used ns (i - 1)
  unfolding trail_of
  value_less {ns} {k} h c e =
      let z : i ≡ suc (i - 1) = omega arith in
      let w = g.within in
      let b = value_byte {j = i - 1} (omega arith) in
      let free = (legal_at (length ms₀) s used g.legal (i - 1) (omega arith)).free in
      let code = code_of (get_or ts (i - 1) (pos 0)) in
      record {
        literals = g.literals;
        legal = g.legal;
        within = omega arith;
        is =
            e ∙ ap (λ (x : ℕ). with_value ms x 0) c
            ∙ values_less (entry_at s (i - 1)) (trail_of s (i - 1)) b (rw same (g.is ∙ ap (packed_marks ts ms₀) z)) free
            ∙ ap (packed (variable_value (trail_of s (i - 1)))) (bare_value ms code 0 ∙ same);
      }
