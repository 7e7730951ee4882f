-- The trail that the buffers hold: the values read from them, and what is left where it is written. Assumes nothing.
use Prim.Native.Nat.{ℕ, zero, suc, ◌+◌, ◌-◌, ◌/◌, ◌%◌, ◌≤◌, ◌<◌}
use native.Mathlib.Omega.{arith}
use native.Mathlib.Decide.{dec_lt}
use lib.IntN.{ℤ, pos, nat_abs}
use lib.ListN.{length, get_or, take, drop, replicate, length-map, length-replicate, get_or-append, get_or-eq_default, take-append-drop}
use lib.Seq.{length_front, length-take-le, get_or-append-add, get_or-drop}
use borrow.Author.Tests.{ne_eqb}
use mathlib.Core.Path.{◌≡◌, refl, sym, ◌∙◌, ap, subst}
use mathlib.Core.List.{List, [], ◌∷◌, ◌++◌, append-nil}
use Rattle.answers.specs.Lent.{filled}
use Rattle.cnf.specs.Literals.{most_variables}
use Rattle.cnf.proofs.Lists.{code_variable}
use Rattle.search.specs.Trail.{Entry, entry, Trail, Slices, slices, HasLength, image_by, image, trail_of}
use Rattle.search.specs.Trail.{Value, True, False, Unassigned, variable_value, Values}
use Rattle.search.proofs.Trails.{length_trail, same_trail, same_values, length-laid, read_image, cut, image_read}
use Rattle.search_theory.specs.Legal.{Legal}
use Rattle.search_theory.proofs.Legal.{same_legal}
use Rattle.search_theory.proofs.Full.{legal_length}
use Rattle.search_scan.specs.PackedValues.{value_of, packed_values, bare_marks, number_of, packed}
use Rattle.search_trail.specs.Packed.{bare_slices, running_trail, packed_trail, Packed, Running, with_trail}
use Rattle.search_trail.proofs.Bytes.{low_most, proper_byte, length-packed, packed_bare, unpack}
use Rattle.search_trail.proofs.Entries.{legal_at, running_used}

-- 1. The values above the marks are those that the trail gives

value-number : (x : Value) → value_of (number_of x) ≡ x
value-number True = refl
value-number False = refl
value-number Unassigned = refl

-- a number that is no variable's
outside : {v : ℕ} (ms : List ℕ) → length ms ≡ v → (t : Trail) → Legal v t → (n : ℕ) → (1 ≤ n → n ≤ v → ⊥) → variable_value t n ≡ Unassigned
unfolding variable_value
outside ms e [] l n h = refl
outside ms e (x ∷ t) l n h =
    let b = proper_byte {ms = ms} x.literal l.0.proper e in
    let p = b.positive in
    let i = b.inside in
    let c = code_variable x.literal in
    rw (ne_eqb (nat_abs x.literal) n (λ q. h (omega arith) (omega arith))) (outside ms e t l.1 n h)

pub packed-values : {v : ℕ} {ts : List ℤ} {ms : List ℕ} {used : ℕ} → Packed v ts ms used → (n : ℕ)
    → packed_values ms n ≡ variable_value (packed_trail ts ms used) n
packed-values {ts = ts} {ms} {used} r zero = sym (outside ms r.bytes (packed_trail ts ms used) r.legal 0 (λ p q. omega arith))
packed-values {ts = ts} {ms} {used} r (suc k) = by (dec_lt k (length ms))
  where
    by : Dec (k < length ms) → value_of (get_or ms k 0 / 2) ≡ variable_value (packed_trail ts ms used) (suc k)
    by (yes h) = ap value_of (unpack (variable_value (packed_trail ts ms used)) ms r.values k h) ∙ value-number _
    by (no h) =
        rw (get_or-eq_default ms 0 {n = k} (omega arith))
        (sym (outside ms r.bytes (packed_trail ts ms used) r.legal (suc k) (λ p q. let e = r.bytes in omega arith)))

-- 2. A buffer that is written from the first place on

module _ {A : Type 0} (buf xs : List A) (d : A) where
  filled_at : (k : ℕ) → k < length xs → get_or (filled buf xs) k d ≡ get_or xs k d
  filled_at k h = get_or-append xs (drop (length xs) buf) d k h

  filled_past : (k : ℕ) → length xs ≤ k → get_or (filled buf xs) k d ≡ get_or buf k d
  filled_past k h =
      let e : k ≡ length xs + (k - length xs) = omega arith in
      ap (λ (n : ℕ). get_or (filled buf xs) n d) e ∙ get_or-append-add xs (drop (length xs) buf) (k - length xs) d ∙ get_or-drop (length xs) buf (k - length xs) d
      ∙ ap (λ (n : ℕ). get_or buf n d) (sym e)

length-filled : {A : Type 0} (buf xs : List A) → length xs ≤ length buf → length (filled buf xs) ≡ length buf
length-filled buf xs h = length_front buf xs (length xs) (sym (length-take-le (length xs) buf h))

-- the first n elements of xs, over what is the same after them
refilled : {A : Type 0} (d : A) (buf xs : List A) (n : ℕ) → n ≤ length xs → drop n buf ≡ drop n xs → filled buf (take n xs ++ replicate (n - n) d) ≡ xs
refilled d buf xs n h e =
    let z : n - n ≡ 0 = omega arith in
    rw (z, append-nil (take n xs), length-take-le n xs h, e) (take-append-drop n xs)

-- 3. A trail in the buffers

-- the numbers give no values
pub running_values : (s : Slices) (n : ℕ) → variable_value (running_trail s n) ≡ variable_value (packed_trail s.trail s.marks n)
running_values s n =
    same_values (bare_slices s) (slices s.trail (bare_marks s.marks) []) refl n

-- and are not asked for where a trail is legal
module _ (v : ℕ) (s : Slices) (n : ℕ) where
  abbrev numbered : Slices
  numbered = bare_slices s

  abbrev plain : Slices
  plain = slices s.trail (bare_marks s.marks) []

  pub packed_legal : Legal v (running_trail s n) → Legal v (packed_trail s.trail s.marks n)
  packed_legal = same_legal v numbered plain refl n (λ i h. low_most s.marks i)

  pub running_legal : Legal v (packed_trail s.trail s.marks n) → Legal v (running_trail s n)
  running_legal = same_legal v plain numbered refl n (λ i h. low_most s.marks i)

-- the buffers hold a trail
pub record HasTrail (v : ℕ) (t : Trail) (s : Slices) : Type 0 where
  pub running : Running v s (length t)
  pub trail : running_trail s (length t) ≡ t

pub length_running : (s : Slices) (n : ℕ) → length (running_trail s n) ≡ n
length_running s n = length_trail (bare_slices s) n

pub running_has_trail : {v : ℕ} {s : Slices} {used : ℕ} → Running v s used → HasTrail v (running_trail s used) s
running_has_trail {v} {s} {used} r =
    let e = length_running s used in
    record { running = subst (Running v s) (sym e) r; trail = ap (running_trail s) e }

length_entries : {A : Type 0} (f : Entry → A) (d : A) (t : Trail) → length (image_by f d (length t) t) ≡ length t
length_entries f d t =
    let n = length-replicate (length t - length t) d in
    omega (arith, length-laid f t (replicate (length t - length t) d))

-- a legal trail that is written is held
module _ {v : ℕ} (few : v ≤ most_variables) {s : Slices} (long : HasLength v s) (u : Trail) (legal : Legal v u) where
  abbrev new : Slices
  new = image (length u) u

  abbrev bare : List ℕ
  bare = bare_marks s.marks

  new_literals : length new.trail ≡ length u
  new_literals = length_entries (λ e. e.literal) (pos 0) u

  new_marks : length new.marks ≡ length u
  new_marks = length_entries (λ e. e.mark) 0 u

  new_numbers : length new.numbers ≡ length u
  new_numbers = length_entries (λ e. e.number) 0 u

  low : (k : ℕ) → k < length (filled bare new.marks) → get_or (filled bare new.marks) k 0 ≤ 1
  low k l = by (dec_lt k (length new.marks))
    where
      by : Dec (k < length new.marks) → get_or (filled bare new.marks) k 0 ≤ 1
      by (yes h) =
          let m = (legal_at v new (length u) (subst (Legal v) (sym (read_image (length u) u)) legal) k (let n = new_marks in omega arith)).mark_small in
          omega (arith, filled_at bare new.marks 0 k h)
      by (no h) = omega (arith, filled_past bare new.marks 0 k (omega arith), low_most s.marks k)

  marks : bare_marks (with_trail u s).marks ≡ filled bare new.marks
  marks = packed_bare (variable_value u) (filled bare new.marks) low

  with_trail_read : running_trail (with_trail u s) (length u) ≡ u
  with_trail_read =
      ap (λ (ms : List ℕ). trail_of (slices (with_trail u s).trail ms (with_trail u s).numbers) (length u)) marks
      ∙ same_trail (slices (filled s.trail new.trail) (filled bare new.marks) (filled s.numbers new.numbers)) new (length u)
      (λ i h.
      (λ j. entry (filled_at s.trail new.trail (pos 0) i (let n = new_literals in omega arith) j)
      (filled_at bare new.marks 0 i (let n = new_marks in omega arith) j)
      (filled_at s.numbers new.numbers 0 i (let n = new_numbers in omega arith) j)))
      ∙ read_image (length u) u

  with_trail_values : variable_value (packed_trail (with_trail u s).trail (with_trail u s).marks (length u)) ≡ variable_value u
  with_trail_values = sym (running_values (with_trail u s) (length u)) ∙ ap variable_value with_trail_read

  pub holds : HasTrail v u (with_trail u s)
  holds =
      record {
        running = record {
          packed = record {
            few = few;
            literals = length-filled s.trail new.trail (let n = new_literals in let l = long.trail in let r = room in omega arith) ∙ long.trail;
            bytes = length-packed (variable_value u) (filled bare new.marks) ∙ length-filled bare new.marks marks_room ∙ bare_long ∙ long.marks;
            legal = packed_legal v (with_trail u s) (length u) (subst (Legal v) (sym with_trail_read) legal);
            values = rw (with_trail_values, marks) refl;
          };
          numbers = length-filled s.numbers new.numbers (let n = new_numbers in let l = long.numbers in let r = room in omega arith) ∙ long.numbers;
        };
        trail = with_trail_read;
      }
    where
      room : length u ≤ v
      room = legal_length v u legal

      bare_long : length bare ≡ length s.marks
      bare_long = length-map s.marks (λ m. m % 2)

      marks_room : length new.marks ≤ length bare
      marks_room = let n = new_marks in let l = long.marks in let r = room in let b = bare_long in omega arith

-- of the marks the bare ones alone matter
pub same_with_trail : (t : Trail) (ts : List ℤ) (ms ns ks : List ℕ) → bare_marks ms ≡ bare_marks ns
    → with_trail t (slices ts ms ks) ≡ with_trail t (slices ts ns ks)
same_with_trail t ts ms ns ks e =
    let i : Slices = image (length t) t in
    ap (λ (bare : List ℕ). slices (filled ts i.trail) (packed (variable_value t) (filled bare i.marks)) (filled ks i.numbers)) e

-- buffers that hold n entries, and are the same as others after them, are what writing these leaves
pub with_trail_is : {v : ℕ} {after : Slices} {n : ℕ} → Running v after n → (s : Slices)
    → drop n s.trail ≡ drop n after.trail → drop n (bare_marks s.marks) ≡ drop n (bare_marks after.marks)
    → drop n s.numbers ≡ drop n after.numbers → after ≡ with_trail (running_trail after n) s
with_trail_is {v} {after} {n} running s d e f =
    (λ j. slices (sym literals j) ((values ∙ ap (packed (variable_value t)) (sym marks)) j) (sym numbers j))
  where
    r : Packed v after.trail after.marks n
    r = running.packed

    us : List ℤ
    us = after.trail

    ns : List ℕ
    ns = after.marks

    t : Trail
    t = running_trail after n

    long : {k : ℕ} → k ≡ v → n ≤ k
    long q = let h = running_used r in omega arith

    bare : Slices
    bare = slices us (bare_marks ns) after.numbers

    values : ns ≡ packed (variable_value t) (bare_marks ns)
    values = r.values ∙ ap (λ (w : Values). packed w (bare_marks ns)) (sym (running_values after n))

    read : image (length t) t ≡ cut n bare n
    read =
        ap (λ (k : ℕ). image k t) (length_trail bare n)
        ∙ image_read n bare n (long r.literals) (simp length-map (long r.bytes)) (long running.numbers)

    literals : filled s.trail (image (length t) t).trail ≡ us
    literals = ap (λ (i : Slices). filled s.trail i.trail) read ∙ refilled (pos 0) s.trail us n (long r.literals) d

    marks : filled (bare_marks s.marks) (image (length t) t).marks ≡ bare_marks ns
    marks =
        ap (λ (i : Slices). filled (bare_marks s.marks) i.marks) read
        ∙ refilled 0 (bare_marks s.marks) (bare_marks ns) n (simp length-map (long r.bytes)) e

    numbers : filled s.numbers (image (length t) t).numbers ≡ after.numbers
    numbers = ap (λ (i : Slices). filled s.numbers i.numbers) read ∙ refilled 0 s.numbers after.numbers n (long running.numbers) f
