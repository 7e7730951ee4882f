-- The writer goes through its rows in order, then writes. Assumes nothing.
use Prim.Native.Nat.{ℕ, ◌+◌, ◌-◌, ◌≤◌, ◌<◌, ◌^◌}
use native.Mathlib.Omega.{arith}
use borrow.Author.Tests.{ltb-true, ltb-false}
use lib.Dec.{ltb}
use lib.IntN.{ℤ}
use lib.ListN.{length, drop, length-append}
use mathlib.Core.Path.{◌≡◌, refl, sym, ◌∙◌, ap}
use mathlib.Core.Bool.{Bool, true, false, cond}
use Rattle.std.specs.Prelude.{Some, Option, None}
use mathlib.Core.List.{List, ◌++◌}
use Rattle.answers.specs.declared.Outcome.{Outcome}
use Rattle.answers.specs.Outcome.{answer, refusal, cause}
use Rattle.answers.specs.Lent.{Wrote, filled, unless_refused}
use Rattle.answers.proofs.Lent.{wrote_recast, wrote_filled}
use Rattle.answers.proofs.Rows.{Left, left_all, left_next, left_turn, left_done}
use Rattle.cnf.specs.Literals.{too_many_variables, wrong_list}
use Rattle.cnf.specs.Clauses.{clause_count}
use Rattle.text.specs.Decimal.{decimal}
use Rattle.dimacs.specs.Text.{lines, header_line, text_of}
use Rattle.dimacs_writer.specs.Writer.{counted}
use Rattle.dimacs.specs.Calls.{writer_rows, writer_answer, writer_leaves}
use Rattle.answers.proofs.Settled.{short_over, short_by, long_enough, settles}
use Rattle.dimacs_writer.proofs.Lines.{header_length}

-- what a count that fits, and one that does not, say
counted_bytes : (m : ℕ) {n : ℕ} → counted m ≡ Some n → (m ≡ n) × (m < 2 ^ 64)
counted_bytes m {n} e = by (ltb m (2 ^ 64)) refl e
  where
    by : (t : Bool) → ltb m (2 ^ 64) ≡ t → cond t (Some m) None ≡ Some n → (m ≡ n) × (m < 2 ^ 64)
    by true h e = (cc, ltb-true m (2 ^ 64) h)
    by false h e = let z : ◌≡◌ {A = ℕ} 0 1 = cc in absurd (omega arith)

counted_over : (m : ℕ) → counted m ≡ None → 2 ^ 64 ≤ m
counted_over m e = by (ltb m (2 ^ 64)) refl e
  where
    by : (t : Bool) → ltb m (2 ^ 64) ≡ t → cond t (Some m) None ≡ None → 2 ^ 64 ≤ m
    by true h e = let z : ◌≡◌ {A = ℕ} 0 1 = cc in absurd (omega arith)
    by false h e = ltb-false m (2 ^ 64) h

text_append : (v : ℕ) (ls : List ℤ) → length (text_of v ls) ≡ length (header_line v (clause_count ls)) + length (lines ls)
text_append v ls = length-append (header_line v (clause_count ls)) (lines ls)

-- the bytes of the text, by its parts
pub text_counted : {a b k : ℕ} {r : Option ℕ} (v : ℕ) (ls : List ℤ) → k ≡ clause_count ls → a ≡ length (decimal v) → b ≡ length (decimal k)
    → r ≡ counted (8 + a + b + length (lines ls)) → r ≡ counted (length (text_of v ls))
text_counted {a} {b} v ls e p q r =
    let h = header_length v (clause_count ls) in
    let d = ap (λ (n : ℕ). length (decimal n)) e in
    let t = text_append v ls in
    let m : 8 + a + b + length (lines ls) ≡ length (text_of v ls) = omega arith in
    r ∙ ap counted m

-- what it tells, and what it leaves in the buffer
abbrev Writes : ℕ → List ℤ → List ℕ → Outcome → List ℕ → Type 0
Writes v ls buf u new = (u ≡ writer_answer v ls buf) × (new ≡ writer_leaves v ls buf)

-- the text fits its buffer, and the count of its bytes a word
pub record TextFits (v : ℕ) (ls : List ℤ) (buf : List ℕ) : Type 0 where
  pub room : length (text_of v ls) ≤ length buf
  pub small : length (text_of v ls) < 2 ^ 64

-- so many rows are passed
abbrev pub Past : ℕ → List ℤ → List ℕ → ℕ → Type 0
Past v ls buf k = Left (writer_rows v ls (length buf)) (answer (length (text_of v ls)) 0 0) (drop k (writer_rows v ls (length buf)))

module _ (v : ℕ) (ls : List ℤ) (buf : List ℕ) where
  writes : {u : Outcome} {new : List ℕ} → u ≡ writer_answer v ls buf → new ≡ unless_refused u buf (filled buf (text_of v ls)) → Writes v ls buf u new
  writes = settles buf (filled buf (text_of v ls))

  past_none : Past v ls buf 0
  past_none = left_all (writer_rows v ls (length buf)) (answer (length (text_of v ls)) 0 0)

  pub too_many : true ≡ too_many_variables v → Writes v ls buf (refusal 17 0) buf
  too_many h = writes (left_turn past_none (ap cause h)) refl

  pub past_variables : false ≡ too_many_variables v → Past v ls buf 1
  past_variables h = left_next past_none (ap cause h)

  pub list_wrong : {i : ℕ} → Past v ls buf 1 → Some i ≡ wrong_list v ls → Writes v ls buf (refusal 16 i) buf
  list_wrong p h = writes (left_turn p h) refl

  -- the text, counted
  module _ (p : Past v ls buf 2) {r : Option ℕ} (e : r ≡ counted (length (text_of v ls))) where
    pub room_over : length buf < 2 ^ 64 → r ≡ None → Writes v ls buf (refusal 6 (2 ^ 64 - 1)) buf
    room_over h o = writes (left_turn p (sym (short_over (length buf) h (counted_over (length (text_of v ls)) (sym e ∙ o))))) refl

    module _ {n : ℕ} (o : r ≡ Some n) where
      needs : (length (text_of v ls) ≡ n) × (length (text_of v ls) < 2 ^ 64)
      needs = counted_bytes (length (text_of v ls)) (sym e ∙ o)

      pub room_short : length buf < n → Writes v ls buf (refusal 6 n) buf
      room_short h = writes (left_turn p (ap Some (sym needs.0) ∙ sym (short_by (length buf) (omega (arith, needs.0)) needs.1))) refl

      pub room_right : n ≤ length buf → TextFits v ls buf
      room_right h = record { room = omega (arith, needs.0); small = needs.1 }

module _ {v : ℕ} {ls : List ℤ} {buf : List ℕ} (f : TextFits v ls buf) {k : ℕ} (e : k ≡ clause_count ls) where
  header : header_line v k ≡ header_line v (clause_count ls)
  header = ap (header_line v) e

  pub header_fits : length (header_line v k) + length (lines ls) < 2 ^ 64
  header_fits = let s = f.small in omega (arith, text_append v ls, ap length header)

  pub all_written : {new : List ℕ} {r : ℕ} → Past v ls buf 2 → Wrote buf 0 (header_line v k ++ lines ls) new r → Writes v ls buf (answer r 0 0) new
  all_written {r = r} p w =
      let t = wrote_recast (ap (λ h. h ++ lines ls) header) w in
      let n : r ≡ length (text_of v ls) = omega (arith, t.place) in
      rw n (writes v ls buf (left_done (left_next p (sym (long_enough (length buf) f.room)))) (wrote_filled t f.room))
