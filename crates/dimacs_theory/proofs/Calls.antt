-- The two calls where no row refuses them. Assumes nothing.
use Prim.Native.Nat.{ℕ, suc, ◌≤◌, ◌<◌, ◌^◌}
use native.Mathlib.Omega.{arith}
use borrow.Author.Tests.{le-ltb, ltb-false}
use lib.IntN.{ℤ}
use lib.ListN.{length, take}
use lib.Seq.{take-append_seam}
use mathlib.Core.Path.{◌≡◌, refl, ◌∙◌, ap}
use mathlib.Core.Logic.{◌↔◌}
use mathlib.Core.Bool.{Bool, true, false}
use Rattle.std.specs.Prelude.{Option, None, Some}
use Rattle.std.proofs.lemmas.Option.{same_Some, none-some}
use Rattle.answers.proofs.Options.{some-none}
use mathlib.Core.List.{List, [], ◌∷◌}
use Rattle.answers.specs.declared.Outcome.{Outcome}
use Rattle.answers.specs.Outcome.{refusal, answer, cause, unless}
use Rattle.answers.specs.Lists.{tally}
use Rattle.answers.specs.Lent.{too_short, filled, unless_refused}
use Rattle.answers.proofs.Rows.{no-cause}
use Rattle.answers.proofs.Settled.{enough}
use Rattle.cnf.specs.Literals.{closes, most_variables, too_many_variables, wrong_list}
use Rattle.cnf.specs.Clauses.{clause_count}
use Rattle.dimacs.specs.Text.{text_of, HasText}
use Rattle.dimacs.specs.Reader.{refused_at, list_read}
use Rattle.dimacs.specs.Calls.{writer_answer, reader_answer}
use Rattle.dimacs_theory.specs.Reading.{ReadAs, Writes, Reads, written, elements_read}

-- a row that did not refuse the call
past : (n : ℕ) (o : Option ℕ) (t : Outcome) → (n ≡ 0 → ⊥) → (unless n o t).number ≡ 0 → (o ≡ None) × (t.number ≡ 0)
past n None t z e = (refl, e)
past n (Some v) t z e = absurd (z e)

-- the first of two rows: its number tells whether it refuses the call
module _ (m n : ℕ) (o : Option ℕ) (t : Outcome) (apart : n ≡ m → ⊥) (refuses : t.number ≡ m → ⊥) where
  other_row : (unless n o t).number ≡ m → ⊥
  other_row e = by o e
    where
      by : (o : Option ℕ) → (unless n o t).number ≡ m → ⊥
      by None e = refuses e
      by (Some v) e = apart e

  pub row_refuses : (p : Option ℕ) (k : ℕ) → unless m p (unless n o t) ≡ refusal m k ↔ p ≡ Some k
  row_refuses None k = (λ e. absurd (other_row (ap (λ (u : Outcome). u.number) e)), λ e. absurd (none-some k e))
  row_refuses (Some v) k = (λ e. ap (λ (u : Outcome). Some u.first) e, λ e. ap (refusal m) (same_Some v k e))

  pub row-passes : (p : Option ℕ) → ((unless m p (unless n o t)).number ≡ m → ⊥) ↔ p ≡ None
  row-passes None = (λ _. refl, λ _. other_row)
  row-passes (Some v) = (λ e. absurd (e refl), λ e. absurd (some-none v e))

module _ (v : ℕ) (ls : List ℤ) (buf : List ℕ) where
  pub writer_right : (writer_answer v ls buf).number ≡ 0 → wrong_list v ls ≡ None
  writer_right e = (past 16 (wrong_list v ls) _ (omega arith) (past 17 (cause (too_many_variables v)) _ (omega arith) e).1).0

  pub writer_passed : clause_count ls < 2 ^ 64 → (writer_answer v ls buf).number ≡ 0 → HasText v ls × (length (text_of v ls) ≤ length buf)
  writer_passed c e =
      let a = past 17 (cause (too_many_variables v)) _ (omega arith) e in
      let b = past 16 (wrong_list v ls) _ (omega arith) a.1 in
      let d = past 6 (too_short (length buf) (length (text_of v ls))) _ (omega arith) b.1 in
      (record { few = ltb-false most_variables v (no-cause _ a.0); right = b.0; counted = c }, enough (length buf) d.0)

  module _ (w : HasText v ls) (h : length (text_of v ls) ≤ length buf) where
    pub writer_answers : Writes v ls buf (text_of v ls)
    writer_answers = record { outcome = outcome; left = ap (λ t. unless_refused t buf (filled buf (text_of v ls))) outcome }
      where
        outcome : writer_answer v ls buf ≡ answer (length (text_of v ls)) 0 0
        outcome = rw (le-ltb most_variables v w.few, w.right, le-ltb (length buf) (length (text_of v ls)) h)

    pub writer_hands : written v ls buf ≡ text_of v ls
    writer_hands = let a = writer_answers in (λ i. take (a.outcome i).first (a.left i)) ∙ take-append_seam (text_of v ls) _

module _ (text : List ℕ) (buf : List ℤ) where
  pub reader_refused : (k : ℕ) → reader_answer text buf ≡ refusal 19 k ↔ refused_at text ≡ Some k
  reader_refused = row_refuses 19 6 (too_short (length buf) (length (list_read text))) _ (omega arith) (omega arith) (refused_at text)

  pub reader_taken : ((reader_answer text buf).number ≡ 19 → ⊥) ↔ refused_at text ≡ None
  reader_taken = row-passes 19 6 (too_short (length buf) (length (list_read text))) _ (omega arith) (omega arith) (refused_at text)

  pub reader_passed : (reader_answer text buf).number ≡ 0 → (refused_at text ≡ None) × (length (list_read text) ≤ length buf)
  reader_passed e =
      let a = past 19 (refused_at text) _ (omega arith) e in
      let b = past 6 (too_short (length buf) (length (list_read text))) _ (omega arith) a.1 in
      (a.0, enough (length buf) b.0)

  module _ {v : ℕ} {ls : List ℤ} (r : ReadAs text v ls) (h : length ls ≤ length buf) where
    pub reader_answers : Reads text buf v ls
    reader_answers = record { outcome = outcome; left = λ i. unless_refused (outcome i) buf (filled buf (r.list i)) }
      where
        outcome : reader_answer text buf ≡ answer (length ls) v (clause_count ls)
        outcome = rw (r.taken, r.list, r.variables, r.clauses, le-ltb (length buf) (length ls) h)

    pub reader_hands : elements_read text buf ≡ ls
    reader_hands = let a = reader_answers in (λ i. take (a.outcome i).first (a.left i)) ∙ take-append_seam ls _

-- a list has no more clauses than elements
pub count_few : (ls : List ℤ) → clause_count ls ≤ length ls
count_few [] = omega arith
count_few (l ∷ ls) = by (closes l) (count_few ls)
  where
    by : (t : Bool) → clause_count ls ≤ length ls → tally t (clause_count ls) ≤ suc (length ls)
    by true h = omega arith
    by false h = omega arith
