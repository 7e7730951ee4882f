-- The reader goes through its rows in order, then writes. Assumes nothing.
use Prim.Native.Nat.{ℕ, ◌+◌, ◌≤◌, ◌<◌, ◌^◌}
use native.Mathlib.Omega.{arith}
use lib.IntN.{ℤ}
use lib.ListN.{length, drop}
use lib.Seq.{sets}
use mathlib.Core.Path.{◌≡◌, refl, sym, ◌∙◌, ap}
use mathlib.Core.Bool.{true, false}
use Rattle.std.specs.Prelude.{Option, None, Some}
use mathlib.Core.List.{List}
use Rattle.std.specs.Prelude.{Ok, Err}
use Rattle.answers.specs.declared.Outcome.{Outcome}
use Rattle.answers.specs.Outcome.{answer, refusal}
use Rattle.answers.specs.Lent.{filled, unless_refused, Wrote}
use Rattle.answers.proofs.Lent.{wrote_filled}
use Rattle.answers.proofs.Rows.{Left, left_all, left_next, left_turn, left_done}
use Rattle.answers.proofs.Settled.{short_by, long_enough, settles}
use Rattle.cnf.specs.Literals.{most_variables}
use Rattle.dimacs.specs.Reader.{header_with, line, clause, refused_at, list_read, header_read}
use Rattle.dimacs.specs.Tokens.{stands, refused, line_begins, header_at}
use Rattle.dimacs.specs.Calls.{reader_rows, reader_answer, reader_leaves}
use Rattle.dimacs_cursor.specs.declared.BadByte.{BadByte}
use Rattle.dimacs_reader.specs.Lists.{list_at, body_refused_at, listed_or, listed}
use Rattle.dimacs_reader.proofs.Agrees.{agrees_there, agrees_nowhere, HeadRead, header_agrees}
use Rattle.dimacs_reader.proofs.Runs.{header_after}
use Rattle.dimacs_reader.proofs.ListLoop.{body_tells}

abbrev Reads : List ℕ → List ℤ → Outcome → List ℤ → Type 0
Reads text buf u new = record { result_value : u ≡ reader_answer text buf; list_after : new ≡ reader_leaves text buf }

abbrev outcome : List ℕ → Outcome
outcome text = answer (length (list_read text)) (header_read text).variables (header_read text).clauses

module _ (text : List ℕ) (buf : List ℤ) where
  reads : {u : Outcome} {new : List ℤ} → u ≡ reader_answer text buf → new ≡ unless_refused u buf (filled buf (list_read text)) → Reads text buf u new
  reads e f = let s = settles buf (filled buf (list_read text)) e f in record { result_value = s.0; list_after = s.1 }

  -- no row is passed yet
  past_none : Left (reader_rows text (length buf)) (outcome text) (reader_rows text (length buf))
  past_none = left_all (reader_rows text (length buf)) (outcome text)

  text_refused : {p : ℕ} → refused_at text ≡ Some p → Reads text buf (refusal 19 p) buf
  text_refused e = reads (left_turn past_none (sym e)) refl

pub head_refused : (text : List ℕ) {p : ℕ} (buf : List ℤ) → refused p ≡ header_at text 0 → Reads text buf (refusal 19 p) buf
head_refused text buf e = text_refused text buf (agrees_nowhere (header_agrees text 0) (sym e)).place

-- what reading the list answers
listed_ok : (o : Option ℕ) (n : ℕ) {m : ℕ} → Ok m ≡ listed_or o n → (o ≡ None) × (m ≡ n)
listed_ok None n e = (refl, cc)
listed_ok (Some p) n e = cc

listed_err : (o : Option ℕ) (n : ℕ) {bad : BadByte} → Err bad ≡ listed_or o n → o ≡ Some bad.at
listed_err None n e = cc
listed_err (Some p) n e = cc

-- once the header is read
module _ (text : List ℕ) (buf : List ℤ) {v c a : ℕ} (e : header_at text 0 ≡ stands (header_with v c) a) where
  head : HeadRead text line 0 (header_with v c) a
  head = agrees_there (header_agrees text 0) e

  pub head_fits : (v ≤ most_variables) × (line_begins text a ≡ true)
  head_fits = (head.small, head.at_line)

  pub body_refused : {bad : BadByte} → Err bad ≡ listed text (header_with v c) a → Reads text buf (refusal 19 bad.at) buf
  body_refused q = text_refused text buf (head.run.refused ∙ listed_err (body_refused_at text (header_with v c) a) _ q)

  -- .. and the list
  module _ {n : ℕ} (q : Ok n ≡ listed text (header_with v c) a) where
    taken : body_refused_at text (header_with v c) a ≡ None
    taken = (listed_ok (body_refused_at text (header_with v c) a) _ q).0

    past_text : Left (reader_rows text (length buf)) (outcome text) (drop 1 (reader_rows text (length buf)))
    past_text = left_next (past_none text buf) (sym (head.run.refused ∙ taken))

    many : n ≡ length (list_read text)
    many = (listed_ok (body_refused_at text (header_with v c) a) _ q).1 ∙ ap length (sym head.run.list)

    told : header_after text (clause (header_with v c) 0 false true) a ≡ header_with v c
    told = rw head.at_line at (body_tells text (header_with v c) a 0 false (rw head.at_line taken))

    header_is : header_with v c ≡ header_read text
    header_is = sym (head.run.header ∙ told)

    pub body_short : n < 2 ^ 64 → length buf < n → Reads text buf (refusal 6 n) buf
    body_short s o = reads text buf (left_turn past_text (ap Some many ∙ sym (short_by (length buf) (omega (arith, many)) (omega (arith, many))))) refl

    pub body_read : n ≤ length buf → {new : List ℤ} → new ≡ sets buf 0 (list_at text (header_with v c) a) → Reads text buf (answer n v c) new
    body_read o {new} w =
        let all : Wrote buf 0 (list_read text) new (0 + length (list_read text)) =
        record { place = refl; holds = w ∙ ap (sets buf 0) (sym head.run.list) } in
        let room : length (list_read text) ≤ length buf = omega (arith, many) in
        let s = reads text buf (left_done (left_next past_text (sym (long_enough (length buf) room)))) (wrote_filled all room) in
        record { result_value = (λ i. answer (many i) (header_is i).variables (header_is i).clauses) ∙ s.result_value; list_after = s.list_after }
