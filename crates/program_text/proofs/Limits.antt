-- The programs' refusals: which they are, beside those of a call that begins with the record reader's rows too, and that what is printed fits.
-- Assumes nothing.
use Prim.Native.Nat.{ℕ, ◌≤◌}
use native.Mathlib.Omega.{arith}
use lib.Dec.{eqb, ltb}
use lib.ListN.{length, take, length-append}
use lib.Seq.{length-take-le}
use borrow.Author.Tests.{eq-eqb, ne_eqb, eqb-true, ltb-false}
use mathlib.Core.Path.{◌≡◌, refl, sym, ◌∙◌, ap}
use mathlib.Core.Bool.{Bool, true, false, cond}
use Rattle.std.specs.Prelude.{Option, None, Some}
use mathlib.Core.List.{List, [], ◌∷◌, ◌++◌}
use Rattle.answers.specs.declared.Outcome.{Outcome}
use Rattle.answers.specs.Outcome.{answer, Row, row, cause, unless, first_refusal}
use Rattle.answers.specs.Lent.{Wrote}
use Rattle.answers.specs.Lists.{All}
use Rattle.answers.proofs.Lent.{wrote_length}
use Rattle.answers.proofs.Bools.{or_neither}
use Rattle.answers.proofs.Rows.{Clear, refusals_append, answered_clear, clear_answered, no-cause}
use Rattle.rules.specs.Record.{record_rows, IsAccepted}
use Rattle.rules.specs.Board.{board_of}
use Rattle.rules.proofs.Records.{clear_parts, clear_accepted}
use Rattle.text.specs.Decimal.{decimal, line_feed}
use Rattle.text.proofs.Decimals.{digits_few}
use Rattle.encoder.specs.Variables.{variable_count}
use Rattle.encoder.specs.Clauses.{clause_list}
use Rattle.program_text.specs.Lines.{refused_line}
use Rattle.program_text.specs.Programs.{element_limit, variable_limit, needs_more, program_rows, program_number, printed}

-- calls with the same first rows tell the same number, if they do wherever these are passed
same_rows : (rs qs ps : List Row) (t u : Outcome) → (Clear rs → (first_refusal qs t).number ≡ (first_refusal ps u).number)
    → (first_refusal (rs ++ qs) t).number ≡ (first_refusal (rs ++ ps) u).number
same_rows [] qs ps t u h = h tt
same_rows (r ∷ rs) qs ps t u h = by r.beside refl (same_rows rs qs ps t u)
  where
    by : (o : Option ℕ) → r.beside ≡ o
        → ((Clear rs → (first_refusal qs t).number ≡ (first_refusal ps u).number) → (first_refusal (rs ++ qs) t).number ≡ (first_refusal (rs ++ ps) u).number)
        → (unless r.number o (first_refusal (rs ++ qs) t)).number ≡ (unless r.number o (first_refusal (rs ++ ps) u)).number
    by None e go = go (λ c. h (e, c))
    by (Some v) e go = refl

-- the number that row 6 gives
abbrev pub limited : Bool → ℕ
limited t = (unless 6 (cause t) (answer 0 0 0)).number

module _ (s : List ℕ) where
  -- a record without a cause is left to the rows after the reader's
  pub left : Clear (record_rows s) → (qs : List Row) (t : Outcome) → first_refusal (record_rows s ++ qs) t ≡ first_refusal qs t
  left c qs t = refusals_append (record_rows s) qs t ∙ clear_answered (record_rows s) _ c

  pub left_to_limits : Clear (record_rows s) → program_number s ≡ limited (needs_more (board_of s))
  left_to_limits c = ap (λ (t : Outcome). t.number) (left c (row 6 (cause (needs_more (board_of s))) ∷ []) (answer 0 0 0))

  -- no refusal: an accepted grid that needs no more than the programs hold
  pub unrefused : program_number s ≡ 0 → IsAccepted s × (length (clause_list (board_of s)) ≤ element_limit) × (variable_count (board_of s) ≤ variable_limit)
  unrefused e =
      let (c, l) = clear_parts s (row 6 (cause (needs_more (board_of s))) ∷ []) (answered_clear (program_rows s) (answer 0 0 0) refl e) in
      let n = or_neither (ltb element_limit (length (clause_list (board_of s)))) _ (no-cause (needs_more (board_of s)) l.0) in
      (clear_accepted s c, ltb-false element_limit (length (clause_list (board_of s))) n.0, ltb-false variable_limit (variable_count (board_of s)) n.1)

  -- the same refusal as that of another call
  pub same_number : (qs : List Row) (t : Outcome) → (Clear (record_rows s) → (first_refusal qs t).number ≡ limited (needs_more (board_of s)))
      → (first_refusal (record_rows s ++ qs) t).number ≡ program_number s
  same_number qs t h = same_rows (record_rows s) qs (row 6 (cause (needs_more (board_of s))) ∷ []) t (answer 0 0 0) h

-- what is printed
pub printed-refused : {n m : ℕ} (text : List ℕ) → n ≡ m → (m ≡ 0 → ⊥) → refused_line n ≡ printed m text
printed-refused {m = m} text e h = ap refused_line e ∙ sym (ap (λ b. cond b text (refused_line m)) (ne_eqb m 0 h))

pub printed_text : {m : ℕ} (text : List ℕ) → m ≡ 0 → text ≡ printed m text
printed_text {m} text e = sym (ap (λ b. cond b text (refused_line m)) (eq-eqb m 0 e))

-- no row has a number over 6, so the line of a refusal is short
rows_most : (rs : List Row) (t : Outcome) → All (λ (r : Row). r.number ≤ 6) rs → t.number ≤ 6 → (first_refusal rs t).number ≤ 6
rows_most [] t a h = h
rows_most (r ∷ rs) t a h = by r.beside (rows_most rs t a.1 h)
  where
    by : (o : Option ℕ) → (first_refusal rs t).number ≤ 6 → (unless r.number o (first_refusal rs t)).number ≤ 6
    by None i = i
    by (Some v) i = a.0

line_short : (s : List ℕ) → length (refused_line (program_number s)) ≤ 10
line_short s =
    let six : All (λ (r : Row). r.number ≤ 6) (program_rows s) =
    (omega arith, (omega arith, (omega arith, (omega arith, (omega arith, (omega arith, tt)))))) in
    let m = rows_most (program_rows s) (answer 0 0 0) six (omega arith) in
    let d = digits_few 0 (program_number s) (omega arith) in
    let a = length-append (decimal (program_number s)) (line_feed ∷ []) in
    omega arith

-- what is printed fits, if a text does that is printed without a refusal
pub printed_fits : (s text : List ℕ) (room : ℕ) → 10 ≤ room → (program_number s ≡ 0 → length text ≤ room) → length (printed (program_number s) text) ≤ room
printed_fits s text room r h = by (eqb (program_number s) 0) refl
  where
    by : (b : Bool) → eqb (program_number s) 0 ≡ b → length (cond b text (refused_line (program_number s))) ≤ room
    by true e = h (eqb-true (program_number s) 0 e)
    by false e = omega (arith, line_short s)

-- a text that fits its buffer is written whole: what is answered counts bytes of the buffer
pub whole : {buf text after : List ℕ} {r room : ℕ} → length buf ≡ room → length text ≤ room → Wrote buf 0 text after r
    → Wrote buf 0 text after r × ((r ≤ length after) × (r ≡ length (take r after)))
whole {after = after} {r = r} e h w =
    let inside : r ≤ length after = let p = w.place in omega (arith, wrote_length w) in
    (w, (inside, sym (length-take-le r after inside)))
