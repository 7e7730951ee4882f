-- How a program goes on after the encoder's call: the encoder's refusal is the program's, and an answer leaves the clauses in the list. Assumes nothing.
use Prim.Native.Nat.{ℕ, ◌≤◌, ◌<◌}
use native.Mathlib.Omega.{arith}
use lib.Dec.{ltb}
use lib.IntN.{ℤ, pos}
use lib.ListN.{length, take, replicate, length-append, length-replicate}
use lib.Seq.{take_at}
use borrow.Author.Tests.{lt-ltb, le-ltb}
use mathlib.Core.Path.{◌≡◌, refl, sym, ◌∙◌, ap}
use mathlib.Core.Bool.{Bool, true, false}
use mathlib.Core.List.{List, [], ◌∷◌}
use Rattle.answers.specs.declared.Outcome.{Outcome}
use Rattle.answers.specs.Outcome.{answer, Row, row, first_refusal}
use Rattle.answers.specs.Lent.{Wrote, too_short, filled, unless_refused}
use Rattle.answers.proofs.Bools.{or_right}
use Rattle.answers.proofs.Lent.{wrote_recast}
use Rattle.answers.proofs.Rows.{Clear, answered_clear, clear_answered}
use Rattle.answers.proofs.Settled.{enough}
use Rattle.rules.specs.Record.{record_rows, IsAccepted}
use Rattle.rules.specs.Board.{board_of}
use Rattle.rules.proofs.Records.{clear_parts, clear_accepted}
use Rattle.encoder.specs.Variables.{variable_count}
use Rattle.encoder.specs.Clauses.{clauses, clause_list}
use Rattle.encoder.specs.Encoding.{encoder_rows, encoder_answer, encoder_leaves}
use Rattle.program_text.specs.Lines.{refused_line}
use Rattle.program_text.specs.Programs.{element_limit, variable_limit, needs_more, program_number, printed}
use Rattle.program_text.proofs.Limits.{limited, left, left_to_limits, same_number, printed-refused}

-- the list that a program lends
abbrev pub zeros : List ℤ
zeros = replicate element_limit (pos 0)

-- what the encoder's call tells and leaves
pub record Encodes (s : List ℕ) (t : Outcome) (new : List ℤ) : Type 0 where
  pub outcome : t ≡ encoder_answer s zeros
  pub left : new ≡ encoder_leaves s zeros

pub encodes : (s : List ℕ) {t : Outcome} {new : List ℤ} → t ≡ encoder_answer s zeros → new ≡ encoder_leaves s zeros → Encodes s t new
encodes s told leaves = record { outcome = told; left = leaves }

module _ (s : List ℕ) where
  abbrev list : List ℤ
  list = clause_list (board_of s)

  -- the encoder's own row, and what it answers
  abbrev room : List Row
  room = row 6 (too_short (length zeros) (length list)) ∷ []

  abbrev counts : Outcome
  counts = answer (length list) (variable_count (board_of s)) (length (clauses (board_of s)))

  same_refusal : ((encoder_answer s zeros).number ≡ 0 → ⊥) → (encoder_answer s zeros).number ≡ program_number s
  same_refusal n = same_number s room counts (λ c. by c (ltb element_limit (length list)) refl)
    where
      by : Clear (record_rows s) → (b : Bool) → ltb element_limit (length list) ≡ b → (first_refusal room counts).number ≡ limited (needs_more (board_of s))
      by c true h = rw h
      by c false h = absurd (n (ap (λ (t : Outcome). t.number) (left s c room counts) ∙ (rw h)))

module _ {s : List ℕ} {t : Outcome} {new : List ℤ} (w : Encodes s t new) where
  -- refused
  pub ends-refused : (text : List ℕ) {buf after : List ℕ} {r : ℕ} → (t.number ≡ 0 → ⊥)
      → Wrote buf 0 (refused_line t.number) after r → Wrote buf 0 (printed (program_number s) text) after r
  ends-refused text n =
      let e : t.number ≡ (encoder_answer s zeros).number = ap (λ (t : Outcome). t.number) w.outcome in
      let p = same_refusal s (λ z. n (e ∙ z)) in
      wrote_recast (printed-refused text (e ∙ p) (λ z. n (e ∙ p ∙ z)))

  -- answered
  module _ (e : t.number ≡ 0) where
    clear : Clear (encoder_rows s zeros)
    clear = answered_clear (encoder_rows s zeros) (counts s) refl (sym (ap (λ (t : Outcome). t.number) w.outcome) ∙ e)

    parts : Clear (record_rows s) × Clear (room s)
    parts = clear_parts s (room s) clear

    pub read : IsAccepted s
    read = clear_accepted s parts.0

    pub counted : t ≡ counts s
    counted = w.outcome ∙ clear_answered (encoder_rows s zeros) (counts s) clear

    elements : t.first ≡ length (list s)
    elements = ap (λ (t : Outcome). t.first) counted

    pub variables : t.second ≡ variable_count (board_of s)
    variables = ap (λ (t : Outcome). t.second) counted

    now_filled : new ≡ filled zeros (list s)
    now_filled = w.left ∙ ap (λ t. unless_refused t zeros (filled zeros (list s))) (sym w.outcome ∙ counted)

    pub listed : take t.first new ≡ list s
    listed = (λ i. take (elements i) (now_filled i)) ∙ take_at (list s) _ (length (list s)) refl

    pub listed-inside : t.first ≤ length new
    listed-inside = omega (arith, elements, simp length-append at (ap length now_filled))

    pub listed_long : t.first ≡ length (take t.first new)
    listed_long = elements ∙ sym (ap length listed)

    -- V is asked after it
    pub ends_large : (text : List ℕ) {buf after : List ℕ} {r : ℕ} → variable_limit < t.second
        → Wrote buf 0 (refused_line 6) after r → Wrote buf 0 (printed (program_number s) text) after r
    ends_large text h =
        let m = lt-ltb variable_limit (variable_count (board_of s)) (omega (arith, variables)) in
        let n : program_number s ≡ 6 = left_to_limits s parts.0 ∙ ap limited (or_right (ltb element_limit (length (list s))) _ m) in
        wrote_recast (printed-refused text (sym n) (λ z. omega arith))

    pub unrefused : t.second ≤ variable_limit → program_number s ≡ 0
    unrefused h =
        let short : length (list s) ≤ length zeros = enough (length zeros) parts.1.0 in
        let few = le-ltb element_limit (length (list s)) (omega (arith, length-replicate element_limit (pos 0))) in
        left_to_limits s parts.0 ∙ rw (few, le-ltb variable_limit (variable_count (board_of s)) (omega (arith, variables)))
