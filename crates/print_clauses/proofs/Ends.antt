-- How the program goes on after the encoder's call. Assumes nothing.
use Prim.Native.Nat.{ℕ, ◌+◌, ◌≤◌, ◌<◌, ◌^◌}
use native.Mathlib.Omega.{arith}
use lib.IntN.{ℤ}
use lib.ListN.{length, take, length-append}
use mathlib.Core.Path.{◌≡◌, refl, sym, ◌∙◌, ap}
use mathlib.Core.List.{List, ◌++◌}
use Rattle.answers.specs.declared.Outcome.{Outcome}
use Rattle.answers.specs.Lent.{Wrote}
use Rattle.answers.proofs.Lent.{wrote_recast}
use Rattle.rules.specs.Board.{board_of}
use Rattle.dimacs.specs.Text.{lines, header_line, text_of}
use Rattle.encoder.specs.Variables.{variable_count}
use Rattle.encoder.specs.Clauses.{clause_list}
use Rattle.encoder.proofs.Bounds.{clause-count}
use Rattle.encoder_size.specs.declared.Counts.{Counts}
use Rattle.encoder_call.specs.Answer.{counts_outcome}
use Rattle.program_text.specs.Programs.{variable_limit, printed_clauses}
use Rattle.program_text.proofs.Limits.{printed_text}
use Rattle.program_text.proofs.Encoded.{Encodes, counted, variables, listed, unrefused}
use Rattle.print_clauses.proofs.Fits.{text_fits}

module _ {s : List ℕ} {new : List ℤ} {c : Counts} (w : Encodes s (counts_outcome c) new) where
  -- the text that is put
  abbrev pub put : List ℕ
  put = header_line c.variables c.clauses ++ lines (take c.elements new)

  is_text : put ≡ text_of (variable_count (board_of s)) (clause_list (board_of s))
  is_text =
      λ i. header_line (variables w refl i) ((ap (λ (t : Outcome). t.third) (counted w refl) ∙ sym (clause-count (board_of s))) i) ++ lines (listed w refl i)

  module _ (h : c.variables ≤ variable_limit) where
    pub listed_fits : length (header_line c.variables c.clauses) + length (lines (take c.elements new)) < 2 ^ 64
    listed_fits =
        omega (
          arith,
          text_fits s (unrefused w refl h),
          ap length is_text,
          length-append (header_line c.variables c.clauses)
              (lines (take c.elements new)),
        )

    pub ends-listed : {buf after : List ℕ} {r : ℕ} → Wrote buf 0 put after r → Wrote buf 0 (printed_clauses s) after r
    ends-listed p = wrote_recast (is_text ∙ printed_text _ (unrefused w refl h)) p
