-- The encoder's list in a lent buffer that has room for it. Assumes nothing.
use Prim.Native.Nat.{ℕ, ◌≤◌}
use native.Mathlib.Omega.{arith}
use lib.IntN.{ℤ}
use lib.ListN.{length, take, drop, length-append}
use lib.Seq.{take_at}
use mathlib.Core.Path.{◌≡◌, refl, ◌∙◌, ap}
use Rattle.std.specs.Prelude.{None}
use mathlib.Core.List.{List, [], ◌∷◌}
use Rattle.answers.specs.declared.Outcome.{Outcome}
use Rattle.answers.specs.Outcome.{answer, row}
use Rattle.answers.specs.Lent.{too_short, filled, unless_refused}
use Rattle.answers.proofs.Rows.{clear_answered, refusals_append}
use Rattle.rules.specs.Record.{record_rows, IsAccepted}
use Rattle.rules.specs.Board.{board_of}
use Rattle.rules.proofs.Records.{accepted_clear}
use Rattle.encoder.specs.Variables.{variable_count}
use Rattle.encoder.specs.Clauses.{clauses, clause_list}
use Rattle.encoder.specs.Encoding.{encoder_answer, encoder_leaves}

module _ (s : List ℕ) (acc : IsAccepted s) (out : List ℤ) {new : List ℤ} (room : too_short (length out) (length (clause_list (board_of s))) ≡ None)
    (wrote : new ≡ encoder_leaves s out) where
  abbrev cs : List ℤ
  cs = clause_list (board_of s)

  pub list_filled : new ≡ filled out (clause_list (board_of s))
  list_filled = wrote ∙ ap (λ t. unless_refused t out (filled out cs)) outcome
    where
      t : Outcome
      t = answer (length cs) (variable_count (board_of s)) (length (clauses (board_of s)))

      outcome : encoder_answer s out ≡ t
      outcome =
          let rows = row 6 (too_short (length out) (length cs)) ∷ [] in
          refusals_append (record_rows s) rows t ∙ clear_answered (record_rows s) _ (accepted_clear s acc) ∙ clear_answered rows t (room, tt)

  -- it begins with the grid's clauses
  pub list_clauses : {n : ℕ} → n ≡ length (clause_list (board_of s)) → take n new ≡ clause_list (board_of s)
  list_clauses e = (λ i. take (e i) (list_filled i)) ∙ take_at cs _ (length cs) refl

  pub list_long : length (clause_list (board_of s)) ≤ length new
  list_long = omega (arith, ap length list_filled, length-append cs (drop (length cs) out))
