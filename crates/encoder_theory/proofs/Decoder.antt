-- The decoder, given an assignment's bytes: the drawing goes to the judge. Assumes nothing.
use Prim.Native.Nat.{ℕ}
use lib.Dec.{eqb, ltb}
use lib.ListN.{length, get_or, length-map, replicate, length-replicate, get_or-map}
use borrow.Author.Tests.{eq-eqb, le-ltb}
use mathlib.Core.Path.{◌≡◌, sym, ◌∙◌, ap, fun_ext}
use mathlib.Core.Bool.{Bool, false, not}
use Rattle.std.specs.Prelude.{None}
use mathlib.Core.List.{List, [], ◌∷◌, ◌++◌}
use Rattle.answers.specs.declared.Outcome.{Outcome}
use Rattle.answers.specs.Outcome.{Row, row, cause, first_refusal}
use Rattle.answers.specs.Lent.{unless_refused}
use Rattle.answers.proofs.First.{none_first}
use Rattle.answers.proofs.Rows.{refusals_append, clear_answered}
use Rattle.rules.specs.Directions.{bit}
use Rattle.rules.specs.Record.{record_rows, IsAccepted}
use Rattle.rules.specs.Board.{Board, board_of}
use Rattle.rules.specs.Drawing.{SolutionBytes}
use Rattle.rules.specs.Judge.{wrong_drawing, judge_rows, says_yes}
use Rattle.rules.proofs.Records.{accepted_clear, accepted_laws}
use Rattle.rules_theory.proofs.Theorems.{judge_right_on}
use Rattle.cnf.specs.Clauses.{Assignment}
use Rattle.encoder.specs.Variables.{variables, variable_count, place}
use Rattle.encoder.specs.Decoding.{drawn, decoded, wrong_values, numbered, wrong_value, decoder_answer, decoder_leaves, bytes_of, DecodesTo}
use Rattle.encoder_theory.specs.Valuations.{valuation}
use Rattle.encoder_theory.proofs.Bytes.{bit_small, bit_is}

byte_at : (a : List Bool) (i : ℕ) → get_or (bytes_of a) i 0 ≡ bit (get_or a i false)
byte_at a i = get_or-map bit a i false

-- the decoder draws what the assignment's values give
pub decoded_is : (b : Board) (a : List Bool) → decoded b (bytes_of a) ≡ drawn b (valuation b a)
decoded_is b a = ap (drawn b) (fun_ext (λ v. ap (λ n. eqb n 1) (byte_at a (place v (variables b))) ∙ bit_is (valuation b a v)))

module _ (s : List ℕ) (acc : IsAccepted s) (a : List Bool) (e : Assignment (variable_count (board_of s)) a) where
  abbrev b : Board
  b = board_of s

  values_right : wrong_values b (bytes_of a) ≡ None
  values_right = ap (λ t. cause (not t)) (eq-eqb _ _ (length-map a bit ∙ e))

  value_right : wrong_value (bytes_of a) ≡ None
  value_right = ap numbered (none_first (λ i. ltb 1 (get_or (bytes_of a) i 0)) _ (λ i h. ap (ltb 1) (byte_at a i) ∙ le-ltb 1 _ (bit_small (get_or a i false))))

  module _ (lent : List ℕ) (long : length lent ≡ (board_of s).size) where
    room_right : wrong_drawing b lent ≡ None
    room_right = ap (λ t. cause (not t)) (eq-eqb _ _ long)

    -- none of its rows but the judge's
    judges : decoder_answer s (bytes_of a) lent ≡ first_refusal (judge_rows b (decoded b (bytes_of a))) says_yes
    judges =
        refusals_append (record_rows s) (own ++ rest) says_yes ∙ clear_answered (record_rows s) _ (accepted_clear s acc)
        ∙ refusals_append own rest says_yes ∙ clear_answered own _ (values_right, (room_right, (value_right, tt)))
      where
        own : List Row
        own = row 8 (wrong_values b (bytes_of a)) ∷ row 7 (wrong_drawing b lent) ∷ row 9 (wrong_value (bytes_of a)) ∷ []

        rest : List Row
        rest = judge_rows b (decoded b (bytes_of a))

    yes_unless : decoder_answer s (bytes_of a) lent ≡ says_yes → decoder_leaves s (bytes_of a) lent ≡ drawn b (valuation b a)
    yes_unless y = ap (λ (t : Outcome). unless_refused t lent (decoded b (bytes_of a))) y ∙ decoded_is b a

  -- the judge says yes of a solution, and the decoder hands it out
  pub decodes : SolutionBytes (board_of s) (drawn (board_of s) (valuation (board_of s) a)) → DecodesTo s a (drawn (board_of s) (valuation (board_of s) a))
  decodes S = record { says = says; hands = λ lent long. yes_unless lent long (says lent long) }
    where
      says : (lent : List ℕ) → length lent ≡ b.size → decoder_answer s (bytes_of a) lent ≡ says_yes
      says lent long =
          judges lent long ∙ ap (λ ds. first_refusal (judge_rows b ds) says_yes) (decoded_is b a)
          ∙ (judge_right_on (accepted_laws s acc) (drawn b (valuation b a))).1 S

  -- what it hands out is what the assignment draws: lend it N zeros
  pub handed : {ds : List ℕ} → DecodesTo s a ds → drawn (board_of s) (valuation (board_of s) a) ≡ ds
  handed h = sym (yes_unless zeros long (h.says zeros long)) ∙ h.hands zeros long
    where
      zeros : List ℕ
      zeros = replicate b.size 0

      long : length zeros ≡ b.size
      long = length-replicate b.size 0
