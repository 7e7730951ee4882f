-- The decoder goes by its rows, of which the judge's 7 never has its cause. Assumes nothing.
use Prim.Native.Nat.{ℕ}
use lib.ListN.{drop, length-map}
use borrow.Author.Tests.{eq-eqb}
use mathlib.Core.Path.{◌≡◌, refl, sym, ◌∙◌, ap, subst}
use mathlib.Core.Bool.{not}
use Rattle.std.specs.Prelude.{None}
use mathlib.Core.List.{List, ◌∷◌, ◌++◌, map}
use Rattle.answers.specs.Outcome.{Row, row, cause, first_refusal}
use Rattle.answers.specs.Lent.{unless_refused}
use Rattle.answers.specs.ByRows.{ByRows}
use Rattle.answers.proofs.ByRows.{by_rows}
use Rattle.answers.proofs.Settled.{untouched}
use Rattle.rules.specs.Record.{record_rows}
use Rattle.rules.specs.Board.{Board, board_of}
use Rattle.rules.specs.Judge.{wrong_drawing, judge_rows, says_yes}
use Rattle.answers.specs.Lists.{up_to}
use Rattle.encoder.specs.Decoding.{decoded, wrong_values, wrong_value, decoder_answer, decoder_leaves}
use Rattle.answers.proofs.Elements.{length_from}
use Rattle.demands.specs.DecoderTable.{decoder_table}

-- what the decoder draws has N bytes
drawn_right : (b : Board) (values : List ℕ) → wrong_drawing b (decoded b values) ≡ None
drawn_right b values = ap (λ t. cause (not t)) (eq-eqb _ _ (length-map (up_to b.size) _ ∙ length_from 0 b.size))

decoder_outcome : (s values lent : List ℕ) → first_refusal (decoder_table s values lent) says_yes ≡ decoder_answer s values lent
decoder_outcome s values lent =
    ap (λ o. first_refusal (record_rows s ++ (
    row 8 (wrong_values (board_of s) values) ∷
    row 7 (wrong_drawing (board_of s) lent) ∷
    row 9 (wrong_value values) ∷
    row 7 o ∷
    drop 1 (judge_rows (board_of s) (decoded (board_of s) values)))) says_yes) (sym (drawn_right (board_of s) values))

pub decoder_call : (s values lent : List ℕ) (order : List ℕ) → map (λ (r : Row). r.number) (decoder_table s values lent) ≡ order
    → ByRows order (decoder_table s values lent) (decoder_answer s values lent) (decoder_leaves s values lent ≡ lent)
decoder_call s values lent order o =
    subst (λ t. ByRows order (decoder_table s values lent) t (unless_refused t lent (decoded (board_of s) values) ≡ lent)) (decoder_outcome s values lent)
    (by_rows says_yes refl order (decoder_table s values lent) o refl
    (untouched (first_refusal (decoder_table s values lent) says_yes) lent (decoded (board_of s) values)))
