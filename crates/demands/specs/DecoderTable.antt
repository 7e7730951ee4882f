-- The decoder's rows of document 01's table "Turned down".
use Rattle.std.specs.Prelude.{ℕ, List, ◌∷◌, ◌++◌, drop}
use Rattle.answers.specs.Outcome.{Row, row}
use Rattle.rules.specs.Record.{record_rows}
use Rattle.rules.specs.Board.{board_of}
use Rattle.rules.specs.Judge.{wrong_drawing, judge_rows}
use Rattle.encoder.specs.Decoding.{decoded, wrong_values, wrong_value}

-- without the 7 of the judge: what the decoder draws has N bytes
abbrev pub decoder_table : List ℕ → List ℕ → List ℕ → List Row
decoder_table s values lent =
    record_rows s ++ (
    row 8 (wrong_values (board_of s) values) ∷
    row 7 (wrong_drawing (board_of s) lent) ∷
    row 9 (wrong_value values) ∷
    drop 1 (judge_rows (board_of s) (decoded (board_of s) values)))
