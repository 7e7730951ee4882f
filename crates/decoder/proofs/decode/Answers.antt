-- `decoder::decode` meets its contract. Assumes nothing.
use mathlib.Core.Path.{◌∙◌, ap}
use Rattle.answers.proofs.Results.{handed_on}
use Rattle.answers.specs.Lent.{unless_refused}
use Rattle.rules.specs.Board.{board_of}
use Rattle.rules.specs.Judge.{says_yes}
use Rattle.rules.proofs.Records.{passes_up, same_board, board_goes_on}
use Rattle.encoder.specs.Decoding.{decoded, decoder_grid_rows, decoder_rows}
use Rattle.decoder.specs.declared.DecodeRefusal.TheVariants.{Record}
use Rattle.decoder.specs.Answer.{decoded_outcome}
use Rattle.decoder.proofs.Answers.{refused_left}
use Rattle.decoder.proofs.decode.Goals as goal

pub returns-in_err-board : goal.returns-in_err-board
returns-in_err-board c =
    let s = c.args.«record».now in
    let values = c.args.values.now in
    let lent = c.args.drawing.now in
    let told = passes_up s (decoder_grid_rows (board_of s) values lent) says_yes c.in_err-board.field-0.0 c.in_err-board.ensures.told in
    record {
      result_value = ap decoded_outcome (handed_on _ c.from_residual.ensures.1) ∙ told;
      drawing_after = refused_left (decoder_rows s values lent) lent (decoded (board_of s) values) (Record c.in_err-board.field-0.0) told;
    }

pub returns : goal.returns
returns c =
    let s = c.args.«record».now in
    let values = c.args.values.now in
    let lent = c.args.drawing.now in
    let read = c.in_ok-board.ensures in
    let goes = board_goes_on s c.in_ok-board.board read.told read.same_record (λ b. decoder_grid_rows b values lent) says_yes in
    let to = same_board s c.in_ok-board.board read.told read.same_record in
    record {
      result_value = c.decode_grid.ensures.result_value ∙ goes;
      drawing_after = c.decode_grid.ensures.drawing_after ∙ (λ i. unless_refused (goes i) lent (decoded (to i) values));
    }
