-- `encoder_call::encode` meets its contract. Assumes nothing.
use Rattle.encoder_call.proofs.Ends.{board_encodable, ends_read}
use Rattle.encoder_call.proofs.encode.Goals as goal

pub encode_grid-requires-clause-encodable : goal.encode_grid-requires-clause-encodable
encode_grid-requires-clause-encodable c =
    let read = c.in_ok-board.ensures in board_encodable c.args.«record».now c.in_ok-board.board read.told read.same_record

pub returns : goal.returns
returns c =
    let read = c.in_ok-board.ensures in
    let e = c.encode_grid.ensures in
    let (told, left) = ends_read c.args.«record».now c.args.list.now c.in_ok-board.board read.told read.same_record (e.result_value, e.list_after) in
    record { result_value = told; list_after = left }
