-- What the reader hands out, and what a board is by the rules.
use Rattle.std.specs.Prelude.{Result, Ok, Err}
use Rattle.answers.specs.declared.Outcome.{Outcome}
use Rattle.rules.specs.declared.RecordRefusal.{RecordRefusal}
use Rattle.rules.specs.declared.Grid.{Grid}
use Rattle.rules.specs.declared.board.Board as code
use Rattle.rules.specs.Record.{Puzzle, puzzle, grid_answer, record_refusal_outcome}
use Rattle.rules.specs.Board.{Board, grid_board}

-- what is told of a record that was read, or turned down
abbrev pub read_outcome : Result code.Board RecordRefusal → Outcome
read_outcome (Ok b) = grid_answer b.grid
read_outcome (Err r) = record_refusal_outcome r

-- what was read, but for the record's bytes, which are those that were handed in
abbrev pub grid_read : Result code.Board RecordRefusal → Result Grid RecordRefusal
grid_read (Ok b) = Ok b.grid
grid_read (Err r) = Err r

-- the puzzle of a board's record, and the board of the rules
abbrev pub puzzle_on : code.Board → Puzzle
puzzle_on b = puzzle b.grid b.record.now

abbrev pub rules_board : code.Board → Board
rules_board b = grid_board b.grid b.record.now
