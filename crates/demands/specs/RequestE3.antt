-- Document 02, E3, "Line count in the text's order", as one statement, in its order and words; what is in quotation marks is the request's.
-- "The text" is document 004. The judge's counting is `judge_cells::cells::blacks_nearest`: by its contract it hands out `blacks_nearest` of the line for
-- each j from 0 to the line's length. After j cells of the line of a clue in cell x comes `get_or line j x`, the clue's own cell x after all of them.
use Rattle.std.specs.Prelude.{ℕ, suc, ◌≤◌, ◌<◌, length, get_or, ◌≡◌, Bool, true, ◌↔◌, List, None, Some}
use Rattle.answers.specs.Lists.{tally, how_many}
use Rattle.rules.specs.declared.Direction.{Direction}
use Rattle.rules.specs.declared.Cell.TheVariants.{Clue as Clued}
use Rattle.rules.specs.declared.Kind.TheVariants.{Three}
use Rattle.rules.specs.Directions.{opposite}
use Rattle.rules.specs.Record.{Puzzle, puzzle, grid_cell, grid_of, size, IsAccepted}
use Rattle.rules.specs.Board.{neighbour, line, board_of}
use Rattle.rules.specs.Drawing.{blacks_nearest, black_at}
use Rattle.rules_theory.specs.Lines.{HasClue}
use Rattle.encoder.specs.Variables.{T}
use Rattle.encoder.specs.Decoding.{Satisfying, DecodesTo}
use Rattle.encoder_theory.specs.Valuations.{valuation}

pub record RequestE3 : Type 0 where
  -- "Document 004 counts a line from the board's edge"
  -- (So in kinds 1 and 2. In kind 3, which is E12's, it is counted from its far end: beyond that is the edge, or the clue that stops the line.)
  pub from_edge : (p : Puzzle) (d : Direction) (x : ℕ) → x < size p.grid → (p.grid.kind ≡ Three → ⊥)
      → neighbour p.grid d (get_or (line p d x) 0 x) ≡ None
  pub from_far_end : (p : Puzzle) (d : Direction) (x y : ℕ) → x < size p.grid → neighbour p.grid d (get_or (line p d x) 0 x) ≡ Some y
      → (p.grid.kind ≡ Three) × HasClue p y
  -- "towards the clue. However it goes now, the judge's counting is to go the same way, cell by cell in the order of that text,"
  pub cell_by_cell : (p : Puzzle) (d : Direction) (x j : ℕ) → j < length (line p d x)
      → neighbour p.grid (opposite d) (get_or (line p d x) j x) ≡ Some (get_or (line p d x) (suc j) x)
  pub to_clue : (p : Puzzle) (d : Direction) (x : ℕ) → get_or (line p d x) (length (line p d x)) x ≡ x
  -- "so that the two can be read side by side:"
  -- (Of an assignment that satisfies a grid's clauses and the drawing that it decodes to, and a clue in cell x with its direction and number: T(j,t),
  -- the text's count, holds exactly if the judge's count after j cells is t.)
  pub side_by_side : (s : List ℕ) → IsAccepted s → (a : List Bool) → Satisfying s a → (ds : List ℕ) → DecodesTo s a ds
      → (x : ℕ) (d : Direction) (n : ℕ) → x < size (grid_of s) → grid_cell s x ≡ Clued d n
      → (j t : ℕ) → j ≤ length (line (puzzle (grid_of s) s) d x) → t ≤ n
      → valuation (board_of s) a (T x j t) ≡ true ↔ blacks_nearest (black_at ds) (line (puzzle (grid_of s) s) d x) j ≡ t
  -- "it is proved that after j cells, for each j from 0 to the line's length, its count is the number of black cells among the j nearest the edge."
  -- (It begins with 0, a black cell makes it one more, and after the whole line it is the line's number of black cells, which the judge asks for.)
  pub begins : (black : ℕ → Bool) (line : List ℕ) → blacks_nearest black line 0 ≡ 0
  pub goes_on : (black : ℕ → Bool) (line : List ℕ) (x j : ℕ) → j < length line
      → blacks_nearest black line (suc j) ≡ tally (black (get_or line j x)) (blacks_nearest black line j)
  pub whole : (black : ℕ → Bool) (line : List ℕ) → blacks_nearest black line (length line) ≡ how_many black line
  -- "Answers and refusals are those of before." (`judge_answer` is the same definition, and the judge has the same contract.)
