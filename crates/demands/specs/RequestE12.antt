-- Document 02, E12, "The new house rule for sight lines", as one statement, in its order and words; what is in quotation marks is the request's.
-- `line_of s d x` is the line of an arrow in cell x of a record's grid, in direction d: its cells, the far end first, by `line` of rules/specs/Board.antt.
-- `to_edge` is every cell from x's neighbour in that direction to the board's edge.
use Rattle.std.specs.Prelude.{ℕ, ◌≤◌, ◌<◌, length, get_or, ◌≡◌, Bool, ◌↔◌, ◌⊎◌, List, [], ◌∷◌, None, Some}
use Rattle.answers.specs.Lists.{All, ◌∈◌, ApartBy}
use Rattle.answers.specs.Outcome.{refusal, answer}
use Rattle.rules.specs.declared.Direction.{Direction}
use Rattle.rules.specs.declared.Cell.TheVariants.{Clue as Clued}
use Rattle.rules.specs.Record.{grid_of, size, puzzle, grid_cell, direction_of, record_answer, IsAccepted}
use Rattle.rules.specs.Board.{Clue, Board, neighbour, line, board_of}
use Rattle.rules.specs.Drawing.{SolutionBytes}
use Rattle.rules.specs.Judge.{judge_answer, says_yes}
use Rattle.rules_theory.specs.RecordKinds.{RecordKind, OfKind, OfOtherKind, Accepts, Refuses, cell_count, code_at}
use Rattle.rules_theory.specs.Shaded.{ShadedAt}
use Rattle.rules_theory.specs.Lines.{to_edge, HasClue, BeforeFirst}
use Rattle.cnf.specs.Clauses.{Assignment, Satisfies}
use Rattle.encoder.specs.Variables.{variable_count}
use Rattle.encoder.specs.Clauses.{clause_list}
use Rattle.encoder.specs.Decoding.{decoded, bytes_of}
use Rattle.solver.specs.Tally.{Asked, asked_line}
use Rattle.demands.specs.RequestE3.{RequestE3}
use Rattle.demands.specs.RequestE4.{kind_one, EitherKind}
use Rattle.demands.specs.Stars.{GridStar, GridHolds, grid_case}

-- kind 1's numbers but the kind's own
abbrev pub kind_three : RecordKind
kind_three =
    record { kind = 3; side = kind_one.side; bytes = kind_one.bytes; unit = kind_one.unit; number = kind_one.number; shaded = kind_one.shaded }

abbrev pub line_of : List ℕ → Direction → ℕ → List ℕ
line_of s d x = line (puzzle (grid_of s) s) d x

-- clues with given lines that a board may have: no two in one cell; they and the cells of their lines are on the board
pub record GivenClues (b : Board) (cs : List Clue) : Type 0 where
  pub apart : ApartBy (λ (c : Clue). c.cell) cs
  pub inside : All (λ (c : Clue). (c.cell < b.size) × All (λ y. y < b.size) c.line) cs

abbrev pub with_clues : Board → List Clue → Board
with_clues b cs = record { size = b.size; is_open = b.is_open; next = b.next; clues = cs }

-- an assignment satisfies a board's clauses: as `Satisfying` of encoder/specs/Decoding.antt, which is about a record's
pub record SatisfiesBoard (b : Board) (a : List Bool) : Type 0 where
  pub gives : Assignment (variable_count b) a
  pub satisfies : Satisfies a (clause_list b)

-- each of them decodes to a solution, and each solution comes from exactly one of them
pub record Matched (b : Board) : Type 0 where
  pub decodes : (a : List Bool) → SatisfiesBoard b a → SolutionBytes b (decoded b (bytes_of a))
  pub comes_from_one : (ds : List ℕ) → SolutionBytes b ds
      → (a : List Bool) × SatisfiesBoard b a × (decoded b (bytes_of a) ≡ ds) × ((c : List Bool) → SatisfiesBoard b c → decoded b (bytes_of c) ≡ ds → c ≡ a)

-- grids of kind 3, in the form of document 01's starred ones
abbrev pub kind_three_grids : List GridStar
kind_three_grids =
    -- 1×3 `21 10 00`: the line of the first clue is empty; in kind 1 V = 10 (`grid_case 5`)
    record { grid = grid_case 9; solutions = []; says = answer 2 3 2; text = None } ∷
    -- 1×3 `20 50 00`: the line goes on past the shaded cell, as in kind 1
    record { grid = grid_case 10; solutions = []; says = answer 2 3 2; text = None } ∷
    []

-- 3×3 `20 10 00 / 00 00 00 / 00 00 00` of a kind, and a drawing of it: the first clue's line has a black cell in kind 1, and no cell in kind 3
abbrev pub two_clues : ℕ → List ℕ
two_clues kind = 15 ∷ 0 ∷ kind ∷ 0 ∷ 3 ∷ 3 ∷ 0x20 ∷ 0x10 ∷ 0 ∷ 0 ∷ 0 ∷ 0 ∷ 0 ∷ 0 ∷ 0 ∷ []

abbrev pub black_beyond : List ℕ
black_beyond = 0x20 ∷ 0x20 ∷ 0x10 ∷ 0x06 ∷ 0x0A ∷ 0x0C ∷ 0x03 ∷ 0x0A ∷ 0x09 ∷ []

pub record RequestE12 : Type 0 where
  -- "From the spring volume an arrow sees only up to the next arrow; older volumes keep the old reading."
  -- (Kinds 1 and 2 are those of older volumes. The rest says what kind 3 is.)
  pub old_reading : (s : List ℕ) → EitherKind s → (d : Direction) (x : ℕ) → line_of s d x ≡ to_edge (grid_of s) d x
  -- "Kind 3 has kind 1's layout and limits;"
  pub kind-three : Accepts kind_three
  pub three_refused : Refuses kind_three
  pub shaded-code : (s : List ℕ) → OfKind kind_three s → IsAccepted s → (x : ℕ) → ShadedAt s x ↔ (x < cell_count s) × (code_at kind_three s x ≡ 0x50)
  -- "its lines stop before the first clue cell,"
  -- (So a clue next to a clue, in its direction, has an empty line.)
  pub stop : (s : List ℕ) → OfKind kind_three s → (d : Direction) (x : ℕ)
      → BeforeFirst (HasClue (puzzle (grid_of s) s)) (to_edge (grid_of s) d x) (line_of s d x)
  pub next_to_clue : (s : List ℕ) → OfKind kind_three s → (d : Direction) (x y : ℕ) → neighbour (grid_of s) d x ≡ Some y
      → HasClue (puzzle (grid_of s) s) y → line_of s d x ≡ []
  -- "that far end then standing for the edge in all counting,"
  -- (E3 is about the lines of every kind: the judge's count and T go from the far end to the clue, cell by cell. Beyond the far end is the edge or a clue.)
  pub counting : RequestE3
  -- "and shaded cells don't stop them."
  -- (A shaded neighbour, in the line's direction, of the clue's own cell or of one on the line is on the line. As in E3, `get_or line j x` comes after j cells of
  -- the line, and the clue's own cell after all of them.)
  pub not_shaded : (s : List ℕ) → OfKind kind_three s → (d : Direction) (x : ℕ) → x < size (grid_of s)
      → (j y : ℕ) → j ≤ length (line_of s d x) → neighbour (grid_of s) d (get_or (line_of s d x) j x) ≡ Some y → ShadedAt s y → y ∈ line_of s d x
  -- "Refusal 2 is given for a kind other than 1, 2 or 3."
  pub other_kind : (s : List ℕ) → record_answer s ≡ refusal 2 0 ↔ OfOtherKind s
  pub each_kind : (s : List ℕ) → IsAccepted s → EitherKind s ⊎ OfKind kind_three s
  -- "Judge, clauses and E11 use the line of the record's kind,"
  -- (Judge and clauses are about the clues of the record's board.)
  pub clues : (s : List ℕ) (c : Clue) → c ∈ (board_of s).clues
      ↔ (c.cell < size (grid_of s)) × ((d : Direction) × (grid_cell s c.cell ≡ Clued d c.number) × (c.line ≡ line_of s d c.cell))
  pub tallied : (s : List ℕ) (q : Asked) → asked_line s q ≡ line_of s (direction_of q.direction) q.cell
  -- "and solutions match assignments under each rule by one argument in which the line is given."
  -- (The argument is about any clues with any lines; the clues of an accepted grid of each kind are such.)
  pub one_argument : (s : List ℕ) → IsAccepted s → (cs : List Clue) → GivenClues (board_of s) cs → Matched (with_clues (board_of s) cs)
  pub each_rule : (s : List ℕ) → IsAccepted s → GivenClues (board_of s) (board_of s).clues × Matched (board_of s)
  -- (Grids, computed.)
  pub samples : All GridHolds kind_three_grids
  pub judged_one : judge_answer (two_clues 1) black_beyond ≡ refusal 12 0
  pub judged_three : judge_answer (two_clues 3) black_beyond ≡ says_yes
