-- Document 02, E5, "Shaded cells with no arrow", as one statement, in its order and words; what is in quotation marks is the request's.
-- A shaded cell of a grid is `ShadedAt` of rules_theory/specs/Shaded.antt. The records of each kind are `kind_one` and `kind_two` of RequestE4.
use Rattle.std.specs.Prelude.{ℕ, ◌≤◌, ◌<◌, get_or, ◌≡◌, false, ◌↔◌, ◌⊎◌, List, [], ◌∷◌, None, Some}
use Rattle.answers.specs.Lists.{how_many, All, ◌∈◌}
use Rattle.answers.specs.Outcome.{refusal, answer}
use Rattle.rules.specs.declared.Direction.{Direction}
use Rattle.rules.specs.declared.Cell.{Cell}
use Rattle.rules.specs.declared.Cell.TheVariants.{Clue as Clued, Shaded}
use Rattle.rules.specs.Record.{grid_of, size, puzzle, grid_cell, IsAccepted}
use Rattle.rules.specs.Board.{Clue, line, board_of}
use Rattle.rules.specs.Drawing.{Reach, SolutionBytes, link_at, black_at}
use Rattle.rules.specs.Judge.{bad_byte_at, judge_answer}
use Rattle.rules_theory.specs.RecordKinds.{CodeIs, OfKind, cell_count, code_at}
use Rattle.rules_theory.specs.Shaded.{ShadedAt, ClueShaded}
use Rattle.encoder.specs.Variables.{Variable, Z, S, E, Q, T, variables}
use Rattle.encoder.specs.Clauses.{clue_clauses}
use Rattle.encoder.specs.Decoding.{decoded}
use Rattle.demands.specs.Demands.{Demand1, Demand2, Demand3}
use Rattle.demands.specs.RequestE1.{RequestE1}
use Rattle.demands.specs.RequestE2.{RequestE2}
use Rattle.demands.specs.RequestE3.{RequestE3}
use Rattle.demands.specs.RequestE4.{RequestE4, kind_one, kind_two, EitherKind}
use Rattle.demands.specs.Stars.{GridStar, GridHolds, Holds, grid_case, stars}

-- the cell that a variable is of
abbrev pub variable_cell : Variable → ℕ
variable_cell (Z x) = x
variable_cell (S x) = x
variable_cell (E x d) = x
variable_cell (Q x k) = x
variable_cell (T x j t) = x

-- grids with shaded cells, in the form of document 01's starred ones
abbrev pub shaded_grids : List GridStar
shaded_grids =
    -- 1×1 shaded: V = 0, the list is `0`, "none" at step 1
    record { grid = grid_case 6; solutions = []; says = answer 2 1 0; text = None } ∷
    -- 1×3 `20 50 00`: the line of the clue goes on past the shaded cell
    record { grid = grid_case 7; solutions = []; says = answer 2 3 2; text = None } ∷
    -- 2×3 `00 00 50 / 00 00 50`: the loop of the open 2×2 grid
    record { grid = grid_case 8; solutions = (0x06 ∷ 0x0C ∷ 0x20 ∷ 0x03 ∷ 0x09 ∷ 0x20 ∷ []) ∷ []; says = answer 1 33 32; text = None } ∷
    []

-- the demands and requests before this one
pub record Earlier : Type 0 where
  pub demand_1 : Demand1
  pub demand_2 : Demand2
  pub demand_3 : Demand3
  pub request_e1 : RequestE1
  pub request_e2 : RequestE2
  pub request_e3 : RequestE3
  pub request_e4 : RequestE4
  -- (with 0x51 in the place of 0x50)
  pub starred : All Holds stars

pub record RequestE5 : Type 0 where
  -- "Setters want a cell that is neither black nor on the loop and says nothing."
  -- (In a solution it is not black, has no link, and links lead to it from no other cell. No clue stands in it.)
  pub not-black : (s : List ℕ) (x : ℕ) → ShadedAt s x → (ds : List ℕ) → SolutionBytes (board_of s) ds → black_at ds x ≡ false
  pub no_link : (s : List ℕ) (x : ℕ) → ShadedAt s x → (ds : List ℕ) → SolutionBytes (board_of s) ds → (d : Direction) → link_at ds x d ≡ false
  pub off_loop : (s : List ℕ) (x : ℕ) → ShadedAt s x → (ds : List ℕ) → SolutionBytes (board_of s) ds
      → (y : ℕ) → Reach (board_of s).next (link_at ds) y x → y ≡ x
  pub no_clue : (s : List ℕ) (x : ℕ) → ShadedAt s x → (c : Clue) → c ∈ (board_of s).clues → c.cell ≡ x → ⊥
  -- "It is 0x50 in kind 1 and 0x5000 in kind 2,"
  pub code_one : (s : List ℕ) → OfKind kind_one s → IsAccepted s → (x : ℕ) → ShadedAt s x ↔ (x < cell_count s) × (code_at kind_one s x ≡ 0x50)
  pub code_two : (s : List ℕ) → OfKind kind_two s → IsAccepted s → (x : ℕ) → ShadedAt s x ↔ (x < cell_count s) × (code_at kind_two s x ≡ 0x5000)
  -- "so 0x50 leaves the refused cells of document 01."
  -- (From 0x50 on, 0x50 alone is the code of a cell; in kind 2, from 0x5000 on, 0x5000.)
  pub no_other_one : (c : ℕ) → 0x50 ≤ c → ((e : Cell) × CodeIs kind_one c e) ↔ (c ≡ 0x50)
  pub no_other_two : (c : ℕ) → 0x5000 ≤ c → ((e : Cell) × CodeIs kind_two c e) ↔ (c ≡ 0x5000)
  -- "It draws as 0x20,"
  -- (That is its byte in every solution, and the decoder's, whatever the values; any other byte there is one for refusal 10,
  -- and this one is not.)
  pub solution_byte : (s : List ℕ) (x : ℕ) → ShadedAt s x → (ds : List ℕ) → SolutionBytes (board_of s) ds → get_or ds x 0 ≡ 0x20
  pub decoded_byte : (s : List ℕ) (x : ℕ) → ShadedAt s x → (values : List ℕ) → get_or (decoded (board_of s) values) x 0 ≡ 0x20
  pub judged_byte : (s : List ℕ) (x : ℕ) → ShadedAt s x → (ds : List ℕ) → bad_byte_at (board_of s) ds x ≡ false ↔ get_or ds x 0 ≡ 0x20
  -- "has no T variables,"
  -- (Nor has it another variable, and no E leads to it: those are of open cells.)
  pub no_variable : (s : List ℕ) (x : ℕ) → ShadedAt s x → (v : Variable) → v ∈ variables (board_of s) → variable_cell v ≡ x → ⊥
  pub none_to : (s : List ℕ) (x : ℕ) → ShadedAt s x → (y : ℕ) (d : Direction) → (board_of s).next d y ≡ Some x → E y d ∈ variables (board_of s) → ⊥
  -- "and in a clue's line acts as a clue cell."
  -- (Of two grids that differ in a cell x that is a clue in the first and shaded in the second: the clues of the second are those of the first but the one in
  -- x, with their lines, and each has the same clauses, by the letters of the variables; and the solutions of the first are those of the second in which the
  -- clue in x is met. In kind 3, which is E12's, a clue stops lines and a shaded cell does not, so other clues may have other lines there; a clue with a
  -- given line has the same clauses there too.)
  pub same_clues : (s t : List ℕ) (x : ℕ) (d : Direction) (n : ℕ) → ClueShaded s t x d n → EitherKind s
      → (c : Clue) → c ∈ (board_of t).clues ↔ (c ∈ (board_of s).clues) × (c.cell ≡ x → ⊥)
  pub same_clauses : (s t : List ℕ) (x : ℕ) (d : Direction) (n : ℕ) → ClueShaded s t x d n
      → (c : Clue) → clue_clauses (board_of s).is_open c ≡ clue_clauses (board_of t).is_open c
  pub same_solutions : (s t : List ℕ) (x : ℕ) (d : Direction) (n : ℕ) → ClueShaded s t x d n → EitherKind s → (ds : List ℕ)
      → SolutionBytes (board_of s) ds ↔ SolutionBytes (board_of t) ds × (how_many (black_at ds) (line (puzzle (grid_of s) s) d x) ≡ n)
  -- "The reader now tells three sorts of cell,"
  -- (Each cell of a grid is of one of them, by its code; `CodeIs` names them.)
  pub sorts_one : (s : List ℕ) → OfKind kind_one s → IsAccepted s → (x : ℕ) → x < cell_count s → CodeIs kind_one (code_at kind_one s x) (grid_cell s x)
  pub sorts_two : (s : List ℕ) → OfKind kind_two s → IsAccepted s → (x : ℕ) → x < cell_count s → CodeIs kind_two (code_at kind_two s x) (grid_cell s x)
  -- "and the judge, encoder and decoder follow."
  -- (What they do is said by the demands, of every accepted grid. Three grids, computed; and the judge finds no white cell in the first.)
  pub samples : All GridHolds shaded_grids
  pub no-white : judge_answer (grid_case 6).bytes (0x20 ∷ []) ≡ refusal 15 0
  -- "All earlier claims hold with "clue or shaded" where they said a cell isn't open."
  pub not_open : (s : List ℕ) (x : ℕ) → x < size (grid_of s)
      → (board_of s).is_open x ≡ false ↔ ((d : Direction) × (n : ℕ) × (grid_cell s x ≡ Clued d n)) ⊎ (grid_cell s x ≡ Shaded)
  pub earlier : Earlier
