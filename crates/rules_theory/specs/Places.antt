-- The places beside 12 and 15 of document 01's table, in its words: the first clue that is not met, the first white cell off the first one's loop.
use Rattle.std.specs.Prelude.{ℕ, ◌<◌, ◌≡◌, true, false, List}
use Rattle.answers.specs.First.{Least}
use Rattle.answers.specs.Lists.{how_many, ◌∈◌}
use Rattle.rules.specs.Board.{Clue, Board}
use Rattle.rules.specs.Drawing.{Reach, link_at, black_at}
use Rattle.rules.specs.Judge.{white_at}

-- the clue's line has its number of black cells
abbrev pub Met : List ℕ → Clue → Type 0
Met ds c = how_many (black_at ds) c.line ≡ c.number

-- 12: x is the cell of a clue that is not met, and every clue with a lower cell is met
pub record FirstUnmet (clues : List Clue) (ds : List ℕ) (x : ℕ) : Type 0 where
  pub clue : Clue
  pub among_clues : clue ∈ clues
  pub in_cell : clue.cell ≡ x
  pub unmet : Met ds clue → ⊥
  pub first : (c : Clue) → c ∈ clues → c.cell < x → Met ds c

-- a white cell to which links do not lead from s
pub record Unreached (b : Board) (ds : List ℕ) (s x : ℕ) : Type 0 where
  pub below : x < b.size
  pub is_white : white_at b ds x ≡ true
  pub unreached : Reach b.next (link_at ds) s x → ⊥

-- 15: no cell is white, and x is 0; or x is the first white cell to which links do not lead from the first white cell
pub data FirstUnreached (b : Board) (ds : List ℕ) (x : ℕ) : Type 0 where
  no-white : ((y : ℕ) → y < b.size → white_at b ds y ≡ false) → x ≡ 0 → FirstUnreached b ds x
  off_loop : {s : ℕ} → Least (white_at b ds) b.size s → Unreached b ds s x → ((y : ℕ) → y < x → Unreached b ds s y → ⊥) → FirstUnreached b ds x
