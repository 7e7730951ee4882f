-- The records of a kind, in the words of document 01's "The grid record" and document 02's E4, E5 and E12: what stands in their bytes, and what the reader
-- tells.
use Rattle.std.specs.Prelude.{ℕ, ◌+◌, ◌*◌, ◌≤◌, ◌<◌, length, get_or, take, drop, ◌≡◌, ◌↔◌, List, [], ◌∷◌}
use Rattle.answers.specs.First.{LeastWith}
use Rattle.answers.specs.Outcome.{refusal, answer}
use Rattle.rules.specs.declared.Cell.{Cell}
use Rattle.rules.specs.declared.Cell.TheVariants.{Open, Clue, Shaded}
use Rattle.rules.specs.Record.{direction_of, grid_of, puzzle, grid_cell, record_answer, IsAccepted}

-- what sets a kind apart
pub record RecordKind : Type 0 where
  -- its number
  pub kind : ℕ
  -- its largest side
  pub side : ℕ
  -- the bytes of a cell
  pub bytes : ℕ
  -- what a direction is multiplied by in a code: 16 where the lower four bits are the number, 4,096 where the lower twelve are
  pub unit : ℕ
  -- the largest number
  pub number : ℕ
  -- the code of a shaded cell
  pub shaded : ℕ

-- bytes as a number, little-endian
abbrev pub little_endian : List ℕ → ℕ
little_endian [] = 0
little_endian (b ∷ bs) = b + 256 * little_endian bs

-- the n bytes from i on, as a number
abbrev pub bytes_at : List ℕ → ℕ → ℕ → ℕ
bytes_at s i n = little_endian (take n (drop i s))

-- the record has six bytes or more, and the first two are its length
pub record Whole (s : List ℕ) : Type 0 where
  pub six : 6 ≤ length s
  pub told : bytes_at s 0 2 ≡ length s

-- N, the number of cells: byte 4 is the rows, byte 5 the columns
abbrev pub cell_count : List ℕ → ℕ
cell_count s = get_or s 4 0 * get_or s 5 0

module _ (k : RecordKind) where
  -- 0 is open; a clue has its direction, 1 to 4, in the upper bits and its number in the lower; one code is shaded
  pub data CodeIs : ℕ → Cell → Type 0 where
    codes_open : {c : ℕ} → c ≡ 0 → CodeIs c Open
    codes_clue : {c : ℕ} (d n : ℕ) → 1 ≤ d → d ≤ 4 → n ≤ k.number → c ≡ d * k.unit + n → CodeIs c (Clue (direction_of d) n)
    codes_shaded : {c : ℕ} → c ≡ k.shaded → CodeIs c Shaded

  module _ (s : List ℕ) where
    -- whole, with the kind in bytes 2 and 3
    pub record OfKind : Type 0 where
      pub whole : Whole s
      pub kind : bytes_at s 2 2 ≡ k.kind

    -- both sides are 1 to the largest
    pub record Sided : Type 0 where
      pub rows : (1 ≤ get_or s 4 0) × (get_or s 4 0 ≤ k.side)
      pub columns : (1 ≤ get_or s 5 0) × (get_or s 5 0 ≤ k.side)

    -- six bytes, and those of N cells
    abbrev pub RightLength : Type 0
    RightLength = length s ≡ 6 + k.bytes * cell_count s

    -- the code of cell x
    abbrev pub code_at : ℕ → ℕ
    code_at x = bytes_at s (6 + k.bytes * x) k.bytes

    -- it is that of no cell
    abbrev pub NoCell : ℕ → Type 0
    NoCell x = (c : Cell) → CodeIs (code_at x) c → ⊥

  -- of a record of this kind: it is accepted exactly if its sides, its length and its cells' codes are allowed;
  -- then the reader tells rows, columns and kind, and its N cells are those of the codes
  pub record Accepts : Type 0 where
    pub accepted : (s : List ℕ) → OfKind s → IsAccepted s ↔ Sided s × RightLength s × ((x : ℕ) → x < cell_count s → (c : Cell) × CodeIs (code_at s x) c)
    pub tells : (s : List ℕ) → OfKind s → IsAccepted s → record_answer s ≡ answer (get_or s 4 0) (get_or s 5 0) k.kind
    pub all : (s : List ℕ) → OfKind s → IsAccepted s → length (puzzle (grid_of s) s).cells ≡ cell_count s
    pub cells : (s : List ℕ) → OfKind s → IsAccepted s → (x : ℕ) → x < cell_count s → CodeIs (code_at s x) (grid_cell s x)

  -- else it is refused: for a side; for its length; for the first cell whose code is not allowed
  pub record Refuses : Type 0 where
    pub side : (s : List ℕ) → OfKind s → record_answer s ≡ refusal 3 0 ↔ (Sided s → ⊥)
    pub size : (s : List ℕ) → OfKind s → record_answer s ≡ refusal 4 0 ↔ Sided s × (RightLength s → ⊥)
    pub cell : (s : List ℕ) → OfKind s → (x : ℕ) → record_answer s ≡ refusal 5 x ↔ Sided s × RightLength s × LeastWith (NoCell s) (cell_count s) x

-- whole, with another kind than 1, 2 or 3
pub record OfOtherKind (s : List ℕ) : Type 0 where
  pub whole : Whole s
  pub not_one : bytes_at s 2 2 ≡ 1 → ⊥
  pub not_two : bytes_at s 2 2 ≡ 2 → ⊥
  pub not_three : bytes_at s 2 2 ≡ 3 → ⊥

-- two records of the same grid, whatever their kinds: the same sides and the same cells (the lines may differ, by the kind)
pub record SameGrid (s t : List ℕ) : Type 0 where
  pub rows : get_or s 4 0 ≡ get_or t 4 0
  pub columns : get_or s 5 0 ≡ get_or t 5 0
  pub cells : (puzzle (grid_of s) s).cells ≡ (puzzle (grid_of t) t).cells
