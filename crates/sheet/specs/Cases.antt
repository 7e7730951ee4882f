-- Three sheets: that of document 02's E7, one with all sorts of cells and a number of two digits, and one of a record of kind 2 with all four directions.
use Rattle.std.specs.Prelude.{ℕ, replicate, ◌≡◌, List, [], ◌∷◌, ◌++◌}
use Rattle.answers.specs.Lists.{each, joined}
use Rattle.answers.specs.Outcome.{answer}
use Rattle.sheet.specs.Sheet.{with_line_feed}
use Rattle.sheet.specs.SheetCall.{sheet_answer, sheet_leaves}

-- a record, a drawing, and the lines of its sheet with the count of their bytes
pub record SheetCase : Type 0 where
  pub bytes : List ℕ
  pub drawing : List ℕ
  pub lines : List (List ℕ)
  pub count : ℕ

-- lent so many bytes and two more, the call writes these lines, and leaves the two as they were
abbrev pub lent_for : SheetCase → List ℕ
lent_for c = replicate c.count 0 ++ (7 ∷ 7 ∷ [])

pub record CaseHolds (c : SheetCase) : Type 0 where
  pub outcome : sheet_answer c.bytes c.drawing (lent_for c) ≡ answer c.count 0 0
  pub left : sheet_leaves c.bytes c.drawing (lent_for c) ≡ each c.lines with_line_feed ++ (7 ∷ 7 ∷ [])

-- n times
abbrev times : ℕ → List ℕ → List ℕ
times n bs = joined (replicate n bs)

-- `   `, ` # `, `...`, ` | `, and a clue with number 0
abbrev spaces : List ℕ
spaces = 32 ∷ 32 ∷ 32 ∷ []

abbrev black : List ℕ
black = 32 ∷ 35 ∷ 32 ∷ []

abbrev dots : List ℕ
dots = 46 ∷ 46 ∷ 46 ∷ []

abbrev bar_under : List ℕ
bar_under = 32 ∷ 124 ∷ 32 ∷ []

abbrev zero_clue : ℕ → List ℕ
zero_clue letter = letter ∷ 32 ∷ 48 ∷ []

-- a white cell with a link to its east, to both sides, to its west: ` +-`, `-+-`, `-+ `
abbrev begins : List ℕ
begins = 32 ∷ 43 ∷ 45 ∷ []

abbrev passes : List ℕ
passes = 45 ∷ 43 ∷ 45 ∷ []

abbrev ends : List ℕ
ends = 45 ∷ 43 ∷ 32 ∷ []

-- a row of n + 2 cells with a line through all of them
abbrev through : ℕ → List ℕ
through n = begins ++ (times n passes ++ ends)

-- 2×2 open: ` +--+ `, ` |  | `, ` +--+ `
abbrev pub open_four : SheetCase
open_four =
    record {
      bytes = 10 ∷ 0 ∷ 1 ∷ 0 ∷ 2 ∷ 2 ∷ replicate 4 0x00;
      drawing = 0x06 ∷ 0x0C ∷ 0x03 ∷ 0x09 ∷ [];
      lines = through 0 ∷ (bar_under ++ bar_under) ∷ through 0 ∷ [];
      count = 21;
    }

-- 3×20: in the top row "ten to the east", then black and shaded cells in turn; the loop goes round the two rows below
abbrev pub three_by_twenty : SheetCase
three_by_twenty =
    record {
      bytes = 66 ∷ 0 ∷ 1 ∷ 0 ∷ 3 ∷ 20 ∷ 0x2A ∷ (times 9 (0x00 ∷ 0x50 ∷ []) ++ replicate 41 0x00);
      drawing = 0x20 ∷
          (times 9 (0x10 ∷ 0x20 ∷ []) ++
          (0x10 ∷ 0x06 ∷ (replicate 18 0x0A ++
          (0x0C ∷ 0x03 ∷ (replicate 18 0x0A ++
          (0x09 ∷ []))))));
      lines =
          (69 ∷ 49 ∷ 48 ∷ (times 9 (black ++ dots) ++ black)) ∷
          times 20 spaces ∷
          through 18 ∷
          (bar_under ++ (times 18 spaces ++ bar_under)) ∷
          through 18 ∷
          [];
      count = 305;
    }

-- 3×3 of kind 2, a loop round four cells: ` +--+ W 0`, ` |  |    `, ` +--+ ...`, nine spaces, `N 0E 0S 0`
abbrev pub four_directions : SheetCase
four_directions =
    record {
      bytes = 24 ∷ 0 ∷ 2 ∷ 0 ∷ 3 ∷ 3 ∷
          0 ∷ 0x00 ∷ 0 ∷ 0x00 ∷ 0 ∷ 0x40 ∷
          0 ∷ 0x00 ∷ 0 ∷ 0x00 ∷ 0 ∷ 0x50 ∷
          0 ∷ 0x10 ∷ 0 ∷ 0x20 ∷ 0 ∷ 0x30 ∷
          [];
      drawing = 0x06 ∷ 0x0C ∷ 0x20 ∷ 0x03 ∷ 0x09 ∷ 0x20 ∷ 0x20 ∷ 0x20 ∷ 0x20 ∷ [];
      lines =
          (through 0 ++ zero_clue 87) ∷
          (bar_under ++ (bar_under ++ spaces)) ∷
          (through 0 ++ dots) ∷
          times 3 spaces ∷
          (zero_clue 78 ++ (zero_clue 69 ++ zero_clue 83)) ∷
          [];
      count = 50;
    }

abbrev pub sheet_cases : List SheetCase
sheet_cases = open_four ∷ three_by_twenty ∷ four_directions ∷ []
