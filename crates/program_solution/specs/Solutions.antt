-- A record's solution under program 2's limits and budget: the drawing, or the line that is printed where there is none.
use Rattle.std.specs.Prelude.{ℕ, ◌≡◌, List}
use Rattle.answers.specs.Lent.{Wrote, filled}
use Rattle.rules.specs.declared.board.Board as code
use Rattle.rules.specs.Record.{grid_of, IsAccepted}
use Rattle.rules.specs.Board.{board_of}
use Rattle.program_text.specs.Programs.{searched, drawing_at, solution_text}
use Rattle.program_solution.specs.declared.ToPrint.{ToPrint}
use Rattle.program_solution.specs.declared.ToPrint.TheVariants.{Line, Drawing}

-- the drawing that the search finds
abbrev pub solution_drawing : List ℕ → List ℕ
solution_drawing s = drawing_at (board_of s) (searched (board_of s))

-- a call on the record s, with buffers ds for the drawing and bs for the text; after it they are es and cs
module _ (s ds bs : List ℕ) where
  -- no drawing is printed, whatever its text would be, but a line (`refused 3`, `none` or `halted`): it was written, n bytes
  pub record WroteLine (n : ℕ) (es cs : List ℕ) : Type 0 where
    pub line : List ℕ
    pub prints : (text : List ℕ) → solution_text s text ≡ line
    pub wrote : Wrote bs 0 line cs n
    pub kept : es ≡ ds

  -- the text of a drawing is printed: the drawing of the record's grid, on the board that was read, was written
  pub record WroteDrawing (b : code.Board) (es cs : List ℕ) : Type 0 where
    pub accepted : IsAccepted s
    pub prints : (text : List ℕ) → solution_text s text ≡ text
    pub grid : b.grid ≡ grid_of s
    pub same_record : b.record.now ≡ s
    pub wrote : es ≡ filled ds (solution_drawing s)
    pub kept : cs ≡ bs

  -- the contract of `solve_record`
  abbrev pub Solves : ToPrint → List ℕ → List ℕ → Type 0
  Solves (Line n) es cs = WroteLine n es cs
  Solves (Drawing b) es cs = WroteDrawing b es cs
