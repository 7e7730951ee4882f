-- What the parts of a sheet ask and give.
use Rattle.std.specs.Prelude.{ℕ, ◌+◌, ◌*◌, ◌<◌, List, [], ◌∷◌}
use Rattle.rules.specs.declared.Grid.{Grid}
use Rattle.rules.specs.Record.{DrawingFits}
use Rattle.sheet_call.specs.declared.Characters.{Characters}

abbrev pub characters_of : Characters → List ℕ
characters_of c = c.left ∷ c.middle ∷ c.right ∷ []

-- a grid with its record and a drawing of its size, and a line of its sheet
pub record LineFits (g : Grid) (s ds : List ℕ) (i : ℕ) : Type 0 where
  pub drawing_fits : DrawingFits g s ds
  pub inside : i + 1 < 2 * g.rows
