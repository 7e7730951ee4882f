-- Where the line of a clue ends, in the words of document 02's E12: at the board's edge, or before the first clue cell.
use Rattle.std.specs.Prelude.{ℕ, get_or, ◌≡◌, ◌⊎◌, List, [], ◌∷◌, ◌++◌}
use Rattle.answers.specs.Lists.{◌∈◌}
use Rattle.rules.specs.declared.Direction.{Direction}
use Rattle.rules.specs.declared.Grid.{Grid}
use Rattle.rules.specs.declared.Cell.TheVariants.{Open, Clue}
use Rattle.rules.specs.Record.{Puzzle, size}
use Rattle.rules.specs.Board.{neighbour, outward}

-- every cell from x's neighbour in a direction to the board's edge, that at the edge first (`from_edge` of RequestE3, with E12's `old_reading`)
abbrev pub to_edge : Grid → Direction → ℕ → List ℕ
to_edge g d x = outward (neighbour g d) (size g) x []

-- the cell x is a clue
abbrev pub HasClue : Puzzle → ℕ → Type 0
HasClue p x = (d : Direction) × (n : ℕ) × (get_or p.cells x Open ≡ Clue d n)

-- of the cells to the edge, that at the edge first: those before the first cell with a property, which is sought from the other end
pub record BeforeFirst (P : ℕ → Type 0) (whole part : List ℕ) : Type 0 where
  -- the cells beyond the part
  pub rest : List ℕ
  pub parts : whole ≡ rest ++ part
  -- no cell of the part has the property; that next to it, if there is one, has
  pub before : (y : ℕ) → y ∈ part → P y → ⊥
  pub first : (rest ≡ []) ⊎ ((far : List ℕ) × (y : ℕ) × (rest ≡ far ++ (y ∷ [])) × P y)
