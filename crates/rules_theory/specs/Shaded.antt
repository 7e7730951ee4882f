-- Shaded cells: document 02's E5.
use Rattle.std.specs.Prelude.{ℕ, ◌<◌, ◌≡◌, List}
use Rattle.rules.specs.declared.Direction.{Direction}
use Rattle.rules.specs.declared.Cell.TheVariants.{Clue, Shaded}
use Rattle.rules.specs.Record.{grid_of, size, grid_cell}

-- a shaded cell of a record's grid
pub record ShadedAt (s : List ℕ) (x : ℕ) : Type 0 where
  pub inside : x < size (grid_of s)
  pub shaded : grid_cell s x ≡ Shaded

-- two grids of the same kind and sides that differ in one cell, which is a clue in the first and shaded in the second
pub record ClueShaded (s t : List ℕ) (x : ℕ) (d : Direction) (n : ℕ) : Type 0 where
  pub grid : grid_of s ≡ grid_of t
  pub inside : x < size (grid_of s)
  pub clue : grid_cell s x ≡ Clue d n
  pub shaded : grid_cell t x ≡ Shaded
  pub others : (y : ℕ) → y < size (grid_of s) → (y ≡ x → ⊥) → grid_cell s y ≡ grid_cell t y
