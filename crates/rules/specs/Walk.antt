-- The walk along the links: the cells that it passes until it is where it began.
use Rattle.std.specs.Prelude.{ℕ, zero, suc, eqb, Bool, true, false, ◌||◌, List, [], ◌∷◌, Option, unwrap_or}
use Rattle.rules.specs.declared.Direction.{Direction}
use Rattle.rules.specs.declared.Direction.TheVariants.{East as east}
use Rattle.rules.specs.Directions.{opposite, other}

-- where the walk is, and by which link it leaves
pub record State : Type 0 where
  pub cell : ℕ
  pub way : Direction

-- the neighbour, or the cell itself where there is none
abbrev pub go : (Direction → ℕ → Option ℕ) → Direction → ℕ → ℕ
go next d x = unwrap_or (next d x) x

-- the link by which a walk leaves that came by the link d
abbrev pub onto : (ℕ → Direction → Bool) → ℕ → Direction → Direction
onto link x = other (link x)

abbrev pub step : (Direction → ℕ → ℕ) → (ℕ → Direction → Direction) → State → State
step go other x = record { cell = go x.way x.cell; way = other (go x.way x.cell) (opposite x.way) }

abbrev pub onward : Bool → State → (State → List ℕ) → List ℕ
onward true y f = []
onward false y f = f y

-- the cells from x on, until the cell s comes again; n at most
unfoldable pub around : (Direction → ℕ → ℕ) → (ℕ → Direction → Direction) → ℕ → ℕ → State → List ℕ
around go other s zero x = []
around go other s (suc n) x = x.cell ∷ onward (eqb (step go other x).cell s) (step go other x) (λ y. around go other s n y)

-- the walk leaves s eastward
abbrev pub start : ℕ → State
start s = record { cell = s; way = east }

-- the cells that it passes
abbrev pub loop_cells : ℕ → (Direction → ℕ → Option ℕ) → (ℕ → Direction → Bool) → ℕ → List ℕ
loop_cells size next link s = around (go next) (onto link) s size (start s)

-- is x among them
unfoldable pub among : ℕ → List ℕ → Bool
among x [] = false
among x (y ∷ l) = eqb x y || among x l
