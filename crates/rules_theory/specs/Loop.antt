-- The walk along the links by the number of its steps, and when its cells are one whole loop.
use Rattle.std.specs.Prelude.{ℕ, zero, suc, ◌≤◌, ◌<◌, length, get_or, ◌≡◌, Bool, true, ◌↔◌, List, [], ◌∷◌, Option, Some}
use Rattle.rules.specs.declared.Direction.{Direction}
use Rattle.rules.specs.declared.Direction.TheVariants.{North as north, South as south}
use Rattle.answers.specs.Lists.{◌∈◌, Apart}
use Rattle.rules.specs.Drawing.{Reach}
use Rattle.rules.specs.Walk.{State, go, onto, step, start, loop_cells}

-- where the walk is after k steps from x
unfoldable pub walk : (Direction → ℕ → ℕ) → (ℕ → Direction → Direction) → State → ℕ → State
walk go other x zero = x
walk go other x (suc k) = step go other (walk go other x k)

-- .. and after k steps from s, which it leaves eastward
abbrev pub pass : (Direction → ℕ → Option ℕ) → (ℕ → Direction → Bool) → ℕ → ℕ → State
pass next link s k = walk (go next) (onto link) (start s) k

-- a link leads from x to y
abbrev pub Linked : (Direction → ℕ → Option ℕ) → (ℕ → Direction → Bool) → ℕ → ℕ → Type 0
Linked next link x y = (d : Direction) × (link x d ≡ true) × (next d x ≡ Some y)

-- of x, the elements of the list, and z at its end, each is related to the next one
abbrev pub Chain : (ℕ → ℕ → Type 0) → ℕ → List ℕ → ℕ → Type 0
Chain R x [] z = R x z
Chain R x (y ∷ ys) z = R x y × Chain R y ys z

-- the cells that the walk from s passes: first s, none twice, exactly the white cells of the board, each linked to the next one and the last to s
pub record WholeLoop (size : ℕ) (next : Direction → ℕ → Option ℕ) (white : ℕ → Bool) (link : ℕ → Direction → Bool) (s : ℕ) : Type 0 where
  pub rest : List ℕ
  pub begins : loop_cells size next link s ≡ s ∷ rest
  pub none_twice : Apart (s ∷ rest)
  pub the_whites : (x : ℕ) → x ∈ s ∷ rest ↔ ((x < size) × (white x ≡ true))
  pub linked : Chain (Linked next link) s rest s

-- the same by number: after k steps the walk is at the k-th of its cells; links lead from s to these and no others; after m steps, and not before, it
-- is back at s, from the south
pub record Looped (size : ℕ) (next : Direction → ℕ → Option ℕ) (link : ℕ → Direction → Bool) (s m : ℕ) : Type 0 where
  pub long : 1 < m
  pub fits : m ≤ size
  pub many : length (loop_cells size next link s) ≡ m
  pub each : (k : ℕ) → k < m → get_or (loop_cells size next link s) k 0 ≡ (pass next link s k).cell
  pub passes : (x : ℕ) → Reach next link s x → (k : ℕ) × (k < m) × ((pass next link s k).cell ≡ x)
  pub differ : (i j : ℕ) → i < j → j < m → (pass next link s i).cell ≡ (pass next link s j).cell → ⊥
  pub linked : (k : ℕ) → link (pass next link s k).cell (pass next link s k).way ≡ true
  pub steps : (k : ℕ) → next (pass next link s k).way (pass next link s k).cell ≡ Some (pass next link s (suc k)).cell
  pub returns : pass next link s m ≡ start s
  pub from_south : (k : ℕ) → suc k ≡ m → ((pass next link s k).way ≡ north) × (next south s ≡ Some (pass next link s k).cell)
