-- "The drawing and its judge" of document 01: a drawing, its bytes, and what makes it a solution.
use Rattle.std.specs.Prelude.{ℕ, ◌<◌, ◌+◌, ◌*◌, ◌/◌, ◌%◌, eqb, length, get_or, take, ◌≡◌, Bool, true, false, not, ◌&&◌, ◌⊎◌, List, Option, Some}
use Rattle.rules.specs.declared.Direction.{Direction}
use Rattle.rules.specs.declared.Direction.TheVariants.{North as north, East as east, South as south, West as west}
use Rattle.answers.specs.Lists.{how_many, All}
use Rattle.rules.specs.Directions.{opposite, bit, degree}
use Rattle.rules.specs.Board.{Clue, Board}

-- which cells are black, and the links of each cell
pub record Drawing : Type 0 where
  pub black : ℕ → Bool
  pub link : ℕ → Direction → Bool

-- an open cell that is not black
abbrev pub white : Board → (ℕ → Bool) → ℕ → Bool
white b black x = b.is_open x && not (black x)

-- how many of the j cells of a line that are nearest its far end are black: the judge's count after j cells
abbrev pub blacks_nearest : (ℕ → Bool) → List ℕ → ℕ → ℕ
blacks_nearest black line j = how_many black (take j line)

-- each link is matched by the neighbour's opposite link, and stands at a white cell; each white cell has exactly two links
pub record Links (size : ℕ) (next : Direction → ℕ → Option ℕ) (white : ℕ → Bool) (link : ℕ → Direction → Bool) : Type 0 where
  pub matched : (x : ℕ) (d : Direction) → link x d ≡ true → (y : ℕ) × (next d x ≡ Some y) × (link y (opposite d) ≡ true)
  pub at_white : (x : ℕ) (d : Direction) → link x d ≡ true → white x ≡ true
  pub two : (x : ℕ) → x < size → white x ≡ true → degree (link x) ≡ 2

-- links lead from s to a cell
pub data Reach (next : Direction → ℕ → Option ℕ) (link : ℕ → Direction → Bool) (s : ℕ) : ℕ → Type 0 where
  here : {x : ℕ} → x ≡ s → Reach next link s x
  along : {x y : ℕ} {d : Direction} → Reach next link s x → link x d ≡ true → next d x ≡ Some y → Reach next link s y

pub record Solution (b : Board) (D : Drawing) : Type 0 where
  -- only open cells are black
  pub only_open : (x : ℕ) → D.black x ≡ true → b.is_open x ≡ true
  -- no two black cells share a side
  pub untouched : (d : Direction) (x y : ℕ) → b.next d x ≡ Some y → D.black x ≡ true → D.black y ≡ true → ⊥
  -- each clue's line has exactly its number of black cells
  pub met : All (λ (c : Clue). how_many D.black c.line ≡ c.number) b.clues
  -- each link is matched by the neighbour's opposite link; each white cell has exactly two links
  pub links : Links b.size b.next (white b D.black) D.link
  -- there is a white cell, and links lead from it to every other white cell
  pub whole : (t : ℕ) × (t < b.size) × (white b D.black t ≡ true) × ((x : ℕ) → x < b.size → white b D.black x ≡ true → Reach b.next D.link t x)

-- links 1 north, 2 east, 4 south, 8 west
abbrev pub weight : Direction → ℕ
weight north = 1
weight east = 2
weight south = 4
weight west = 8

abbrev pub link_sum : (Direction → Bool) → ℕ
link_sum p = bit (p north) * weight north + bit (p east) * weight east + bit (p south) * weight south + bit (p west) * weight west

-- the links of a byte, and of the cells of a drawing's bytes
abbrev pub byte_link : ℕ → Direction → Bool
byte_link v d = eqb (v / weight d % 2) 1

abbrev pub link_at : List ℕ → ℕ → Direction → Bool
link_at ds x = byte_link (get_or ds x 0)

abbrev pub black_at : List ℕ → ℕ → Bool
black_at ds x = eqb (get_or ds x 0) 0x10

-- the drawing that bytes are
abbrev pub drawing_at : List ℕ → Drawing
drawing_at ds = record { black = black_at ds; link = link_at ds }

-- a cell that is not open is 0x20; an open cell is black, 0x10, or white, a sum of links
abbrev pub Allowed : Bool → ℕ → Type 0
Allowed true v = (v ≡ 0x10) ⊎ ((p : Direction → Bool) × (v ≡ link_sum p))
Allowed false v = v ≡ 0x20

-- a solution as bytes: one a cell, each as its cell allows, and the rules hold of the drawing that they are
pub record SolutionBytes (b : Board) (ds : List ℕ) : Type 0 where
  pub long : length ds ≡ b.size
  pub allowed : (x : ℕ) → x < b.size → Allowed (b.is_open x) (get_or ds x 0)
  pub solution : Solution b (drawing_at ds)
