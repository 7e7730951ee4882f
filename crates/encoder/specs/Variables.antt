-- "Variables" of document 01: which there are, in their order, and their numbers.
use Rattle.std.specs.Prelude.{ℕ, zero, suc, length, ◌≡◌, refl, Bool, true, false, cond, List, [], ◌∷◌, map, Option, None, Some}
use Rattle.std.proofs.Math.Decide.{ℕ_discrete}
use Rattle.std.proofs.Common.{sym, ◌∙◌, ap}
use Rattle.rules.specs.declared.Direction.{Direction}
use Rattle.rules.specs.declared.Direction.TheVariants.{North as north, East as east, South as south, West as west}
use Rattle.rules.specs.Board.{Clue, Board}
use Rattle.answers.specs.Lists.{up_to, each, joined, keep}

-- Z x: x is black. S x: x is the start. E x d: from x the loop goes that way. Q x k: the start is k links ahead of x.
-- T c j t: of the j cells nearest the far end of the line of the clue in cell c, t are black.
pub data Variable : Type 0 where
  Z : ℕ → Variable
  S : ℕ → Variable
  E : ℕ → Direction → Variable
  Q : ℕ → ℕ → Variable
  T : ℕ → ℕ → ℕ → Variable
  deriving Discrete as variable-discrete

-- north, east, south, west
abbrev pub directions : List Direction
directions = north ∷ east ∷ south ∷ west ∷ []

-- the directions before d
abbrev pub earlier : Direction → List Direction
earlier north = []
earlier east = north ∷ []
earlier south = north ∷ east ∷ []
earlier west = north ∷ east ∷ south ∷ []

-- the open cells, in cell order
abbrev pub opens : Board → List ℕ
opens b = keep b.is_open (up_to b.size)

-- F
abbrev pub open_count : Board → ℕ
open_count b = length (opens b)

-- the open cells before x: those of lower rank
abbrev pub lower : Board → ℕ → List ℕ
lower b x = keep b.is_open (up_to x)

-- the rank of an open cell: 0 to F − 1 in cell order
abbrev pub rank : Board → ℕ → ℕ
rank b x = length (lower b x)

-- what f says of a cell: nothing of one that is not open
abbrev pub at_cell : {A : Type 0} → Board → (ℕ → List A) → ℕ → List A
at_cell b f x = cond (b.is_open x) (f x) []

-- an open neighbour: the way to it, and its cell
pub record Neighbour : Type 0 where
  pub way : Direction
  pub cell : ℕ

abbrev pub if_open : Bool → Direction → ℕ → List Neighbour
if_open true d y = record { way = d; cell = y } ∷ []
if_open false d y = []

abbrev pub if_there : Board → Direction → Option ℕ → List Neighbour
if_there b d None = []
if_there b d (Some y) = if_open (b.is_open y) d y

-- the open neighbours of x in these directions
abbrev pub neighbours : Board → ℕ → List Direction → List Neighbour
neighbours b x ds = each ds (λ d. if_there b d (b.next d x))

-- x→y
abbrev pub out : ℕ → Neighbour → Variable
out x y = E x y.way

-- Z, one per open cell
abbrev pub blacks : Board → List Variable
blacks b = map (λ x. Z x) (opens b)

-- S, one per open cell
abbrev pub starts : Board → List Variable
starts b = map (λ x. S x) (opens b)

-- E, per open cell, directions north, east, south, west, where the neighbour there exists and is open; A of them
abbrev pub outgoing : Board → ℕ → List Variable
outgoing b x = map (out x) (neighbours b x directions)

abbrev pub link_variables : Board → List Variable
link_variables b = each (opens b) (outgoing b)

-- how many of them the cells before x have
abbrev pub links_below : Board → ℕ → ℕ
links_below b x = length (each (lower b x) (outgoing b))

-- Q, per open cell, k = 0 to F − 1
abbrev pub distances_at : Board → ℕ → List Variable
distances_at b x = map (λ k. Q x k) (up_to (open_count b))

abbrev pub distances : Board → List Variable
distances b = each (opens b) (distances_at b)

-- T, per clue in cell order, j = 0 to L, t = 0 to its number n
abbrev pub counts_at : ℕ → ℕ → ℕ → List Variable
counts_at c n j = map (λ t. T c j t) (up_to (suc n))

abbrev pub clue_counts : Clue → List Variable
clue_counts c = each (up_to (suc (length c.line))) (counts_at c.cell c.number)

abbrev pub counts : Board → List Variable
counts b = each b.clues clue_counts

abbrev pub letters : Board → List (List Variable)
letters b = blacks b ∷ starts b ∷ link_variables b ∷ distances b ∷ counts b ∷ []

-- all of them, in order
unfoldable pub variables : Board → List Variable
variables b = joined (letters b)

-- V
abbrev pub variable_count : Board → ℕ
variable_count b = length (variables b)

-- directions compared: as numbers
abbrev pub direction_number : Direction → ℕ
direction_number north = 0
direction_number east = 1
direction_number south = 2
direction_number west = 3

abbrev pub of_direction_number : ℕ → Direction
of_direction_number zero = north
of_direction_number (suc zero) = east
of_direction_number (suc (suc zero)) = south
of_direction_number (suc (suc (suc n))) = west

pub direction_number_back : (d : Direction) → of_direction_number (direction_number d) ≡ d
direction_number_back north = refl
direction_number_back east = refl
direction_number_back south = refl
direction_number_back west = refl

abbrev pub same_direction : (d e : Direction) → Dec (d ≡ e)
same_direction d e = by (ℕ_discrete (direction_number d) (direction_number e))
  where
    by : Dec (direction_number d ≡ direction_number e) → Dec (d ≡ e)
    by (yes p) = yes (sym (direction_number_back d) ∙ ap of_direction_number p ∙ direction_number_back e)
    by (no n) = no (λ p. n (ap direction_number p))

unfoldable pub same : (v u : Variable) → Dec (v ≡ u)
unfolding ℕ_discrete
same = variable-discrete ℕ_discrete same_direction

abbrev pub place_step : {A : Type 0} → Dec A → ℕ → ℕ
place_step (yes e) n = 0
place_step (no e) n = suc n

-- a variable's place in a list, from 0; the list's length if it is not there
unfoldable pub place : Variable → List Variable → ℕ
unfolding same
place v [] = 0
place v (u ∷ us) = place_step (same v u) (place v us)

-- numbered from 1
abbrev pub number : Board → Variable → ℕ
number b v = suc (place v (variables b))
