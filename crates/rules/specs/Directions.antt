-- The four directions, and what a cell's links are in each.
use Rattle.std.specs.Prelude.{ℕ, ◌+◌, Bool, true, false}
use Rattle.rules.specs.declared.Direction.{Direction}
use Rattle.rules.specs.declared.Direction.TheVariants.{North as north, East as east, South as south, West as west}

abbrev pub opposite : Direction → Direction
opposite north = south
opposite east = west
opposite south = north
opposite west = east

abbrev pub bit : Bool → ℕ
bit true = 1
bit false = 0

-- the number of directions in which p holds
abbrev pub degree : (Direction → Bool) → ℕ
degree p = bit (p north) + bit (p east) + bit (p south) + bit (p west)

-- the other three, in order
abbrev pub next1 : Direction → Direction
next1 north = east
next1 east = north
next1 south = north
next1 west = north

abbrev pub next2 : Direction → Direction
next2 north = south
next2 east = south
next2 south = east
next2 west = east

abbrev pub next3 : Direction → Direction
next3 north = west
next3 east = west
next3 south = west
next3 west = south

abbrev pub pick : Bool → Bool → Direction → Direction → Direction → Direction
pick true y a b c = a
pick false true a b c = b
pick false false a b c = c

-- the first direction but d in which p holds, the last of the three if in none: where p holds in two, the one that is not d
abbrev pub other : (Direction → Bool) → Direction → Direction
other p d = pick (p (next1 d)) (p (next2 d)) (next1 d) (next2 d) (next3 d)
