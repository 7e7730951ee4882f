-- The numbers of the variables of an open cell and its open neighbours.
use Rattle.std.specs.Prelude.{ℕ, cond, List, [], ◌∷◌}
use Rattle.rules.specs.declared.Direction.{Direction}
use Rattle.rules.specs.declared.Direction.TheVariants.{North as north, East as east, South as south, West as west}
use Rattle.rules.specs.Board.{Board}
use Rattle.encoder.specs.Variables.{Z, S, Q, Neighbour, if_there, out, number, rank}
use Rattle.encoder.specs.Clauses.{back}
use Rattle.encoder_numbers.specs.declared.NeighbourNumbers.{NeighbourNumbers}
use Rattle.encoder_numbers.specs.declared.CellNumbers.{CellNumbers}

-- the number of a cell's Z, 0 if it is not open
abbrev pub black_of : Board → ℕ → ℕ
black_of b x = cond (b.is_open x) (number b (Z x)) 0

-- no open neighbour: zeros
abbrev pub no_neighbour : NeighbourNumbers
no_neighbour = record { out = 0; back = 0; black = 0; distance = 0 }

abbrev pub neighbour_numbers_to : Board → ℕ → Neighbour → NeighbourNumbers
neighbour_numbers_to b x y = record { out = number b (out x y); back = number b (back y); black = number b (Z y.cell); distance = number b (Q y.cell 0) }

abbrev pub neighbour_numbers_if : Board → ℕ → List Neighbour → NeighbourNumbers
neighbour_numbers_if b x [] = no_neighbour
neighbour_numbers_if b x (y ∷ ys) = neighbour_numbers_to b x y

-- the neighbour of x in a direction
abbrev pub neighbour_numbers_of : Board → ℕ → Direction → NeighbourNumbers
neighbour_numbers_of b x d = neighbour_numbers_if b x (if_there b d (b.next d x))

abbrev pub cell_numbers_of : Board → ℕ → CellNumbers
cell_numbers_of b x = record {
  rank = rank b x;
  black = number b (Z x);
  start = number b (S x);
  distance = number b (Q x 0);
  north = neighbour_numbers_of b x north;
  east = neighbour_numbers_of b x east;
  south = neighbour_numbers_of b x south;
  west = neighbour_numbers_of b x west;
}
