-- "Clauses, in order" of document 01: five families of clauses, each in parts, and their list of signed numbers.
use Rattle.std.specs.Prelude.{ℕ, zero, suc, ◌+◌, ◌-◌, length, ℤ, pos, neg_ℤ, eqb, ◌≡◌, Bool, true, false, List, [], ◌∷◌, ◌++◌, map}
use Rattle.rules.specs.declared.Direction.{Direction}
use Rattle.rules.specs.declared.Direction.TheVariants.{East as east, South as south}
use Rattle.rules.specs.Directions.{opposite}
use Rattle.rules.specs.Board.{Clue, Board}
use Rattle.answers.specs.Lists.{from, up_to, each, joined}
use Rattle.encoder.specs.Variables.{Variable, Z, S, E, Q, T, directions, opens, open_count, lower, Neighbour, neighbours, out, starts, outgoing}
use Rattle.encoder.specs.Variables.{distances_at, counts_at, number}

-- minus for "not"
pub data Literal : Type 0 where
  plus : Variable → Literal
  minus : Variable → Literal

abbrev pub Clause : Type 0
Clause = List Literal

-- [−a −b]
abbrev pub not_both : Variable → Variable → Clause
not_both u v = minus u ∷ minus v ∷ []

-- pairs: first with second, first with third, and so on
abbrev pub pairs : List Variable → List Clause
pairs [] = []
pairs (v ∷ vs) = map (not_both v) vs ++ pairs vs

-- how many pairs n variables have
abbrev pub pair_count : ℕ → ℕ
pair_count zero = 0
pair_count (suc n) = n + pair_count n

-- [v, all of these]
abbrev pub or_any : Variable → List Variable → Clause
or_any v vs = plus v ∷ map plus vs

abbrev pub east_south : List Direction
east_south = east ∷ south ∷ []

-- 1. Touching: [−Zx −Zy], y the open east, then south neighbour
abbrev pub touch : ℕ → Neighbour → Clause
touch x y = not_both (Z x) (Z y.cell)

abbrev pub touching_at : Board → ℕ → List Clause
touching_at b x = map (touch x) (neighbours b x east_south)

abbrev pub touching : Board → List Clause
touching b = each (opens b) (touching_at b)

-- 2. Clue lines: a clue in cell a with number n. Past a cell c of its line, from j cells counted to j + 1:
-- [−T(j,t) −Zc T(j+1,t+1)], which for t = n is [−T(j,n) −Zc]
abbrev pub one_more : Bool → ℕ → ℕ → ℕ → ℕ → Clause
one_more true a j t c = not_both (T a j t) (Z c)
one_more false a j t c = minus (T a j t) ∷ minus (Z c) ∷ plus (T a (suc j) (suc t)) ∷ []

-- if c is not open [−T(j,t) T(j+1,t)], if open [−T(j,t) Zc T(j+1,t)] followed by one more
abbrev pub count_step : Bool → ℕ → ℕ → ℕ → ℕ → ℕ → List Clause
count_step false a n j c t = (minus (T a j t) ∷ plus (T a (suc j) t) ∷ []) ∷ []
count_step true a n j c t = (minus (T a j t) ∷ plus (Z c) ∷ plus (T a (suc j) t) ∷ []) ∷ one_more (eqb t n) a j t c ∷ []

-- past a cell: t = 0 to n, then each pair of the next T
abbrev pub cell_parts : (ℕ → Bool) → ℕ → ℕ → ℕ → ℕ → List (List Clause)
cell_parts is_open a n j c = each (up_to (suc n)) (count_step (is_open c) a n j c) ∷ pairs (counts_at a n (suc j)) ∷ []

abbrev pub cell_clauses : (ℕ → Bool) → ℕ → ℕ → ℕ → ℕ → List Clause
cell_clauses is_open a n j c = joined (cell_parts is_open a n j c)

-- the cells of the line after the first j
abbrev pub line_clauses : (ℕ → Bool) → ℕ → ℕ → ℕ → List ℕ → List Clause
line_clauses is_open a n j [] = []
line_clauses is_open a n j (c ∷ cs) = cell_clauses is_open a n j c ++ line_clauses is_open a n (suc j) cs

-- [−T(0,t)]
abbrev pub none_black : ℕ → ℕ → Clause
none_black a t = minus (T a 0 t) ∷ []

-- [T(0,0)]; [−T(0,t)] for t = 1 to n; the line; last [T(L,n)]
abbrev pub clue_parts : (ℕ → Bool) → ℕ → ℕ → List ℕ → List (List Clause)
clue_parts is_open a n cs =
    ((plus (T a 0 0) ∷ []) ∷ []) ∷
    map (none_black a) (from 1 n) ∷
    line_clauses is_open a n 0 cs ∷
    ((plus (T a (length cs) n) ∷ []) ∷ []) ∷
    []

abbrev pub clue_clauses : (ℕ → Bool) → Clue → List Clause
clue_clauses is_open c = joined (clue_parts is_open c.cell c.number c.line)

abbrev pub clue_lines : Board → List Clause
clue_lines b = each b.clues (clue_clauses b.is_open)

-- 3. Links. y→x, seen from x
abbrev pub back : Neighbour → Variable
back y = E y.cell (opposite y.way)

-- all incoming, by the direction in which their origin is
abbrev pub incoming : Board → ℕ → List Variable
incoming b x = map back (neighbours b x directions)

-- [−e −Zx] [−e −Zy]
abbrev pub both_white : ℕ → Neighbour → List Clause
both_white x y = not_both (out x y) (Z x) ∷ not_both (out x y) (Z y.cell) ∷ []

-- [−(x→y) −(y→x)]
abbrev pub one_way : ℕ → Neighbour → Clause
one_way x y = not_both (out x y) (back y)

abbrev pub link_parts : Board → ℕ → List (List Clause)
link_parts b x =
    each (neighbours b x directions) (both_white x) ∷
    (or_any (Z x) (outgoing b x) ∷ []) ∷
    pairs (outgoing b x) ∷
    (or_any (Z x) (incoming b x) ∷ []) ∷
    pairs (incoming b x) ∷
    map (one_way x) (neighbours b x east_south) ∷
    []

abbrev pub links_at : Board → ℕ → List Clause
links_at b x = joined (link_parts b x)

abbrev pub links : Board → List Clause
links b = each (opens b) (links_at b)

-- 4. Start: [−Sx Zy], for each y of lower rank
abbrev pub black_before : ℕ → ℕ → Clause
black_before x y = minus (S x) ∷ plus (Z y) ∷ []

-- [−Sx x→east], or [−Sx] without an open east neighbour
abbrev pub eastward : Board → ℕ → Clause
eastward b x = minus (S x) ∷ map plus (map (out x) (neighbours b x (east ∷ [])))

abbrev pub start_parts : Board → ℕ → List (List Clause)
start_parts b x =
    (not_both (S x) (Z x) ∷ []) ∷
    map (black_before x) (lower b x) ∷
    (eastward b x ∷ []) ∷
    []

abbrev pub start_at : Board → ℕ → List Clause
start_at b x = joined (start_parts b x)

-- [all S]
abbrev pub some_start : Board → Clause
some_start b = map plus (starts b)

abbrev pub start : Board → List Clause
start b = some_start b ∷ each (opens b) (start_at b)

-- 5. Distance. [−Zx −Q(x,k)]
abbrev pub no_distance : ℕ → ℕ → Clause
no_distance x k = not_both (Z x) (Q x k)

-- [−Sx −Q(x,k)]
abbrev pub not_ahead : ℕ → ℕ → Clause
not_ahead x k = not_both (S x) (Q x k)

-- [−(x→y) −Q(x,k) Q(y,k−1)]
abbrev pub nearer : ℕ → Neighbour → ℕ → Clause
nearer x y k = minus (out x y) ∷ minus (Q x k) ∷ plus (Q y.cell (k - 1)) ∷ []

-- k = 1 to F − 1
abbrev pub from_one : Board → List ℕ
from_one b = from 1 (open_count b - 1)

-- for each k
abbrev pub nearer_each : Board → ℕ → Neighbour → List Clause
nearer_each b x y = map (nearer x y) (from_one b)

abbrev pub distance_parts : Board → ℕ → List (List Clause)
distance_parts b x =
    (or_any (Z x) (distances_at b x) ∷ []) ∷
    map (no_distance x) (up_to (open_count b)) ∷
    ((minus (S x) ∷ plus (Q x 0) ∷ []) ∷ (plus (S x) ∷ minus (Q x 0) ∷ []) ∷ []) ∷
    map (not_ahead x) (from_one b) ∷
    each (neighbours b x directions) (nearer_each b x) ∷
    []

abbrev pub distance_at : Board → ℕ → List Clause
distance_at b x = joined (distance_parts b x)

abbrev pub distance : Board → List Clause
distance b = each (opens b) (distance_at b)

abbrev pub families : Board → List (List Clause)
families b = touching b ∷ clue_lines b ∷ links b ∷ start b ∷ distance b ∷ []

unfoldable pub clauses : Board → List Clause
clauses b = joined (families b)

-- literals are signed, minus for "not"; 0 closes a clause
abbrev pub signed : Board → Literal → ℤ
signed b (plus v) = pos (number b v)
signed b (minus v) = neg_ℤ (pos (number b v))

abbrev pub written : Board → Clause → List ℤ
written b c = map (signed b) c ++ (pos 0 ∷ [])

-- some clauses, one after the other
abbrev pub list_of : Board → List Clause → List ℤ
list_of b cs = each cs (written b)

-- they are n clauses and e elements, with the zeros that close them
pub record Sized (b : Board) (cs : List Clause) (n e : ℕ) : Type 0 where
  pub clauses : length cs ≡ n
  pub elements : length (list_of b cs) ≡ e

-- a grid's clauses as the encoder writes them
unfoldable pub clause_list : Board → List ℤ
clause_list b = list_of b (clauses b)
