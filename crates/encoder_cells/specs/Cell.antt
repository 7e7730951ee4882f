-- The clauses of an open cell, family by family, by the numbers of their variables. 0 stands for a variable that is not there.
use Rattle.std.specs.Prelude.{ℕ, zero, suc, ◌+◌, ◌-◌, ℤ, pos, List, [], ◌∷◌, ◌++◌}
use Rattle.answers.specs.Lists.{joined}
use Rattle.encoder_shapes.specs.Shapes.{no, not_both, implies, or_not, or_at_least_one, each_not_both, each_implies, each_both_imply}
use Rattle.encoder_numbers.specs.declared.NeighbourNumbers.{NeighbourNumbers}
use Rattle.encoder_numbers.specs.declared.CellNumbers.{CellNumbers}

-- nothing for a variable that is not there
abbrev pub if_present : ℕ → List ℤ → List ℤ
if_present zero xs = []
if_present (suc n) xs = xs

-- a literal, and [−a −b], where they are there
abbrev pub literal_if_present : ℕ → List ℤ
literal_if_present a = if_present a (pos a ∷ [])

abbrev pub not_both_if_present : ℕ → ℕ → List ℤ
not_both_if_present a b = if_present a (if_present b (not_both a b))

-- [z, those of four that are there], and the pairs of these
abbrev pub any_parts : ℕ → ℕ → ℕ → ℕ → ℕ → List (List ℤ)
any_parts z n e s w = (pos z ∷ []) ∷ literal_if_present n ∷ literal_if_present e ∷ literal_if_present s ∷ literal_if_present w ∷ (pos 0 ∷ []) ∷ []

abbrev pub pair_parts : ℕ → ℕ → ℕ → ℕ → List (List ℤ)
pair_parts n e s w = not_both_if_present n e ∷ not_both_if_present n s ∷ not_both_if_present n w ∷ not_both_if_present e s ∷ not_both_if_present e w ∷ not_both_if_present s w ∷ []

-- 1. Touching: [−Zx −Zy], east then south
abbrev pub touching_parts : CellNumbers → List (List ℤ)
touching_parts x = not_both_if_present x.black x.east.black ∷ not_both_if_present x.black x.south.black ∷ []

-- 3. Links: [−e −Zx] [−e −Zy]
abbrev pub white_ends : ℕ → NeighbourNumbers → List ℤ
white_ends z y = if_present y.out (not_both y.out z ++ not_both y.out y.black)

abbrev pub white_parts : CellNumbers → List (List ℤ)
white_parts x = white_ends x.black x.north ∷ white_ends x.black x.east ∷ white_ends x.black x.south ∷ white_ends x.black x.west ∷ []

-- [−(x→y) −(y→x)], east then south
abbrev pub one_way_parts : CellNumbers → List (List ℤ)
one_way_parts x = not_both_if_present x.east.out x.east.back ∷ not_both_if_present x.south.out x.south.back ∷ []

abbrev pub link_parts : CellNumbers → List (List ℤ)
link_parts x =
    joined (white_parts x) ∷
    joined (any_parts x.black x.north.out x.east.out x.south.out x.west.out) ∷
    joined (pair_parts x.north.out x.east.out x.south.out x.west.out) ∷
    joined (any_parts x.black x.north.back x.east.back x.south.back x.west.back) ∷
    joined (pair_parts x.north.back x.east.back x.south.back x.west.back) ∷
    joined (one_way_parts x) ∷
    []

-- 4. Start: [−Sx x→east], or [−Sx]
abbrev pub eastward_parts : ℕ → ℕ → List (List ℤ)
eastward_parts s e = (no s ∷ []) ∷ literal_if_present e ∷ (pos 0 ∷ []) ∷ []

-- [−Sx −Zx]; [−Sx Zy] for those of lower rank, whose numbers are 1 to the rank of x
abbrev pub start_parts : CellNumbers → List (List ℤ)
start_parts x = not_both x.start x.black ∷ each_implies x.start 1 x.rank ∷ joined (eastward_parts x.start x.east.out) ∷ []

-- 5. Distance, with F open cells: [−(x→y) −Q(x,k) Q(y,k−1)] for k = 1 to F − 1
abbrev pub nearer : ℕ → ℕ → NeighbourNumbers → List ℤ
nearer q f y = if_present y.out (each_both_imply y.out (q + 1) y.distance (f - 1))

abbrev pub nearer_parts : ℕ → CellNumbers → List (List ℤ)
nearer_parts f x =
    nearer x.distance f x.north ∷ nearer x.distance f x.east ∷ nearer x.distance f x.south ∷ nearer x.distance f x.west ∷ []

abbrev pub distance_parts : ℕ → CellNumbers → List (List ℤ)
distance_parts f x =
    or_at_least_one x.black x.distance f ∷
    each_not_both x.black x.distance f ∷
    implies x.start x.distance ∷
    or_not x.start x.distance ∷
    each_not_both x.start (x.distance + 1) (f - 1) ∷
    joined (nearer_parts f x) ∷
    []
