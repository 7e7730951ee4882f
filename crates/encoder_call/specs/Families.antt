-- Families 1, 3, 4 and 5: what each says of an open cell, by clauses and by numbers.
use Rattle.std.specs.Prelude.{ℕ, ℤ, List}
use Rattle.rules.specs.Board.{Board}
use Rattle.encoder.specs.Clauses.{Clause, touching_at, links_at, start_at, distance_at}
use Rattle.encoder_numbers.specs.declared.CellNumbers.{CellNumbers}
use Rattle.encoder_cells.specs.Cell.{touching_parts, link_parts, start_parts, distance_parts}
use Rattle.encoder_call.specs.declared.Family.{Family}
use Rattle.encoder_call.specs.declared.Family.TheVariants.{Touching, Links, Start, Distance}

abbrev pub family_at : Family → Board → ℕ → List Clause
family_at Touching = touching_at
family_at Links = links_at
family_at Start = start_at
family_at Distance = distance_at

-- with F open cells
abbrev pub family_parts : Family → ℕ → CellNumbers → List (List ℤ)
family_parts Touching f x = touching_parts x
family_parts Links f x = link_parts x
family_parts Start f x = start_parts x
family_parts Distance f x = distance_parts f x
