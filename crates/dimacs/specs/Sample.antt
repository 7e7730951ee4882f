-- Document 01's sample of a text.
use Rattle.std.specs.Prelude.{ℕ, List, [], ◌∷◌}

-- the text of the clauses of a grid of one open cell: what program 1 prints for it
abbrev pub one_cell_text : List ℕ
one_cell_text =
    -- p cnf 3 9
    112 ∷ 32 ∷ 99 ∷ 110 ∷ 102 ∷ 32 ∷ 51 ∷ 32 ∷ 57 ∷ 10 ∷
    -- 1 0
    49 ∷ 32 ∷ 48 ∷ 10 ∷
    -- 1 0
    49 ∷ 32 ∷ 48 ∷ 10 ∷
    -- 2 0
    50 ∷ 32 ∷ 48 ∷ 10 ∷
    -- -2 -1 0
    45 ∷ 50 ∷ 32 ∷ 45 ∷ 49 ∷ 32 ∷ 48 ∷ 10 ∷
    -- -2 0
    45 ∷ 50 ∷ 32 ∷ 48 ∷ 10 ∷
    -- 1 3 0
    49 ∷ 32 ∷ 51 ∷ 32 ∷ 48 ∷ 10 ∷
    -- -1 -3 0
    45 ∷ 49 ∷ 32 ∷ 45 ∷ 51 ∷ 32 ∷ 48 ∷ 10 ∷
    -- -2 3 0
    45 ∷ 50 ∷ 32 ∷ 51 ∷ 32 ∷ 48 ∷ 10 ∷
    -- 2 -3 0
    50 ∷ 32 ∷ 45 ∷ 51 ∷ 32 ∷ 48 ∷ 10 ∷
    []
