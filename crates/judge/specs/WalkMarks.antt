-- The walk in code: cells are marked as it passes them.
use Rattle.std.specs.Prelude.{ℕ, eqb, get_or, set, Bool, ◌&&◌, List, [], ◌∷◌}
use Rattle.rules.specs.Board.{Board}
use Rattle.rules.specs.Judge.{white_at}

-- 1 at each of the cells
unfoldable pub ones_at : List ℕ → List ℕ → List ℕ
ones_at [] ms = ms
ones_at (x ∷ l) ms = ones_at l (set ms x 1)

-- a white cell without a mark, where the cells of the walk are marked
abbrev pub unseen_at : Board → List ℕ → List ℕ → ℕ → Bool
unseen_at b ds seen x = eqb (get_or seen x 0) 0 && white_at b ds x
