-- The length of a drawing's text. Assumes nothing.
use Prim.Native.Nat.{ℕ, suc, ◌*◌}
use native.Mathlib.Omega.{arith}
use lib.ListN.{length}
use mathlib.Core.Path.{◌≡◌, refl}
use mathlib.Core.List.{List, [], ◌∷◌}
use Rattle.answers.proofs.Putting.{putting}
use Rattle.program_text.specs.Lines.{drawing_from}

-- three bytes a cell
pub drawing_length : (columns x : ℕ) (ds : List ℕ) → length (drawing_from columns x ds) ≡ length ds * 3
unfolding drawing_from
drawing_length columns x [] = refl
drawing_length columns x (d ∷ ds) =
    let e = drawing_length columns (suc x) ds in
    omega arith

-- with these the check finds what the cells put
pub ruleset cells = (putting, drawing_length)
