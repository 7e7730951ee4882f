-- What the parts of the writer put down.
use Rattle.std.specs.Prelude.{ℕ, ◌^◌, ltb, ℤ, cond, List, [], ◌∷◌, ◌++◌, Option, Some, None}
use Rattle.dimacs.specs.Text.{signed, behind}

-- an element and the byte behind it
abbrev pub written : ℤ → List ℕ
written l = signed l ++ (behind l ∷ [])

-- a count of bytes, if it is below 2^64
abbrev pub counted : ℕ → Option ℕ
counted n = cond (ltb n (2 ^ 64)) (Some n) None
