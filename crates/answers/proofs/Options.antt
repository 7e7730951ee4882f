-- Laws of an `Option`: something is not nothing. Assumes nothing.
use mathlib.Core.Path.{◌≡◌}
use Rattle.std.specs.Prelude.{None, Some}

pub some-none : {A : Type 0} (x : A) → Some x ≡ None → ⊥
some-none x e = cc
