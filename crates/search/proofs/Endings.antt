-- An ending is known by its number. Assumes nothing.
use Prim.Native.Nat.{ℕ}
use lib.Dec.{eqb}
use borrow.Author.Tests.{eq-eqb}
use mathlib.Core.Path.{◌≡◌, refl, sym, ◌∙◌, ap}
use mathlib.Core.Bool.{false, cond}
use Rattle.answers.proofs.Bools.{clash}
use Rattle.search.specs.Run.{Ending, Found, None, Halted, ending_number}

abbrev ending_of : ℕ → Ending
ending_of n = cond (eqb n 1) Found (cond (eqb n 2) None Halted)

back : (x : Ending) → ending_of (ending_number x) ≡ x
back Found = refl
back None = refl
back Halted = refl

pub same_ending : (x y : Ending) → ending_number x ≡ ending_number y → x ≡ y
same_ending x y e = sym (back x) ∙ ap ending_of e ∙ back y

-- none is two
pub other_ending : {A : Type 0} {x y : Ending} → x ≡ y → eqb (ending_number x) (ending_number y) ≡ false → A
other_ending {x = x} {y = y} e q = clash (eq-eqb (ending_number x) (ending_number y) (ap ending_number e)) q
