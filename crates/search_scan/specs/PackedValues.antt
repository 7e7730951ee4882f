-- While a call runs, byte k of the marks has the mark of entry k in its lowest bit, and above it the value of variable k + 1.
use Rattle.std.specs.Prelude.{ℕ, zero, suc, ◌+◌, ◌*◌, ◌/◌, ◌%◌, ◌<◌, eqb, ℤ, length, get_or, ◌≡◌, false, cond, List, map, Option, None, Some}
use Rattle.answers.specs.Lists.{up_to}
use Rattle.cnf.specs.Literals.{beyond_at}
use Rattle.search.specs.Trail.{Value, True, False, Unassigned, Values}

-- 1 true, 2 false, else unassigned
abbrev pub value_of : ℕ → Value
value_of n = cond (eqb n 1) True (cond (eqb n 2) False Unassigned)

-- the values of the variables, above the marks
abbrev pub packed_values : List ℕ → Values
packed_values ms zero = Unassigned
packed_values ms (suc k) = value_of (get_or ms k 0 / 2)

-- the marks, in the lowest bits
abbrev pub bare_marks : List ℕ → List ℕ
bare_marks ms = map (λ m. m % 2) ms

-- the number of a value: 1 true, 2 false, 0 unassigned
abbrev pub number_of : Value → ℕ
number_of True = 1
number_of False = 2
number_of Unassigned = 0

-- bare marks, with the numbers of the variables' values above them
abbrev pub packed : Values → List ℕ → List ℕ
packed w ms = map (λ k. get_or ms k 0 + number_of (w (suc k)) * 2) (up_to (length ms))

-- the last of the first n marks that is 1
unfoldable pub last_marked : List ℕ → ℕ → Option ℕ
last_marked ms zero = None
last_marked ms (suc n) =
    let before : Option ℕ = last_marked ms n in
    cond (eqb (get_or ms n 0 % 2) 1) (Some n) before

-- no literal of the list is beyond V
pub record Within (v : ℕ) (ls : List ℤ) : Type 0 where
  pub each : (i : ℕ) → i < length ls → beyond_at v ls i ≡ false
