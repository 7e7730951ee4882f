-- What the entries are read against.
use Rattle.std.specs.Prelude.{ℕ, ◌≤◌, eqb, ℤ, length, get_or, Bool, not, List}
use Rattle.cnf.specs.Literals.{most_variables}
use Rattle.search.specs.Trail.{Slices}
use Rattle.search_scan.specs.PackedValues.{Within}

-- each of the slices has n entries
pub record HasEntries (s : Slices) (n : ℕ) : Type 0 where
  pub trail : n ≤ length s.trail
  pub marks : n ≤ length s.marks
  pub numbers : n ≤ length s.numbers

-- what the entries are read against: V is allowed, no literal of the list is beyond it, and there are n entries
pub record Readable (v : ℕ) (ls : List ℤ) (s : Slices) (n : ℕ) : Type 0 where
  pub few : v ≤ most_variables
  pub inside : Within v ls
  pub entries : HasEntries s n

-- an entry with a number
abbrev pub numbered_at : List ℕ → ℕ → Bool
numbered_at ns i = not (eqb (get_or ns i 0) 0)
