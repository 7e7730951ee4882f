-- What the three buffers hold while a search runs, and how an entry is written into them.
use Rattle.std.specs.Prelude.{ℕ, ◌+◌, ◌*◌, ◌-◌, ◌/◌, ◌%◌, ◌≤◌, ℤ, pos, length, get_or, set, ◌≡◌, List, []}
use Rattle.cnf.specs.Literals.{most_variables, code_of}
use Rattle.search.specs.Trail.{Trail, Slices, slices, filled_slices, image, trail_of, variable_value}
use Rattle.search_theory.specs.Legal.{Legal}
use Rattle.search_scan.specs.PackedValues.{bare_marks, packed}

-- the buffers without the values above the marks
abbrev pub bare_slices : Slices → Slices
bare_slices s = slices s.trail (bare_marks s.marks) s.numbers

-- the trail in the buffers
abbrev pub running_trail : Slices → ℕ → Trail
running_trail s used = trail_of (bare_slices s) used

-- the same with every number 0, for what asks neither for the numbers nor writes them: they give no values
abbrev pub packed_trail : List ℤ → List ℕ → ℕ → Trail
packed_trail ts ms used = running_trail (slices ts ms []) used

-- the marks, with the values above them that the first n entries give
abbrev pub packed_marks : List ℤ → List ℕ → ℕ → List ℕ
packed_marks ts ms n = packed (variable_value (packed_trail ts ms n)) (bare_marks ms)

-- they hold a legal trail, and above the marks the values that it gives
pub record Packed (v : ℕ) (ts : List ℤ) (ms : List ℕ) (used : ℕ) : Type 0 where
  pub few : v ≤ most_variables
  pub literals : length ts ≡ v
  pub bytes : length ms ≡ v
  pub legal : Legal v (packed_trail ts ms used)
  pub values : ms ≡ packed_marks ts ms used

-- the three buffers of a running search: such literals and marks, and as many clause numbers
pub record Running (v : ℕ) (s : Slices) (used : ℕ) : Type 0 where
  pub packed : Packed v s.trail s.marks used
  pub numbers : length s.numbers ≡ v

-- a trail is written into the buffers: its entries from the first place on, elements past them are untouched; and above the marks the values that it gives
abbrev pub with_trail : Trail → Slices → Slices
with_trail t s =
    let written : Slices = filled_slices (bare_slices s) (image (length t) t) in
    slices written.trail (packed (variable_value t) written.marks) written.numbers

-- a code's variable has a byte
pub record HasByte (ms : List ℕ) (k : ℕ) : Type 0 where
  pub positive : 2 ≤ k
  pub inside : k / 2 ≤ length ms

-- the number of a value is put above the mark in the byte of a code's variable
abbrev pub with_value : List ℕ → ℕ → ℕ → List ℕ
with_value ms k n = set ms (k / 2 - 1) (get_or ms (k / 2 - 1) 0 % 2 + n * 2)

-- a mark is put below the value in a byte
abbrev pub with_mark : List ℕ → ℕ → ℕ → List ℕ
with_mark ms i m = set ms i (get_or ms i 0 / 2 * 2 + m)

-- the literal at a place is made true
abbrev pub made_true : List ℤ → List ℕ → ℕ → List ℕ
made_true ts ms i = with_value ms (code_of (get_or ts i (pos 0))) (1 + code_of (get_or ts i (pos 0)) % 2)

-- an entry is used: its literal is made true, and it is marked
abbrev pub assigned : List ℤ → List ℕ → ℕ → ℕ → List ℕ
assigned ts ms i m = with_mark (made_true ts ms i) i m
