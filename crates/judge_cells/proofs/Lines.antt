-- Counting along a clue's line, from its far end towards the clue. Assumes nothing.
use Prim.Native.Nat.{ℕ, ◌+◌, ◌≤◌, ◌<◌}
use native.Mathlib.Omega.{arith}
use native.Mathlib.Numerals.{add-one}
use lib.ListN.{length, get_or, take, length-take}
use mathlib.Core.Path.{◌≡◌, sym}
use mathlib.Core.Bool.{Bool, true, false}
use Rattle.answers.specs.Lists.{tally, how_many}
use Rattle.answers.proofs.Lists.{many_most, many_next}
use Rattle.rules.specs.declared.Direction.{Direction}
use Rattle.rules.specs.Directions.{opposite, bit}
use Rattle.rules.specs.Record.{Puzzle, size}
use Rattle.rules.specs.Board.{neighbour, line}
use Rattle.rules.specs.Walk.{go}
use Rattle.rules.proofs.Lines.{line-inside, line-go}

-- after j cells: y comes next, and the count is how many of the j nearest the far end pass the test
pub record CountedTo (p : Puzzle) (d : Direction) (x : ℕ) (test : ℕ → Bool) (y count j : ℕ) : Type 0 where
  pub here : y ≡ get_or (line p d x) j x
  pub counted : count ≡ how_many test (take j (line p d x))

tally-bit : (t : Bool) (n : ℕ) → n + bit t ≡ tally t n
tally-bit true n = omega arith
tally-bit false n = omega arith

module _ {p : Puzzle} {d : Direction} {x : ℕ} {test : ℕ → Bool} {y count j : ℕ} (c : CountedTo p d x test y count j) where
  pub count_few : count ≤ j
  count_few = omega (arith, many_most test (take j (line p d x)), length-take j (line p d x))

  module _ (h : j < length (line p d x)) where
    pub count_inside : y < size p.grid
    count_inside = rw c.here (line-inside p d x h)

    pub count_on : {b z : ℕ} {back : Direction} → b ≡ bit (test y) → back ≡ opposite d → z ≡ go (neighbour p.grid) back y
        → CountedTo p d x test z (count + b) (j + 1)
    count_on e o q = rw (add-one j) (record {
      here = line-go p d x h c.here o q;
      counted = rw (e, tally-bit, c.here, c.counted) (sym (many_next test (line p d x) x j h));
    })
