-- The values of a window of variables, those from `low` on and below `high`: a byte for each. What they show of an entry's number.
use Rattle.std.specs.Prelude.{ℕ, ◌+◌, ◌-◌, ◌/◌, ◌%◌, eqb, leb, ltb, ℤ, nat_abs, length, get_or, set, Bool, not, cond, ◌&&◌, ◌||◌, List, map}
use Rattle.answers.specs.Lists.{up_to}
use Rattle.cnf.specs.Literals.{code_of}
use Rattle.search.specs.Trail.{Slices, Values, entry_at, trail_of, variable_value}
use Rattle.search.specs.Step.{fails}
use Rattle.search.specs.Reasons.{wrong_number}
use Rattle.search_scan.specs.PackedValues.{number_of}

abbrev pub is_inside : ℕ → ℕ → ℕ → Bool
is_inside low high x = leb low x && ltb x high

-- the bytes of n variables from low on: 0 unassigned, 1 true, 2 false
abbrev pub bytes_of : Values → ℕ → ℕ → List ℕ
bytes_of w low n = map (λ k. number_of (w (low + k))) (up_to n)

-- the literal with a code is made true, if its variable has a byte
abbrev pub noted : ℕ → List ℕ → ℕ → List ℕ
noted low bs k = cond (leb low (k / 2)) (set bs (k / 2 - low) (1 + k % 2)) bs

-- the literal with a code is false by its variable's byte, if it has one
abbrev pub code_passes : ℕ → List ℕ → ℕ → Bool
code_passes low bs k = not (is_inside low (low + length bs) (k / 2)) || eqb (get_or bs (k / 2 - low) 0) (2 - k % 2)

abbrev pub byte_passes : ℕ → List ℕ → ℤ → Bool
byte_passes low bs l = code_passes low bs (code_of l)

-- a literal is false by the values themselves, if its variable is in the window
abbrev pub passes : ℕ → ℕ → Values → ℤ → Bool
passes low high w l = not (is_inside low high (nat_abs l)) || fails w l

-- an entry whose number is wrong as far as the window shows: the other literals of its clause are looked at there alone
abbrev pub wrong_in : ℕ → ℕ → List ℤ → Slices → ℕ → Bool
wrong_in low high ls s i = wrong_number (passes low high (variable_value (trail_of s i))) ls (entry_at s i)
