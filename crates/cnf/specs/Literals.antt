-- "Literals are signed 32-bit, minus for 'not'; 0 closes a clause", and the refusals of V and of a list against V.
use Rattle.std.specs.Prelude.{ℕ, zero, suc, ◌+◌, ◌*◌, ◌-◌, ltb, ℤ, pos, negsuc, nat_abs, length, get_or, Bool, true, false, not, List, Option, None}
use Rattle.answers.specs.First.{found, or_else, first_where}

-- 0 closes a clause
abbrev pub closes : ℤ → Bool
closes (pos zero) = true
closes (pos (suc n)) = false
closes (negsuc n) = false

-- a literal as a natural number: twice its variable, and 1 more for "not"; 0 for the closing 0
abbrev pub code_of : ℤ → ℕ
code_of (pos n) = n * 2
code_of (negsuc n) = suc n * 2 + 1

-- the variable of the literal at a place
abbrev pub variable_at : List ℤ → ℕ → ℕ
variable_at ls i = nat_abs (get_or ls i (pos 0))

-- V is at most 16,777,216
abbrev pub most_variables : ℕ
most_variables = 16777216

-- 17, for V alone: V too large
abbrev pub too_many_variables : ℕ → Bool
too_many_variables v = ltb most_variables v

-- a literal beyond V: its variable is no number from 1 to V, and it does not close (−2^31 is beyond each V that is allowed)
abbrev pub beyond : ℕ → ℤ → Bool
beyond v l = ltb v (nat_abs l)

abbrev pub beyond_at : ℕ → List ℤ → ℕ → Bool
beyond_at v ls i = beyond v (get_or ls i (pos 0))

-- a list that is not empty and does not end in 0
abbrev pub unclosed : List ℤ → Bool
unclosed ls = not (closes (get_or ls (length ls - 1) (pos 0)))

-- 16: literal beyond V, or list non-empty and not ending in 0; first such index, else list length
abbrev pub wrong_list : ℕ → List ℤ → Option ℕ
wrong_list v ls = or_else (first_where (beyond_at v ls) (length ls)) (found (unclosed ls) (length ls) None)
