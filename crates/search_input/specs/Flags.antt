-- The variables met so far, of some that follow each other: a byte for each, 1 if it was met.
use Rattle.std.specs.Prelude.{ℕ, zero, suc, ◌-◌, eqb, leb, ltb, ℤ, get_or, set, ◌≡◌, Bool, cond, ◌&&◌, List}
use Rattle.cnf.specs.Literals.{variable_at}
use Rattle.search_input.specs.Entries.{used_at}

pub record NoFlag (fs : List ℕ) : Type 0 where
  pub each : (k : ℕ) → get_or fs k 0 ≡ 0

-- a variable, by the flags of the variables from low on
abbrev pub is_met : List ℕ → ℕ → ℕ → Bool
is_met fs low x = leb low x && eqb (get_or fs (x - low) 0) 1

abbrev pub met : List ℕ → ℕ → ℕ → List ℕ
met fs low x = cond (leb low x) (set fs (x - low) 1) fs

-- after the first n entries
unfoldable pub met_up_to : List ℕ → ℕ → List ℤ → ℕ → List ℕ
met_up_to fs low ts zero = fs
met_up_to fs low ts (suc n) = met (met_up_to fs low ts n) low (variable_at ts n)

-- after the entries up to the r-th, with it, and after all n if r is n
abbrev pub met_by : List ℕ → ℕ → List ℤ → ℕ → ℕ → List ℕ
met_by fs low ts n r = met_up_to fs low ts (cond (ltb r n) (suc r) n)

-- an entry on a variable from low on and below high, and on that of an earlier entry
abbrev pub again_at : List ℤ → ℕ → ℕ → ℕ → Bool
again_at ts low high i = leb low (variable_at ts i) && ltb (variable_at ts i) high && used_at ts i
