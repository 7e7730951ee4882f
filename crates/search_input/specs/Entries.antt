-- What may be wrong with an entry of the trail handed in: by itself, or for the entries before it.
use Rattle.std.specs.Prelude.{ℕ, zero, suc, ◌≤◌, ◌<◌, eqb, ltb, ℤ, pos, get_or, Bool, false, ◌||◌, List}
use Rattle.cnf.specs.Literals.{closes, variable_at, beyond}

-- an entry that is 0, beyond V, or with a mark not 0 or 1
abbrev pub faulty_at : ℕ → List ℤ → List ℕ → ℕ → Bool
faulty_at v ts ms i = closes (get_or ts i (pos 0)) || beyond v (get_or ts i (pos 0)) || ltb 1 (get_or ms i 0)

-- one of the first n entries stands on a variable
unfoldable pub used_before : List ℤ → ℕ → ℕ → Bool
used_before ts zero x = false
used_before ts (suc n) x =
    let before : Bool = used_before ts n x in
    eqb (variable_at ts n) x || before

-- an entry on the variable of an earlier one
abbrev pub used_at : List ℤ → ℕ → Bool
used_at ts i = used_before ts i (variable_at ts i)

-- the first n entries stand on variables 1 to V
pub record Inside (v : ℕ) (ts : List ℤ) (n : ℕ) : Type 0 where
  pub low : (i : ℕ) → i < n → 1 ≤ variable_at ts i
  pub high : (i : ℕ) → i < n → variable_at ts i ≤ v
