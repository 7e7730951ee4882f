-- Where the clauses of a list begin: a place after every so many of them.
use Rattle.std.specs.Prelude.{ℕ, ◌+◌, ◌*◌, ◌-◌, ◌/◌, ◌≤◌, min, ℤ, length, ◌≡◌, List, map}
use Rattle.answers.specs.Lists.{up_to}
use Rattle.cnf.specs.Clauses.{clause_count, place_after}

-- n places: where the list begins, and then the clause after every `stride` clauses
abbrev pub places_by : ℕ → List ℤ → ℕ → List ℕ
places_by stride ls n = map (λ j. place_after (j * stride) ls) (up_to n)

-- the places for a table of this size: one for each clause and the list's end, or as many as it has
abbrev pub places_in : ℕ → List ℤ → List ℕ
places_in size ls = places_by (clause_count ls / size + 1) ls (min (clause_count ls) (size - 1) + 1)

-- a table of such places, at least one
pub record IsTable (ls : List ℤ) (stride : ℕ) (table : List ℕ) : Type 0 where
  pub step : 1 ≤ stride
  pub some : 1 ≤ length table
  pub holds : table ≡ places_by stride ls (length table)
