-- "First byte where no accepted text can go on, or the text's length if it ends too soon", for any notion of an accepted text,
-- and for any automaton over bytes.
use Rattle.std.specs.Prelude.{ℕ, suc, ◌≤◌, ◌<◌, length, take, ◌≡◌, Bool, List, ◌++◌, Option, None, Some}
use Rattle.dimacs.specs.Automaton.{refused_from}

-- the beginning of some accepted text
abbrev pub Begins : (List ℕ → Type 0) → List ℕ → Type 0
Begins Taken text = (rest : List ℕ) × Taken (text ++ rest)

-- the place k of a text that is not accepted
pub record Refused (Taken : List ℕ → Type 0) (text : List ℕ) (k : ℕ) : Type 0 where
  pub within : k ≤ length text
  pub before : Begins Taken (take k text)
  pub inside : k < length text → Begins Taken (take (suc k) text) → ⊥
  pub too_soon : k ≡ length text → Begins Taken text × (Taken text → ⊥)

-- an automaton over bytes in which every live state has a completing text
pub record Automaton (S : Type 0) : Type 1 where
  pub step : S → ℕ → Option S
  pub accepts : S → Bool
  pub start : S
  pub Live : S → Type 0
  pub begun : Live start
  pub kept : {s t : S} (b : ℕ) → Live s → step s b ≡ Some t → Live t
  pub completes : {s : S} → Live s → (rest : List ℕ) × (refused_from step accepts s rest 0 ≡ None)
