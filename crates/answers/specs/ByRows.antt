-- What it is for a call to go by the rows of document 01's table "Turned down".
use Rattle.std.specs.Prelude.{ℕ, ◌≡◌, ◌↔◌, List, ◌∷◌, map, None, Some}
use Rattle.answers.specs.declared.Outcome.{Outcome}
use Rattle.answers.specs.Lists.{All}
use Rattle.answers.specs.Outcome.{Row, row, refusal}

-- the first row whose cause is there has this number, and this value beside it
pub data FirstCause : List Row → ℕ → ℕ → Type 0 where
  here : {n v : ℕ} {rs : List Row} → FirstCause (row n (Some v) ∷ rs) n v
  later : {m n v : ℕ} {rs : List Row} → FirstCause rs n v → FirstCause (row m None ∷ rs) n v

-- how a call goes by its rows: their numbers in order, the rows, what the call tells (a number that is not 0 says that it is turned down), and the statement
-- that every lent buffer is as it was
pub record ByRows (order : List ℕ) (rows : List Row) (outcome : Outcome) (Untouched : Type 0) : Type 0 where
  pub in_order : map (λ (r : Row). r.number) rows ≡ order
  -- turned down with the number and the value of the first row whose cause is there, and with no others;
  pub turned_down : (n v : ℕ) → FirstCause rows n v ↔ (n ≡ 0 → ⊥) × (outcome ≡ refusal n v)
  -- every lent buffer stays as it was;
  pub kept : (outcome.number ≡ 0 → ⊥) → Untouched
  -- answered exactly if no row has its cause
  pub answered : All (λ (r : Row). r.beside ≡ None) rows ↔ outcome.number ≡ 0
