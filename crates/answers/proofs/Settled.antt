-- Row 6, and what a call with a lent buffer tells and leaves once all rows are settled. Assumes nothing.
use Prim.Native.Nat.{ℕ, ◌-◌, ◌≤◌, ◌<◌, ◌^◌}
use native.Mathlib.Omega.{arith}
use borrow.Author.Tests.{ne_eqb, lt-ltb, le-ltb, ltb-false}
use lib.Dec.{ltb}
use mathlib.Core.Path.{◌≡◌, ◌∙◌, ap}
use mathlib.Core.Bool.{cond}
use Rattle.std.specs.Prelude.{None, Some}
use mathlib.Core.List.{List}
use Rattle.answers.specs.declared.Outcome.{Outcome}
use Rattle.answers.specs.Outcome.{Row, first_refusal}
use Rattle.answers.specs.Lent.{capped, too_short, unless_refused}
use Rattle.answers.proofs.First.{not_found}
use Rattle.answers.proofs.Rows.{RowsGive, rows_give}

-- a count below 2^64 against the room
module _ (room : ℕ) {needed : ℕ} where
  pub short_over : room < 2 ^ 64 → 2 ^ 64 ≤ needed → too_short room needed ≡ Some (2 ^ 64 - 1)
  short_over r h = let l : room < needed = omega arith in rw (lt-ltb room needed l, le-ltb needed (2 ^ 64) h)

  pub short_by : room < needed → needed < 2 ^ 64 → too_short room needed ≡ Some needed
  short_by l h = rw (lt-ltb room needed l, lt-ltb needed (2 ^ 64) h)

  pub long_enough : needed ≤ room → too_short room needed ≡ None
  long_enough l = rw (le-ltb room needed l)

  pub enough : too_short room needed ≡ None → needed ≤ room
  enough e = ltb-false room needed (not_found (ltb room needed) (capped needed) e)

-- a refusal leaves all as it was
pub untouched : {A : Type 0} (t : Outcome) (before after : A) → (t.number ≡ 0 → ⊥) → unless_refused t before after ≡ before
untouched t before after n = ap (λ b. cond b after before) (ne_eqb t.number 0 n)

-- what it tells, and what it leaves in the buffer
pub settles : {A : Type 0} (before after : A) {new : A} {t u : Outcome} → u ≡ t → new ≡ unless_refused u before after
    → (u ≡ t) × (new ≡ unless_refused t before after)
settles before after e l = (e, l ∙ ap (λ s. unless_refused s before after) e)

pub settled : {A : Type 0} (rows : List Row) (t : Outcome) (before after : A) {new : A} {u : Outcome} → RowsGive rows t u → new ≡ unless_refused u before after
    → (u ≡ first_refusal rows t) × (new ≡ unless_refused (first_refusal rows t) before after)
settled rows t before after g l = settles before after (rows_give g) l
