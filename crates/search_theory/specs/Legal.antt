-- Legal trails: no used entry has a fault of row 18 (`legal_exactly`). A search asks row 22 too: Reasons.antt.
use Rattle.std.specs.Prelude.{ℕ, ◌≤◌, ℤ, nat_abs, ◌≡◌, false, [], ◌∷◌}
use Rattle.cnf.specs.Literals.{closes, beyond}
use Rattle.search.specs.Trail.{Entry, Trail, Unassigned, variable_value}

-- a literal of one of V variables
pub record Proper (v : ℕ) (l : ℤ) : Type 0 where
  pub nonzero : closes l ≡ false
  pub within : beyond v l ≡ false

-- an entry that may come after a trail: such a literal, on a variable that no entry before it is on, and a mark 0 or 1
pub record LegalEntry (v : ℕ) (t : Trail) (e : Entry) : Type 0 where
  pub proper : Proper v e.literal
  pub free : variable_value t (nat_abs e.literal) ≡ Unassigned
  pub mark_small : e.mark ≤ 1

-- what holds of each entry of a trail, given the entries before it
abbrev pub EachEntry : (Trail → Entry → Type 0) → Trail → Type 0
EachEntry P [] = Unit
EachEntry P (e ∷ t) = P t e × EachEntry P t

abbrev pub Legal : ℕ → Trail → Type 0
Legal v t = EachEntry (LegalEntry v) t
