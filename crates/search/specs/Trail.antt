-- The trail of "Search": its entries, its image in the lent slices, the values that it gives, and the assignments open at it.
use Rattle.std.specs.Prelude.{ℕ, zero, suc, ◌-◌, eqb, ℤ, pos, negsuc, nat_abs, length, get_or, replicate, ◌≡◌, Bool, true, false, cond, ◌⊎◌, List, [], ◌∷◌}
use Rattle.answers.specs.Lists.{All}
use Rattle.answers.specs.Lent.{filled}
use Rattle.cnf.specs.Clauses.{value}

-- a used entry is a literal marked 1 (choice, other value untried) or 0; and, by document 02's E10, for an entry appended by a clause that clause's number
-- from 1, for a choice or a negated choice 0
pub record Entry : Type 0 where
  pub literal : ℤ
  pub mark : ℕ
  pub number : ℕ

abbrev pub entry : ℤ → ℕ → ℕ → Entry
entry l m n = record { literal = l; mark = m; number = n }

-- the used entries, the latest first
abbrev pub Trail : Type 0
Trail = List Entry

-- the lent slices that hold a trail
pub record Slices : Type 0 where
  pub trail : List ℤ
  pub marks : List ℕ
  pub numbers : List ℕ

abbrev pub slices : List ℤ → List ℕ → List ℕ → Slices
slices trail marks numbers = record { trail = trail; marks = marks; numbers = numbers }

-- each of them has V elements
pub record HasLength (v : ℕ) (s : Slices) : Type 0 where
  pub trail : length s.trail ≡ v
  pub marks : length s.marks ≡ v
  pub numbers : length s.numbers ≡ v

-- each is written from its first place on; elements past what is written are untouched
abbrev pub filled_slices : Slices → Slices → Slices
filled_slices before s = slices (filled before.trail s.trail) (filled before.marks s.marks) (filled before.numbers s.numbers)

-- one field of the entries in the order of a slice, the earliest first, and after the latest the rest
unfoldable pub laid : {A : Type 0} → (Entry → A) → Trail → List A → List A
laid field [] rest = rest
laid field (e ∷ t) rest = laid field t (field e ∷ rest)

-- one field of the entries in a slice of V elements, with what stands in its unused ones
abbrev pub image_by : {A : Type 0} → (Entry → A) → A → ℕ → Trail → List A
image_by field unused v t = laid field t (replicate (v - length t) unused)

-- the image of a trail in slices of V elements: unused entries, marks and numbers are 0
abbrev pub image : ℕ → Trail → Slices
image v t = slices (image_by (λ e. e.literal) (pos 0) v t) (image_by (λ e. e.mark) 0 v t) (image_by (λ e. e.number) 0 v t)

-- the trail read from slices with a used count
abbrev pub entry_at : Slices → ℕ → Entry
entry_at s i = entry (get_or s.trail i (pos 0)) (get_or s.marks i 0) (get_or s.numbers i 0)

unfoldable pub trail_of : Slices → ℕ → Trail
trail_of s zero = []
trail_of s (suc used) = entry_at s used ∷ trail_of s used

-- a variable or a literal is true, false or unassigned
pub data Value : Type 0 where
  True : Value
  False : Value
  Unassigned : Value

abbrev pub is_true : Value → Bool
is_true True = true
is_true False = false
is_true Unassigned = false

abbrev pub is_false : Value → Bool
is_false True = false
is_false False = true
is_false Unassigned = false

abbrev pub is_unassigned : Value → Bool
is_unassigned True = false
is_unassigned False = false
is_unassigned Unassigned = true

-- the value of the negated literal
abbrev pub opposite : Value → Value
opposite True = False
opposite False = True
opposite Unassigned = Unassigned

-- the value of its variable where a literal is true
abbrev pub made : ℤ → Value
made (pos n) = True
made (negsuc n) = False

-- the value of a variable under a trail: the literals of its entries are true
unfoldable pub variable_value : Trail → ℕ → Value
variable_value [] n = Unassigned
variable_value (e ∷ t) n =
    let rest : Value = variable_value t n in
    cond (eqb (nat_abs e.literal) n) (made e.literal) rest

-- values of the variables, such as `variable_value t`
abbrev pub Values : Type 0
Values = ℕ → Value

-- the value of a literal
abbrev pub literal_value : Values → ℤ → Value
literal_value w (pos n) = w n
literal_value w (negsuc n) = opposite (w (suc n))

-- an assignment agrees with an entry if it makes its literal true
abbrev pub Agrees : List Bool → Trail → Type 0
Agrees a t = All (λ e. value a e.literal ≡ true) t

-- it agrees with all before some entry marked 1 and differs at that one
abbrev pub Turned : List Bool → Trail → Type 0
Turned a [] = ⊥
Turned a (e ∷ t) = ((e.mark ≡ 1) × (value a e.literal ≡ false) × Agrees a t) ⊎ Turned a t

-- open at a trail: the one or the other
abbrev pub Open : List Bool → Trail → Type 0
Open a t = Agrees a t ⊎ Turned a t

-- which of the n variables after the first k are true
unfoldable pub values_from : Trail → ℕ → ℕ → List Bool
values_from t k zero = []
values_from t k (suc n) = is_true (variable_value t (suc k)) ∷ values_from t (suc k) n

-- a trail with all V entries used is also the assignment that makes its literals true: its V values
abbrev pub values_of : ℕ → Trail → List Bool
values_of v t = values_from t 0 v
