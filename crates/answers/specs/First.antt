-- "First": the least number below n at which a test holds, as the code seeks it. And "first" of a property, of numbers or of the elements of a list, for what
-- document 01 says without a test.
use Rattle.std.specs.Prelude.{ℕ, zero, suc, ◌≤◌, ◌<◌, ◌≡◌, Bool, true, false, List, ◌∷◌, Option, None, Some}
use Rattle.answers.specs.Lists.{All}

abbrev pub found : Bool → ℕ → Option ℕ → Option ℕ
found true a rest = Some a
found false a rest = rest

-- the first of two
abbrev pub or_else : Option ℕ → Option ℕ → Option ℕ
or_else None o = o
or_else (Some i) o = Some i

-- among the n numbers from a on
unfoldable pub first_from : (ℕ → Bool) → ℕ → ℕ → Option ℕ
first_from p a zero = None
first_from p a (suc n) = found (p a) a (first_from p (suc a) n)

abbrev pub first_where : (ℕ → Bool) → ℕ → Option ℕ
first_where p n = first_from p 0 n

-- m is the least number below n at which the test holds
pub record Least (p : ℕ → Bool) (n m : ℕ) : Type 0 where
  pub below : m < n
  pub holds : p m ≡ true
  pub first : (k : ℕ) → k < m → p k ≡ false

-- m is the first place below n at which the test holds, or n if there is none
pub record Until (p : ℕ → Bool) (n m : ℕ) : Type 0 where
  pub within : m ≤ n
  pub none_yet : (k : ℕ) → k < m → p k ≡ false
  pub stops : m < n → p m ≡ true

-- m is the least number below n with a property; `Least p` says it of the property that the test p holds
pub record LeastWith (P : ℕ → Type 0) (n m : ℕ) : Type 0 where
  pub below : m < n
  pub holds : P m
  pub first : (k : ℕ) → k < m → P k → ⊥

-- no number below n has it
abbrev pub NoneBelow : (ℕ → Type 0) → ℕ → Type 0
NoneBelow P n = (k : ℕ) → k < n → P k → ⊥

-- x is the first element of a list with a property, and k its index
pub data FirstIn {A : Type 0} (P : A → Type 0) : List A → ℕ → A → Type 0 where
  here : {x : A} {xs : List A} → P x → FirstIn P (x ∷ xs) 0 x
  later : {x y : A} {xs : List A} {k : ℕ} → (P y → ⊥) → FirstIn P xs k x → FirstIn P (y ∷ xs) (suc k) x

-- no element has it
abbrev pub NoneIn : {A : Type 0} → (A → Type 0) → List A → Type 0
NoneIn P xs = All (λ x. P x → ⊥) xs
