-- Counting in a list, what holds of each or of some of its elements, lists without repeats, and lists made of numbers or of other lists.
use Rattle.std.specs.Prelude.{ℕ, zero, suc, ◌≡◌, Bool, true, false, ◌⊎◌}
use mathlib.Core.List.{List, [], ◌∷◌, ◌++◌, Memᴰ}

abbrev pub tally : Bool → ℕ → ℕ
tally true n = suc n
tally false n = n

-- how many pass the test
abbrev pub how_many : {A : Type 0} → (A → Bool) → List A → ℕ
how_many p [] = 0
how_many p (x ∷ xs) = tally (p x) (how_many p xs)

abbrev pub All : {A : Type 0} → (A → Type 0) → List A → Type 0
All P [] = Unit
All P (x ∷ xs) = P x × All P xs

abbrev pub Some : {A : Type 0} → (A → Type 0) → List A → Type 0
Some P [] = ⊥
Some P (x ∷ xs) = P x ⊎ Some P xs

-- x is an element
abbrev pub ◌∈◌ : {A : Type 0} → A → List A → Type 0
x ∈ xs = Memᴰ x xs

infix 50 ◌∈◌
-- no two elements have the same key
abbrev pub ApartBy : {A K : Type 0} → (A → K) → List A → Type 0
ApartBy key [] = Unit
ApartBy {A = A} key (x ∷ xs) = ((y : A) → y ∈ xs → key x ≡ key y → ⊥) × ApartBy key xs

-- no element twice
abbrev pub Apart : {A : Type 0} → List A → Type 0
Apart xs = ApartBy (λ x. x) xs

-- the numbers from a on, n of them
abbrev pub from : ℕ → ℕ → List ℕ
from a zero = []
from a (suc n) = a ∷ from (suc a) n

-- 0 to n − 1
abbrev pub up_to : ℕ → List ℕ
up_to n = from 0 n

-- for each x of the list, what f makes of it
abbrev pub each : {A B : Type 0} → List A → (A → List B) → List B
each [] f = []
each (x ∷ xs) f = f x ++ each xs f

-- one list after the other
abbrev pub joined : {A : Type 0} → List (List A) → List A
joined [] = []
joined (xs ∷ xss) = xs ++ joined xss

abbrev pub keep_step : {A : Type 0} → Bool → A → List A → List A
keep_step true x xs = x ∷ xs
keep_step false x xs = xs

-- those that pass the test
abbrev pub keep : {A : Type 0} → (A → Bool) → List A → List A
keep p [] = []
keep p (x ∷ xs) = keep_step (p x) x (keep p xs)
