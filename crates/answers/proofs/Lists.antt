-- Counting in a list, in two lists with the same elements, and a list of one element n times. Assumes nothing.
use Prim.Native.Nat.{ℕ, zero, suc, ◌+◌, ◌≤◌, ◌<◌}
use native.Mathlib.Omega.{arith}
use native.Mathlib.Nat.{zero-add}
use lib.ListN.{length, get_or, take, drop, replicate}
use lib.Seq.{take-length}
use mathlib.Core.Path.{◌≡◌, refl, sym, ◌∙◌, ap}
use mathlib.Core.Bool.{Bool, true, false}
use mathlib.Core.Logic.{◌⊎◌, inl, inr, ⊎_elim}
use mathlib.Core.List.Memᴰ
use mathlib.Core.List.{List, [], ◌∷◌, ◌++◌}
use Rattle.answers.specs.Lists.{tally, how_many, ◌∈◌, Apart, keep_step, keep}

pub many_most : {A : Type 0} (p : A → Bool) (xs : List A) → how_many p xs ≤ length xs
many_most p [] = omega arith
many_most p (x ∷ xs) = by (p x) (many_most p xs)
  where
    by : (t : Bool) → how_many p xs ≤ length xs → tally t (how_many p xs) ≤ suc (length xs)
    by true h = omega arith
    by false h = omega arith

tally_swap : (s t : Bool) (n : ℕ) → tally s (tally t n) ≡ tally t (tally s n)
tally_swap true true n = refl
tally_swap true false n = refl
tally_swap false t n = refl

-- one element more
pub many_next : {A : Type 0} (p : A → Bool) (xs : List A) (d : A) (j : ℕ) → j < length xs
    → how_many p (take (suc j) xs) ≡ tally (p (get_or xs j d)) (how_many p (take j xs))
many_next p [] d j h = absurd (omega arith)
many_next p (x ∷ xs) d zero h = refl
many_next p (x ∷ xs) d (suc j) h =
    ap (tally (p x)) (many_next p xs d j (omega arith)) ∙ tally_swap (p x) (p (get_or xs j d)) (how_many p (take j xs))

-- one element more at the end
pub many_last : {A : Type 0} (p : A → Bool) (xs : List A) (x : A) → how_many p (xs ++ (x ∷ [])) ≡ tally (p x) (how_many p xs)
many_last p [] x = refl
many_last p (y ∷ ys) x = ap (tally (p y)) (many_last p ys x) ∙ tally_swap (p y) (p x) (how_many p ys)

-- and all of them
pub many_all : {A : Type 0} (p : A → Bool) (xs : List A) {j : ℕ} → j ≡ length xs → how_many p (take j xs) ≡ how_many p xs
many_all p xs e = ap (how_many p) (ap (λ n. take n xs) e ∙ take-length xs)

-- those in the first n elements, and those in the rest
pub many_parted : {A : Type 0} (p : A → Bool) (xs : List A) (n : ℕ) → how_many p xs ≡ how_many p (take n xs) + how_many p (drop n xs)
many_parted p [] zero = refl
many_parted p [] (suc n) = refl
many_parted p (x ∷ xs) zero = sym (zero-add (how_many p (x ∷ xs)))
many_parted p (x ∷ xs) (suc n) = by (p x) (many_parted p xs n)
  where
    by : (t : Bool) → how_many p xs ≡ how_many p (take n xs) + how_many p (drop n xs)
        → tally t (how_many p xs) ≡ tally t (how_many p (take n xs)) + how_many p (drop n xs)
    by true h = omega arith
    by false h = h

pub many_length : {A : Type 0} (xs : List A) → how_many (λ x. true) xs ≡ length xs
many_length [] = refl
many_length (x ∷ xs) = ap suc (many_length xs)

-- those that pass, kept
pub many_kept : {A : Type 0} (p : A → Bool) (xs : List A) → length (keep p xs) ≡ how_many p xs
many_kept p [] = refl
many_kept p (x ∷ xs) = by (p x) (many_kept p xs)
  where
    by : (t : Bool) → length (keep p xs) ≡ how_many p xs → length (keep_step t x (keep p xs)) ≡ tally t (how_many p xs)
    by true e = ap suc e
    by false e = e

-- a list without one place of x: the other elements are still there
record Without {A : Type 0} (p : A → Bool) (x : A) (xs : List A) : Type 0 where
  rest : List A
  others : (y : A) → y ∈ xs → (y ≡ x) ⊎ (y ∈ rest)
  many : how_many p xs ≡ tally (p x) (how_many p rest)

without : {A : Type 0} (p : A → Bool) {x : A} {xs : List A} → x ∈ xs → Without p x xs
without p (Memᴰ.head {x = y} {xs = ys} e) =
    record {
      rest = ys;
      others = λ z m. ⊎_elim (λ q. inl (q ∙ sym e)) inr (Memᴰ.cases_cons m);
      many = ap (λ z. tally (p z) (how_many p ys)) (sym e);
    }
without p {x} (Memᴰ.tail {x = y} {xs = ys} m) =
    let w = without p m in
    record {
      rest = y ∷ w.rest;
      others = λ z n. ⊎_elim (λ q. inr (Memᴰ.head q)) (λ k. ⊎_elim inl (λ r. inr (Memᴰ.tail r)) (w.others z k)) (Memᴰ.cases_cons n);
      many = ap (tally (p y)) w.many ∙ tally_swap (p y) (p x) (how_many p w.rest);
    }

tally-most : (t : Bool) {m n : ℕ} → m ≤ n → tally t m ≤ tally t n
tally-most true h = omega arith
tally-most false h = h

-- where no element stands twice, and each is one of ys, no more pass than of ys
many_among : {A : Type 0} (p : A → Bool) (xs ys : List A) → Apart xs → ((x : A) → x ∈ xs → x ∈ ys) → how_many p xs ≤ how_many p ys
many_among p [] ys a f = omega arith
many_among p (x ∷ xs) ys a f =
    let w = without p (f x (Memᴰ.head refl)) in
    rw w.many (tally-most (p x) (many_among p xs w.rest a.1
    (λ y m. ⊎_elim (λ e. absurd (a.0 y m (sym e))) (λ n. n) (w.others y (f y (Memᴰ.tail m))))))

-- of two lists with the same elements, none twice, as many pass
pub same_many : {A : Type 0} (p : A → Bool) (xs ys : List A) → Apart xs → Apart ys → ((x : A) → x ∈ xs → x ∈ ys) → ((x : A) → x ∈ ys → x ∈ xs)
    → how_many p xs ≡ how_many p ys
same_many p xs ys a b f g = let h = many_among p xs ys a f in let k = many_among p ys xs b g in omega arith

-- one element n times, and past them what stands for no element: the same everywhere
pub blank : {A : Type 0} (d : A) (n k : ℕ) → get_or (replicate n d) k d ≡ d
blank d zero k = refl
blank d (suc n) zero = refl
blank d (suc n) (suc k) = blank d n k
