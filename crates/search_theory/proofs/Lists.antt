-- What was found or not, each and some of the elements of a list, and literals that are in range. Assumes nothing.
use Prim.Native.Nat.{ℕ, suc, ◌<◌}
use native.Mathlib.Omega.{arith}
use lib.IntN.{ℤ}
use lib.ListN.{length}
use mathlib.Core.Path.{◌≡◌, refl, sym}
use mathlib.Core.Bool.{Bool, true, false}
use mathlib.Core.Logic.{inl, inr}
use Rattle.std.specs.Prelude.{None as none, Some as some}
use Rattle.std.proofs.lemmas.Option.{same_Some}
use Rattle.answers.proofs.Options.{some-none}
use mathlib.Core.List.{List, [], ◌∷◌}
use Rattle.answers.specs.First.{found}
use Rattle.answers.specs.Lists.{All, Some}
use Rattle.cnf.specs.Literals.{closes, beyond, beyond_at}
use Rattle.cnf.specs.Clauses.{split_step, split}
use Rattle.search_theory.specs.Legal.{Proper}

-- found nowhere, found somewhere
pub nothing : {A : Type 0} {i : ℕ} → none ≡ some i → A
nothing {i = i} h = absurd (some-none i (sym h))

pub found_some : (b : Bool) (n : ℕ) {i : ℕ} → found b n none ≡ some i → (b ≡ true) × (n ≡ i)
found_some true n {i} h = (refl, same_Some n i h)
found_some false n h = nothing h

pub all_map : {A : Type 0} {P Q : A → Type 0} → ((x : A) → P x → Q x) → (xs : List A) → All P xs → All Q xs
all_map f [] h = tt
all_map f (x ∷ xs) h = (f x h.0, all_map f xs h.1)

pub all_zip : {A : Type 0} {P Q R : A → Type 0} → ((x : A) → P x → Q x → R x) → (xs : List A) → All P xs → All Q xs → All R xs
all_zip f [] h k = tt
all_zip f (x ∷ xs) h k = (f x h.0 k.0, all_zip f xs h.1 k.1)

pub some_zip : {A : Type 0} {P Q R : A → Type 0} → ((x : A) → P x → Q x → R x) → (xs : List A) → Some P xs → All Q xs → Some R xs
some_zip f [] h k = h
some_zip f (x ∷ xs) (inl h) k = inl (f x h k.0)
some_zip f (x ∷ xs) (inr h) k = inr (some_zip f xs h k.1)

-- some element has the one, each has the other, and where they meet R follows
pub meet : {A R : Type 0} {P Q : A → Type 0} → ((x : A) → P x → Q x → R) → (xs : List A) → Some P xs → All Q xs → R
meet f [] h k = absurd h
meet f (x ∷ xs) (inl h) k = f x h k.0
meet f (x ∷ xs) (inr h) k = meet f xs h k.1

-- a list without a literal beyond V has such literals in its clauses
within_all : (v : ℕ) (ls : List ℤ) → ((i : ℕ) → i < length ls → beyond_at v ls i ≡ false) → All (λ l. beyond v l ≡ false) ls
within_all v [] h = tt
within_all v (l ∷ ls) h = (h 0 (omega arith), within_all v ls (λ i k. h (suc i) (omega arith)))

pub proper_clauses : (v : ℕ) (ls : List ℤ) → ((i : ℕ) → i < length ls → beyond_at v ls i ≡ false) → All (All (Proper v)) (split ls)
unfolding split
proper_clauses v [] h = tt
proper_clauses v (l ∷ ls) h = by (closes l) refl (split ls) (proper_clauses v ls (λ i k. h (suc i) (omega arith)))
  where
    by : (z : Bool) → closes l ≡ z → (cs : List (List ℤ)) → All (All (Proper v)) cs → All (All (Proper v)) (split_step z l cs)
    by true q cs k = (tt, k)
    by false q [] k = ((record { nonzero = q; within = h 0 (omega arith) }, tt), tt)
    by false q (c ∷ cs) k = ((record { nonzero = q; within = h 0 (omega arith) }, k.0), k.1)
