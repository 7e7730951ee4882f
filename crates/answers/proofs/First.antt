-- Laws of the first index at which a test holds, of a loop that seeks it, and of the first element with a property. Assumes nothing.
use Prim.Native.Nat.{ℕ, zero, suc, ◌+◌, ◌≤◌, ◌<◌}
use native.Mathlib.Omega.{arith}
use native.Mathlib.Decide.{ℕ_discrete, dec_lt}
use lib.ListN.{length, get_or}
use mathlib.Core.Path.{◌≡◌, refl, sym, ◌∙◌, ap, subst}
use mathlib.Core.Bool.{Bool, true, false}
use mathlib.Core.Logic.{◌⊎◌, inl, inr, ◌↔◌}
use Rattle.std.specs.Prelude.{Option, None as none, Some as some}
use Rattle.std.proofs.lemmas.Option.{same_Some}
use Rattle.answers.proofs.Options.{some-none}
use mathlib.Core.List.{List}
use Rattle.answers.specs.First.{found, first_from, first_where, Least, LeastWith, NoneBelow, FirstIn, here, later, NoneIn}
use Rattle.answers.specs.Lists.{Some}
use Rattle.answers.proofs.Bools.{clash, off}

-- the least of the n numbers from a on
record LeastFrom (p : ℕ → Bool) (a n m : ℕ) : Type 0 where
  low : a ≤ m
  below : m < a + n
  holds : p m ≡ true
  first : (k : ℕ) → a ≤ k → k < m → p k ≡ false

NoneFrom : (ℕ → Bool) → ℕ → ℕ → Type 0
NoneFrom p a n = (k : ℕ) → a ≤ k → k < a + n → p k ≡ false

-- one or the other, with what is then found; every law below is read off this
from-cases : (p : ℕ → Bool) (a n : ℕ) → ((m : ℕ) × LeastFrom p a n m × (first_from p a n ≡ some m)) ⊎ (NoneFrom p a n × (first_from p a n ≡ none))
unfolding first_from NoneFrom
from-cases p a zero = inr (λ k lo hi. absurd (omega arith), refl)
from-cases p a (suc n) = by (p a) refl (from-cases p (suc a) n)
  where
    split : {m : ℕ} → p a ≡ false → ((k : ℕ) → suc a ≤ k → k < m → p k ≡ false) → (k : ℕ) → a ≤ k → k < m → p k ≡ false
    split q h k lo hi = at (ℕ_discrete k a)
      where
        at : Dec (k ≡ a) → p k ≡ false
        at (yes e) = ap p e ∙ q
        at (no e) = h k (omega arith) hi

    by : (t : Bool) → p a ≡ t
        → ((m : ℕ) × LeastFrom p (suc a) n m × (first_from p (suc a) n ≡ some m)) ⊎ (NoneFrom p (suc a) n × (first_from p (suc a) n ≡ none))
        → ((m : ℕ) × LeastFrom p a (suc n) m × (found t a (first_from p (suc a) n) ≡ some m))
        ⊎ (NoneFrom p a (suc n) × (found t a (first_from p (suc a) n) ≡ none))
    by true q r = inl (a, record { low = omega arith; below = omega arith; holds = q; first = λ k lo hi. absurd (omega arith) }, refl)
    by false q (inl r) = let l = r.1 in inl (r.0, record { low = omega arith; below = omega arith; holds = l.holds; first = split q l.first }, r.2)
    by false q (inr r) = inr (split q (λ k lo hi. r.0 k lo (omega arith)), r.1)

-- a property has one least number
pub only_least : (P : ℕ → Type 0) {m n : ℕ} → P m → NoneBelow P m → P n → NoneBelow P n → m ≡ n
only_least P {m} {n} p f q g = by (dec_lt m n) (dec_lt n m)
  where
    by : Dec (m < n) → Dec (n < m) → m ≡ n
    by (yes h) d = absurd (g m h p)
    by (no h) (yes k) = absurd (f n k q)
    by (no h) (no k) = omega arith

pub one_least : {p : ℕ → Bool} {n i j : ℕ} → Least p n i → Least p n j → i ≡ j
one_least {p} f g = only_least (λ k. p k ≡ true) f.holds (λ k h e. clash e (f.first k h)) g.holds (λ k h e. clash e (g.first k h))

module _ (p : ℕ → Bool) (n : ℕ) where
  first_cases : ((m : ℕ) × Least p n m × (first_where p n ≡ some m)) ⊎ (((k : ℕ) → k < n → p k ≡ false) × (first_where p n ≡ none))
  unfolding NoneFrom
  first_cases = by (from-cases p 0 n)
    where
      by : ((m : ℕ) × LeastFrom p 0 n m × (first_from p 0 n ≡ some m)) ⊎ (NoneFrom p 0 n × (first_from p 0 n ≡ none))
          → ((m : ℕ) × Least p n m × (first_where p n ≡ some m)) ⊎ (((k : ℕ) → k < n → p k ≡ false) × (first_where p n ≡ none))
      by (inl r) = let l = r.1 in inl (r.0, record { below = omega arith; holds = l.holds; first = λ k h. l.first k (omega arith) h }, r.2)
      by (inr r) = inr (λ k h. r.0 k (omega arith) (omega arith), r.1)

  -- the least, or none
  pub least : ((m : ℕ) × Least p n m) ⊎ ((k : ℕ) → k < n → p k ≡ false)
  least = by first_cases
    where
      by : ((m : ℕ) × Least p n m × (first_where p n ≡ some m)) ⊎ (((k : ℕ) → k < n → p k ≡ false) × (first_where p n ≡ none))
          → ((m : ℕ) × Least p n m) ⊎ ((k : ℕ) → k < n → p k ≡ false)
      by (inl r) = inl (r.0, r.1)
      by (inr r) = inr r.0

  pub first_none : first_where p n ≡ none → (k : ℕ) → k < n → p k ≡ false
  first_none e = by first_cases
    where
      by : ((m : ℕ) × Least p n m × (first_where p n ≡ some m)) ⊎ (((k : ℕ) → k < n → p k ≡ false) × (first_where p n ≡ none)) → (k : ℕ) → k < n → p k ≡ false
      by (inl r) = absurd (some-none r.0 (sym r.2 ∙ e))
      by (inr r) = r.0

  pub none_first : ((k : ℕ) → k < n → p k ≡ false) → first_where p n ≡ none
  none_first h = by first_cases
    where
      by : ((m : ℕ) × Least p n m × (first_where p n ≡ some m)) ⊎ (((k : ℕ) → k < n → p k ≡ false) × (first_where p n ≡ none)) → first_where p n ≡ none
      by (inl r) = clash r.1.holds (h r.0 r.1.below)
      by (inr r) = r.1

  pub first_some : (m : ℕ) → first_where p n ≡ some m → Least p n m
  first_some m e = by first_cases
    where
      by : ((m : ℕ) × Least p n m × (first_where p n ≡ some m)) ⊎ (((k : ℕ) → k < n → p k ≡ false) × (first_where p n ≡ none)) → Least p n m
      by (inl r) = subst (Least p n) (same_Some r.0 m (sym r.2 ∙ e)) r.1
      by (inr r) = absurd (some-none m (sym e ∙ r.1))

  pub some_first : {m : ℕ} → Least p n m → first_where p n ≡ some m
  some_first {m} l = by first_cases
    where
      by : ((m : ℕ) × Least p n m × (first_where p n ≡ some m)) ⊎ (((k : ℕ) → k < n → p k ≡ false) × (first_where p n ≡ none)) → first_where p n ≡ some m
      by (inr r) = clash l.holds (r.0 m l.below)
      by (inl r) = r.2 ∙ ap some (one_least r.1 l)

pub first_below : (p : ℕ → Bool) (n : ℕ) {m : ℕ} → some m ≡ first_where p n → m < n
first_below p n {m} e = (first_some p n m (sym e)).below

-- tests that agree below n
pub first_same : (p q : ℕ → Bool) (n : ℕ) → ((k : ℕ) → k < n → p k ≡ q k) → first_where p n ≡ first_where q n
first_same p q n h = by (first_where p n) refl
  where
    by : (o : Option ℕ) → first_where p n ≡ o → first_where p n ≡ first_where q n
    by none e = e ∙ sym (none_first q n (λ k l. sym (h k l) ∙ first_none p n e k l))
    by (some m) e =
        let l = first_some p n m e in
        e ∙ sym (some_first q n (record {
          below = l.below;
          holds = sym (h m l.below) ∙ l.holds;
          first = λ k b. sym
              (h k (let z = l.below in omega arith)) ∙ l.first k b;
        }))

-- a test for a property finds the least number with it, and none exactly if there is none
module _ (p : ℕ → Bool) (P : ℕ → Type 0) (n : ℕ) (tests : (k : ℕ) → k < n → p k ≡ true ↔ P k) where
  fails_at : (k : ℕ) → k < n → (P k → ⊥) → p k ≡ false
  fails_at k h f = off (p k) (λ e. f ((tests k h).0 e))

  pub first_with : (m : ℕ) → first_where p n ≡ some m ↔ LeastWith P n m
  first_with m = (to, of)
    where
      to : first_where p n ≡ some m → LeastWith P n m
      to e =
          let l = first_some p n m e in
          let b = l.below in
          record { below = b; holds = (tests m b).0 l.holds; first = λ k h x. clash ((tests k (omega arith)).1 x) (l.first k h) }

      of : LeastWith P n m → first_where p n ≡ some m
      of l =
          let b = l.below in
          some_first p n (record { below = b; holds = (tests m b).1 l.holds; first = λ k h. fails_at k (omega arith) (l.first k h) })

  pub none_with : first_where p n ≡ none ↔ NoneBelow P n
  none_with = (λ e k h x. clash ((tests k h).1 x) (first_none p n e k h), λ f. none_first p n (λ k h. fails_at k h (f k h)))

-- the first element with a property
module _ {A : Type 0} {P : A → Type 0} where
  pub first_holds : {xs : List A} {k : ℕ} {x : A} → FirstIn P xs k x → P x
  first_holds (here h) = h
  first_holds (later n f) = first_holds f

  -- something else that holds of it holds of some element
  pub first_some_in : (Q : A → Type 0) {xs : List A} {k : ℕ} {x : A} → FirstIn P xs k x → Q x → Some Q xs
  first_some_in Q (here h) q = inl q
  first_some_in Q (later n f) q = inr (first_some_in Q f q)

  -- it stands at its index
  pub first_index : (d : A) {xs : List A} {k : ℕ} {x : A} → FirstIn P xs k x → (k < length xs) × (get_or xs k d ≡ x)
  first_index d (here h) = (omega arith, refl)
  first_index d (later n f) = let (b, e) = first_index d f in (omega arith, e)

  pub not_none : {xs : List A} {k : ℕ} {x : A} → FirstIn P xs k x → NoneIn P xs → ⊥
  not_none (here h) n = n.0 h
  not_none (later m f) n = not_none f n.1

  pub only_first : {xs : List A} {j k : ℕ} {x y : A} → FirstIn P xs j x → FirstIn P xs k y → (j ≡ k) × (x ≡ y)
  only_first (here h) (here g) = (refl, refl)
  only_first (here h) (later n g) = absurd (n h)
  only_first (later m f) (here g) = absurd (m g)
  only_first (later m f) (later n g) = let r = only_first f g in (ap suc r.0, r.1)

-- at the head of a loop that seeks the first: the test holds nowhere below i
pub record Seeking (p : ℕ → Bool) (n i : ℕ) : Type 0 where
  pub within : i ≤ n
  pub none_yet : (k : ℕ) → k < i → p k ≡ false

pub seek_start : {p : ℕ → Bool} {n : ℕ} → Seeking p n 0
seek_start = record { within = omega arith; none_yet = λ k h. absurd (omega arith) }

module _ {p : ℕ → Bool} {n i : ℕ} (s : Seeking p n i) where
  pub seek_on : i < n → p i ≡ false → Seeking p n (i + 1)
  seek_on h q = record { within = omega arith; none_yet = λ k l. by k l (ℕ_discrete k i) }
    where
      by : (k : ℕ) → k < i + 1 → Dec (k ≡ i) → p k ≡ false
      by k l (yes e) = ap p e ∙ q
      by k l (no e) = s.none_yet k (omega arith)

  -- n as the code counted it, m as the definition has it
  pub seek_found : {m : ℕ} → i < n → p i ≡ true → n ≡ m → some i ≡ first_where p m
  seek_found h q e = sym (some_first p n (record { below = h; holds = q; first = s.none_yet })) ∙ ap (first_where p) e

  pub seek_none : {m : ℕ} → n ≤ i → n ≡ m → none ≡ first_where p m
  seek_none h e = let w = s.within in sym (none_first p n (λ k l. s.none_yet k (omega arith))) ∙ ap (first_where p) e

-- nothing was found: the test did not hold
pub not_found : (t : Bool) (n : ℕ) → found t n none ≡ none → t ≡ false
not_found true n e = absurd (some-none n e)
not_found false n e = refl
