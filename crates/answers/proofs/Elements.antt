-- Laws of All, membership and Apart over lists made of numbers or of other lists, and their lengths. Assumes nothing.
use Prim.Native.Nat.{ℕ, zero, suc, ◌+◌, ◌-◌, ◌*◌, ◌≤◌, ◌<◌}
use native.Mathlib.Omega.{arith}
use native.Mathlib.Decide.{ℕ_discrete}
use native.Mathlib.Nat.{add-zero, zero-add, suc-mul, zero-mul}
use lib.ListN.{length, get_or, length-append, length-map}
use mathlib.Core.Path.{◌≡◌, refl, sym, ◌∙◌, ap, subst}
use mathlib.Core.Bool.{Bool, true, false}
use mathlib.Core.Logic.{◌⊎◌, inl, inr}
use mathlib.Core.List.Memᴰ
use mathlib.Core.List.{List, [], ◌∷◌, ◌++◌, map, map-append, append_assoc}
use Rattle.answers.specs.Lists.{All, ◌∈◌, ApartBy, Apart, from, up_to, each, joined, keep_step, keep}

-- 1. What holds of each

pub all_append : {A : Type 0} (P : A → Type 0) (xs ys : List A) → All P xs → All P ys → All P (xs ++ ys)
all_append P [] ys h k = k
all_append P (x ∷ xs) ys h k = (h.0, all_append P xs ys h.1 k)

pub all_left : {A : Type 0} (P : A → Type 0) (xs ys : List A) → All P (xs ++ ys) → All P xs
all_left P [] ys h = tt
all_left P (x ∷ xs) ys h = (h.0, all_left P xs ys h.1)

pub all_right : {A : Type 0} (P : A → Type 0) (xs ys : List A) → All P (xs ++ ys) → All P ys
all_right P [] ys h = h
all_right P (x ∷ xs) ys h = all_right P xs ys h.1

pub all_in : {A : Type 0} (P : A → Type 0) (xs : List A) → ((x : A) → x ∈ xs → P x) → All P xs
all_in P [] f = tt
all_in P (x ∷ xs) f = (f x (Memᴰ.head refl), all_in P xs (λ y m. f y (Memᴰ.tail m)))

pub all_at : {A : Type 0} (P : A → Type 0) {x : A} {xs : List A} → All P xs → x ∈ xs → P x
all_at P h (Memᴰ.head e) = subst P (sym e) h.0
all_at P h (Memᴰ.tail m) = all_at P h.1 m

pub all_each : {A B : Type 0} (P : B → Type 0) (f : A → List B) (xs : List A) → ((x : A) → x ∈ xs → All P (f x)) → All P (each xs f)
all_each P f [] g = tt
all_each P f (x ∷ xs) g = all_append P (f x) (each xs f) (g x (Memᴰ.head refl)) (all_each P f xs (λ y m. g y (Memᴰ.tail m)))

pub each_at : {A B : Type 0} (P : B → Type 0) (f : A → List B) {x : A} {xs : List A} → All P (each xs f) → x ∈ xs → All P (f x)
each_at P f h (Memᴰ.head {x = y} {xs = ys} e) = subst (λ z. All P (f z)) (sym e) (all_left P (f y) (each ys f) h)
each_at P f h (Memᴰ.tail {x = y} {xs = ys} m) = each_at P f (all_right P (f y) (each ys f) h) m

pub all_map : {A B : Type 0} (P : B → Type 0) (f : A → B) (xs : List A) → ((x : A) → x ∈ xs → P (f x)) → All P (map f xs)
all_map P f [] g = tt
all_map P f (x ∷ xs) g = (g x (Memᴰ.head refl), all_map P f xs (λ y m. g y (Memᴰ.tail m)))

pub map_at : {A B : Type 0} (P : B → Type 0) (f : A → B) {xs : List A} {x : A} → All P (map f xs) → x ∈ xs → P (f x)
map_at P f h m = all_at P h (Memᴰ.map f m)

pub all_joined : {A : Type 0} (P : A → Type 0) (xss : List (List A)) → All (All P) xss → All P (joined xss)
all_joined P [] h = tt
all_joined P (xs ∷ xss) h = all_append P xs (joined xss) h.0 (all_joined P xss h.1)

pub joined_all : {A : Type 0} (P : A → Type 0) (xss : List (List A)) → All P (joined xss) → All (All P) xss
joined_all P [] h = tt
joined_all P (xs ∷ xss) h = (all_left P xs (joined xss) h, joined_all P xss (all_right P xs (joined xss) h))

-- 2. Elements

pub in_each : {A B : Type 0} (f : A → List B) {x : A} {xs : List A} {y : B} → x ∈ xs → y ∈ f x → y ∈ each xs f
in_each f {y = y} (Memᴰ.head {x = z} e) m = Memᴰ.append_left _ (subst (λ u. y ∈ f u) e m)
in_each f (Memᴰ.tail {x = z} n) m = Memᴰ.append_right (f z) (in_each f n m)

pub of_each : {A B : Type 0} (f : A → List B) (xs : List A) {y : B} → y ∈ each xs f → (x : A) × (x ∈ xs) × (y ∈ f x)
of_each f [] m = absurd (Memᴰ.not-nil m)
of_each f (x ∷ xs) {y} m = by (Memᴰ.append_cases (f x) m) (of_each f xs)
  where
    by : (y ∈ f x) ⊎ (y ∈ each xs f) → (y ∈ each xs f → (z : _) × (z ∈ xs) × (y ∈ f z)) → (z : _) × (z ∈ (x ∷ xs)) × (y ∈ f z)
    by (inl h) go = (x, Memᴰ.head refl, h)
    by (inr h) go = let r = go h in (r.0, Memᴰ.tail r.1, r.2)

pub in_joined : {A : Type 0} {xs : List A} {xss : List (List A)} {y : A} → xs ∈ xss → y ∈ xs → y ∈ joined xss
in_joined {y = y} (Memᴰ.head {x = zs} e) m = Memᴰ.append_left _ (subst (λ u. y ∈ u) e m)
in_joined (Memᴰ.tail {x = zs} n) m = Memᴰ.append_right zs (in_joined n m)

pub in_from : (a n k : ℕ) → a ≤ k → k < a + n → k ∈ from a n
in_from a zero k h l = absurd (omega arith)
in_from a (suc n) k h l = by (ℕ_discrete k a) (in_from (suc a) n k)
  where
    by : Dec (k ≡ a) → (suc a ≤ k → k < suc a + n → k ∈ from (suc a) n) → k ∈ (a ∷ from (suc a) n)
    by (yes e) go = Memᴰ.head e
    by (no ne) go = Memᴰ.tail (go (omega arith) (omega arith))

pub of_from : (a n : ℕ) {k : ℕ} → k ∈ from a n → (a ≤ k) × (k < a + n)
of_from a zero m = absurd (Memᴰ.not-nil m)
of_from a (suc n) {k} m = by (Memᴰ.cases_cons m) (of_from (suc a) n)
  where
    by : (k ≡ a) ⊎ (k ∈ from (suc a) n) → (k ∈ from (suc a) n → (suc a ≤ k) × (k < suc a + n)) → (a ≤ k) × (k < a + suc n)
    by (inl e) go = (omega arith, omega arith)
    by (inr h) go = let r = go h in (omega arith, omega arith)

pub in_up_to : (n k : ℕ) → k < n → k ∈ up_to n
in_up_to n k h = in_from 0 n k (omega arith) (omega arith)

pub of_up_to : (n : ℕ) {k : ℕ} → k ∈ up_to n → k < n
of_up_to n m = let r = of_from 0 n m in omega arith

pub in_keep : {A : Type 0} (p : A → Bool) {x : A} {xs : List A} → x ∈ xs → p x ≡ true → x ∈ keep p xs
in_keep p {x} (Memᴰ.head {x = y} {xs = ys} e) h = rw (ap p (sym e) ∙ h) (Memᴰ.head e)
in_keep p {x} (Memᴰ.tail {x = y} {xs = ys} m) h = by (p y) (in_keep p m h)
  where
    by : (t : Bool) → x ∈ keep p ys → x ∈ keep_step t y (keep p ys)
    by true n = Memᴰ.tail n
    by false n = n

pub of_keep : {A : Type 0} (p : A → Bool) (xs : List A) {x : A} → x ∈ keep p xs → (x ∈ xs) × (p x ≡ true)
of_keep p [] m = absurd (Memᴰ.not-nil m)
of_keep p (y ∷ ys) {x} m = by (p y) refl m (of_keep p ys)
  where
    by : (t : Bool) → p y ≡ t → x ∈ keep_step t y (keep p ys) → (x ∈ keep p ys → (x ∈ ys) × (p x ≡ true)) → (x ∈ (y ∷ ys)) × (p x ≡ true)
    by true e m go = kept (Memᴰ.cases_cons m)
      where
        kept : (x ≡ y) ⊎ (x ∈ keep p ys) → (x ∈ (y ∷ ys)) × (p x ≡ true)
        kept (inl h) = (Memᴰ.head h, ap p h ∙ e)
        kept (inr h) = let r = go h in (Memᴰ.tail r.0, r.1)
    by false e m go = let r = go m in (Memᴰ.tail r.0, r.1)

-- 3. No element twice

pub apart_append : {A : Type 0} (xs ys : List A) → Apart xs → Apart ys → ((x : A) → x ∈ xs → x ∈ ys → ⊥) → Apart (xs ++ ys)
apart_append [] ys h k d = k
apart_append (x ∷ xs) ys h k d = (λ y m e. by y e (Memᴰ.append_cases xs m), apart_append xs ys h.1 k (λ y m. d y (Memᴰ.tail m)))
  where
    by : (y : _) → x ≡ y → (y ∈ xs) ⊎ (y ∈ ys) → ⊥
    by y e (inl m) = h.0 y m e
    by y e (inr m) = d y (Memᴰ.head (sym e)) m

-- through a function that is one-to-one on the list, or everywhere
pub apart_on : {A B : Type 0} (f : A → B) (xs : List A) → ((x y : A) → x ∈ xs → y ∈ xs → f x ≡ f y → x ≡ y) → Apart xs → Apart (map f xs)
apart_on f [] inj h = tt
apart_on f (x ∷ xs) inj h = (
  λ v m e. let r = Memᴰ.of_map f xs m in h.0 r.0 r.1 (inj x r.0 (Memᴰ.head refl) (Memᴰ.tail r.1) (e ∙ sym r.2)),
  apart_on f xs (λ y z m n. inj y z (Memᴰ.tail m) (Memᴰ.tail n)) h.1,
)

pub apart_map : {A B : Type 0} (f : A → B) → ((x y : A) → f x ≡ f y → x ≡ y) → (xs : List A) → Apart xs → Apart (map f xs)
apart_map f inj xs = apart_on f xs (λ x y m n. inj x y)

pub apart_each : {A K B : Type 0} (key : A → K) (f : A → List B) (xs : List A) → ApartBy key xs → ((x : A) → x ∈ xs → Apart (f x))
    → ((x y : A) (v : B) → v ∈ f x → v ∈ f y → key x ≡ key y) → Apart (each xs f)
apart_each key f [] h a k = tt
apart_each key f (x ∷ xs) h a k =
    apart_append (f x) (each xs f) (a x (Memᴰ.head refl)) (apart_each key f xs h.1 (λ y m. a y (Memᴰ.tail m)) k)
    (λ v m n. let r = of_each f xs n in h.0 r.0 r.1 (k x r.0 v m r.2))

pub apart_from : (a n : ℕ) → Apart (from a n)
apart_from a zero = tt
apart_from a (suc n) = (λ y m e. let r = of_from (suc a) n m in by y e r.0, apart_from (suc a) n)
  where
    by : (y : ℕ) → a ≡ y → suc a ≤ y → ⊥
    by y e h = omega arith

pub apart_keep : {A : Type 0} (p : A → Bool) (xs : List A) → Apart xs → Apart (keep p xs)
apart_keep p [] h = tt
apart_keep p (x ∷ xs) h = by (p x) (apart_keep p xs h.1)
  where
    by : (t : Bool) → Apart (keep p xs) → Apart (keep_step t x (keep p xs))
    by true k = (λ y m. h.0 y (of_keep p xs m).0, k)
    by false k = k

-- 4. Lists in two parts, and lengths

pub map_each : {A B D : Type 0} (g : B → D) (f : A → List B) (xs : List A) → map g (each xs f) ≡ each xs (λ x. map g (f x))
map_each g f [] = refl
map_each g f (x ∷ xs) = map-append g (f x) (each xs f) ∙ ap (λ zs. map g (f x) ++ zs) (map_each g f xs)

pub each_append : {A B : Type 0} (f : A → List B) (xs ys : List A) → each (xs ++ ys) f ≡ each xs f ++ each ys f
each_append f [] ys = refl
each_append f (x ∷ xs) ys = ap (λ zs. f x ++ zs) (each_append f xs ys) ∙ sym (append_assoc (f x) (each xs f) (each ys f))

pub keep_append : {A : Type 0} (t : A → Bool) (xs ys : List A) → keep t (xs ++ ys) ≡ keep t xs ++ keep t ys
keep_append t [] ys = refl
keep_append t (x ∷ xs) ys = by (t x) (keep_append t xs ys)
  where
    by : (p : Bool) → keep t (xs ++ ys) ≡ keep t xs ++ keep t ys → keep_step p x (keep t (xs ++ ys)) ≡ keep_step p x (keep t xs) ++ keep t ys
    by true e = ap (λ zs. x ∷ zs) e
    by false e = e

pub from-append : (a n m : ℕ) → from a (n + m) ≡ from a n ++ from (a + n) m
from-append a zero m = (λ t. from (sym (add-zero a) t) (zero-add m t))
from-append a (suc n) m =
    let e : suc n + m ≡ suc (n + m) = omega arith in
    let i : suc a + n ≡ a + suc n = omega arith in rw e (ap (λ l. a ∷ l) (from-append (suc a) n m ∙ ap (λ k. from (suc a) n ++ from k m) i))

-- one more at the end
pub from_last : (a n : ℕ) → from a (n + 1) ≡ from a n ++ ((a + n) ∷ [])
from_last a n = from-append a n 1

pub length_from : (a n : ℕ) → length (from a n) ≡ n
length_from a zero = refl
length_from a (suc n) = ap suc (length_from (suc a) n)

-- of the numbers from k up to n, the first and the others
pub each_next : {A : Type 0} (f : ℕ → List A) (n k : ℕ) → k < n → each (from k (n - k)) f ≡ f k ++ each (from (k + 1) (n - (k + 1))) f
each_next f n k h = let e : n - k ≡ suc (n - (k + 1)) = omega arith in rw e (ap (λ m. f k ++ each (from m (n - (k + 1))) f) (omega arith))

-- as many for each
pub length-each : {A B : Type 0} (f : A → List B) (m : ℕ) (xs : List A) → ((x : A) → length (f x) ≡ m) → length (each xs f) ≡ length xs * m
length-each f m [] h = sym (zero-mul m)
length-each f m (x ∷ xs) h = length-append (f x) (each xs f) ∙ (let p = h x in let q = length-each f m xs h in omega (arith, suc-mul (length xs) m))

-- no more than m for each
pub length_each_most : {A B : Type 0} (f : A → List B) (m : ℕ) (xs : List A) → ((x : A) → x ∈ xs → length (f x) ≤ m) → length (each xs f) ≤ length xs * m
length_each_most f m [] h = omega arith
length_each_most f m (x ∷ xs) h =
    let p = h x (Memᴰ.head refl) in
    let q = length_each_most f m xs (λ y n. h y (Memᴰ.tail n)) in
    omega (arith, length-append (f x) (each xs f), suc-mul (length xs) m)

pub keep-most : {A : Type 0} (p : A → Bool) (xs : List A) → length (keep p xs) ≤ length xs
keep-most p [] = omega arith
keep-most p (x ∷ xs) = by (p x) (keep-most p xs)
  where
    by : (t : Bool) → length (keep p xs) ≤ length xs → length (keep_step t x (keep p xs)) ≤ suc (length xs)
    by true h = omega arith
    by false h = omega arith

pub map-most : {A B : Type 0} (f : A → B) (xs : List A) (n : ℕ) → length xs ≤ n → length (map f xs) ≤ n
map-most f xs n h = omega (arith, length-map xs f)

-- 5. A list made of the numbers below n

module _ {A : Type 0} (f : ℕ → A) where
  pub made_long : (n : ℕ) → length (map f (up_to n)) ≡ n
  made_long n = length-map (up_to n) f ∙ length_from 0 n

  from_at : (d : A) (a n k : ℕ) → k < n → get_or (map f (from a n)) k d ≡ f (a + k)
  from_at d a zero k h = absurd (omega arith)
  from_at d a (suc n) zero h = let e : a + 0 ≡ a = omega arith in ap f (sym e)
  from_at d a (suc n) (suc k) h = let e : suc a + k ≡ a + suc k = omega arith in from_at d (suc a) n k (omega arith) ∙ ap f e

  pub made_at : (d : A) (n x : ℕ) → x < n → get_or (map f (up_to n)) x d ≡ f x
  made_at d n x h = let e : 0 + x ≡ x = omega arith in from_at d 0 n x h ∙ ap f e
