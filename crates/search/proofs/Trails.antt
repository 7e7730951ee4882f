-- The image of a trail in the buffers, and the trail read from them, undo each other. Assumes nothing.
use Prim.Native.Nat.{ℕ, zero, suc, ◌+◌, ◌-◌, ◌≤◌, ◌<◌}
use native.Mathlib.Omega.{arith}
use lib.Dec.{eqb}
use lib.IntN.{ℤ, pos, nat_abs}
use lib.ListN.{length, get_or, set, take, replicate}
use lib.Seq.{take-suc, append_snoc, get_or-set_same, get_or-set_other}
use mathlib.Core.Path.{◌≡◌, refl, sym, ◌∙◌, ap}
use mathlib.Core.Bool.{cond}
use mathlib.Core.List.{List, [], ◌∷◌, ◌++◌}
use Rattle.search.specs.Trail.{Entry, entry, Trail, Slices, slices, laid, image_by, image, entry_at, trail_of, made, variable_value}

pub length_trail : (s : Slices) (n : ℕ) → length (trail_of s n) ≡ n
unfolding trail_of
length_trail s zero = refl
length_trail s (suc n) = ap suc (length_trail s n)

-- entries that are the same make the same trail
pub same_trail : (s r : Slices) (n : ℕ) → ((i : ℕ) → i < n → entry_at s i ≡ entry_at r i) → trail_of s n ≡ trail_of r n
unfolding trail_of
same_trail s r zero h = refl
same_trail s r (suc n) h = (λ t. h n (omega arith) t ∷ same_trail s r n (λ i l. h i (omega arith)) t)

-- slices with an entry written
abbrev pub set_entry : Slices → ℕ → Entry → Slices
set_entry s i e = slices (set s.trail i e.literal) (set s.marks i e.mark) (set s.numbers i e.number)

-- a trail with an entry more
pub trail_set : (s : Slices) (i : ℕ) (e : Entry) → i < length s.trail → i < length s.marks → i < length s.numbers
    → trail_of (set_entry s i e) (suc i) ≡ e ∷ trail_of s i
unfolding trail_of
trail_set s i e h k m =
    (λ t. entry (get_or-set_same s.trail i e.literal (pos 0) h t) (get_or-set_same s.marks i e.mark 0 k t)
    (get_or-set_same s.numbers i e.number 0 m t)
    ∷ same_trail (set_entry s i e) s i same t)
  where
    same : (j : ℕ) → j < i → entry_at (set_entry s i e) j ≡ entry_at s j
    same j l =
        let n : j ≡ i → ⊥ = λ q. omega arith in
        (λ t. entry (get_or-set_other s.trail i j e.literal (pos 0) n t) (get_or-set_other s.marks i j e.mark 0 n t)
        (get_or-set_other s.numbers i j e.number 0 n t))

-- the values are those of the literals, whatever the marks and numbers
pub same_values : (s r : Slices) → s.trail ≡ r.trail → (n : ℕ) → variable_value (trail_of s n) ≡ variable_value (trail_of r n)
unfolding trail_of variable_value
same_values s r e zero = refl
same_values s r e (suc n) =
    (λ j x. cond (eqb (nat_abs (get_or (e j) n (pos 0))) x) (made (get_or (e j) n (pos 0))) (same_values s r e n j x))

pub length-laid : {A : Type 0} (f : Entry → A) (t : Trail) (rest : List A) → length (laid f t rest) ≡ length t + length rest
unfolding laid
length-laid f [] rest = omega arith
length-laid f (e ∷ t) rest = let h = length-laid f t (f e ∷ rest) in omega arith

-- past the entries stands the rest
pub laid_rest : {A : Type 0} (f : Entry → A) (t : Trail) (rest : List A) (k : ℕ) (d : A) → get_or (laid f t rest) (length t + k) d ≡ get_or rest k d
unfolding laid
laid_rest f [] rest k d = let e : 0 + k ≡ k = omega arith in rw e
laid_rest f (e ∷ t) rest k d =
    let s : suc (length t) + k ≡ length t + suc k = omega arith in
    rw s (laid_rest f t (f e ∷ rest) (suc k) d)

-- the trail read from its image
read_laid : (t : Trail) (ts : List ℤ) (ms ns : List ℕ)
    → trail_of (slices (laid (λ e. e.literal) t ts) (laid (λ e. e.mark) t ms) (laid (λ e. e.number) t ns)) (length t) ≡ t
unfolding laid trail_of
read_laid [] ts ms ns = refl
read_laid (e ∷ t) ts ms ns =
    (λ j. entry (last (λ x. x.literal) ts (pos 0) j) (last (λ x. x.mark) ms 0 j) (last (λ x. x.number) ns 0 j)
    ∷ read_laid t (e.literal ∷ ts) (e.mark ∷ ms) (e.number ∷ ns) j)
  where
    last : {A : Type 0} (f : Entry → A) (rest : List A) (d : A) → get_or (laid f t (f e ∷ rest)) (length t) d ≡ f e
    last f rest d = let z : length t + 0 ≡ length t = omega arith in rw z at (laid_rest f t (f e ∷ rest) 0 d)

pub read_image : (v : ℕ) (t : Trail) → trail_of (image v t) (length t) ≡ t
read_image v t = read_laid t (replicate (v - length t) (pos 0)) (replicate (v - length t) 0) (replicate (v - length t) 0)

-- the image of the trail that was read, for one field of the entries
module _ {A : Type 0} (f : Entry → A) (xs : List A) (d : A) (s : Slices) (same : (i : ℕ) → f (entry_at s i) ≡ get_or xs i d) where
  laid_read : (n : ℕ) → n ≤ length xs → (rest : List A) → laid f (trail_of s n) rest ≡ take n xs ++ rest
  unfolding laid trail_of
  laid_read zero h rest = refl
  laid_read (suc n) h rest =
      laid_read n (omega arith) (f (entry_at s n) ∷ rest) ∙ rw (same n, take-suc xs n d h) (sym (append_snoc (take n xs) (get_or xs n d) rest))

  -- .. is the used elements, then the unused ones
  image-by : (v n : ℕ) → n ≤ length xs → image_by f d v (trail_of s n) ≡ take n xs ++ replicate (v - n) d
  image-by v n h = rw (length_trail s n) (laid_read n h (replicate (v - n) d))

-- the used elements of slices of V elements, then zeros
abbrev pub cut : ℕ → Slices → ℕ → Slices
cut v s n =
    slices (take n s.trail ++ replicate (v - n) (pos 0)) (take n s.marks ++ replicate (v - n) 0) (take n s.numbers ++ replicate (v - n) 0)

pub image_read : (v : ℕ) (s : Slices) (n : ℕ) → n ≤ length s.trail → n ≤ length s.marks → n ≤ length s.numbers → image v (trail_of s n) ≡ cut v s n
image_read v s n h k m =
    (λ i. slices (image-by (λ e. e.literal) s.trail (pos 0) s (λ i. refl) v n h i) (image-by (λ e. e.mark) s.marks 0 s (λ i. refl) v n k i)
    (image-by (λ e. e.number) s.numbers 0 s (λ i. refl) v n m i))
