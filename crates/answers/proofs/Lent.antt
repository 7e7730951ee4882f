-- Laws of writing into a lent buffer, one part after the other. Assumes nothing.
use Prim.Native.Nat.{ℕ, suc, ◌+◌, ◌≤◌}
use native.Mathlib.Omega.{arith}
use lib.ListN.{length, set, drop, length-append}
use lib.Seq.{sets, length-sets, sets-eq, drop-append_seam}
use mathlib.Core.Path.{◌≡◌, refl, sym, ◌∙◌, ap}
use mathlib.Core.List.{List, [], ◌∷◌, ◌++◌}
use Rattle.answers.specs.Lent.{Wrote, filled}

pub sets_append : {A : Type 0} (buf : List A) (at : ℕ) (xs ys : List A) → sets buf at (xs ++ ys) ≡ sets (sets buf at xs) (at + length xs) ys
sets_append buf at [] ys = let e : at + 0 ≡ at = omega arith in rw e
sets_append buf at (x ∷ xs) ys = let e : at + suc (length xs) ≡ suc at + length xs = omega arith in rw e (sets_append (set buf at x) (suc at) xs ys)

-- one element
pub wrote_one : {A : Type 0} (buf : List A) (at : ℕ) {x y : A} → x ≡ y → Wrote buf at (y ∷ []) (set buf at x) (at + 1)
wrote_one buf at e = record { place = refl; holds = ap (set buf at) e }

pub wrote_nothing : {A : Type 0} (buf : List A) (at : ℕ) → Wrote buf at [] buf at
wrote_nothing buf at = record { place = omega arith; holds = refl }

-- one after the other
pub wrote_after : {A : Type 0} {buf b₁ b₂ : List A} {at a r : ℕ} {xs ys : List A} → Wrote buf at xs b₁ a → Wrote b₁ a ys b₂ r → Wrote buf at (xs ++ ys) b₂ r
wrote_after {buf = buf} {at = at} {xs = xs} {ys = ys} p q =
    let i = p.place in
    let j = q.place in
    let l = length-append xs ys in
    record { place = omega arith; holds = q.holds ∙ (λ t. sets (p.holds t) (i t) ys) ∙ sym (sets_append buf at xs ys) }

pub wrote_recast : {A : Type 0} {buf new : List A} {at next : ℕ} {xs ys : List A} → xs ≡ ys → Wrote buf at xs new next → Wrote buf at ys new next
wrote_recast e p = rw (← e) p

pub wrote_length : {A : Type 0} {buf new : List A} {at next : ℕ} {xs : List A} → Wrote buf at xs new next → length new ≡ length buf
wrote_length {buf = buf} {at = at} {xs = xs} p = ap length p.holds ∙ length-sets buf at xs

-- what fits, written from the first place on
pub wrote_filled : {A : Type 0} {buf new : List A} {next : ℕ} {xs : List A} → Wrote buf 0 xs new next → length xs ≤ length buf → new ≡ filled buf xs
wrote_filled {buf = buf} {xs = xs} p h =
    let e : 0 + length xs ≡ length xs = omega arith in
    p.holds ∙ (rw e at (sets-eq xs buf 0 (omega arith)))

-- past what is filled a buffer is as it was
pub past_filled : {A : Type 0} (before xs : List A) {n : ℕ} → length xs ≡ n → drop n (filled before xs) ≡ drop n before
past_filled before xs e = ap (λ m. drop m (filled before xs)) (sym e) ∙ drop-append_seam xs _ ∙ ap (λ m. drop m before) e
