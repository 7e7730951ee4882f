-- Tests that are true or false, by their parts. Assumes nothing.
use mathlib.Core.Path.{◌≡◌, refl, sym, ◌∙◌}
use mathlib.Core.Bool.{Bool, true, false, not, ◌&&◌, ◌||◌, true≢false}
use mathlib.Core.Logic.{◌⊎◌, inl, inr}

-- no test is both
pub clash : {A : Type 0} {t : Bool} → t ≡ true → t ≡ false → A
clash h k = absurd (true≢false (sym h ∙ k))

pub off : (t : Bool) → (t ≡ true → ⊥) → t ≡ false
off true h = absurd (h refl)
off false h = refl

pub true_not : (t : Bool) → t ≡ true → not t ≡ false
true_not true h = refl
true_not false h = clash h refl

pub and_both : (p q : Bool) → p && q ≡ true → (p ≡ true) × (q ≡ true)
and_both true q h = (refl, h)
and_both false q h = clash h refl

pub both_and : (p q : Bool) → p ≡ true → q ≡ true → p && q ≡ true
both_and p q h k = rw (h, k)

-- a test that is false, and one half of it true
pub other_half : (p q : Bool) → p && q ≡ false → p ≡ true → q ≡ false
other_half true q h k = h
other_half false q h k = clash k refl

-- a test is false if its second half is, wherever the first holds
pub and_off : (p q : Bool) → (p ≡ true → q ≡ false) → p && q ≡ false
and_off true q f = f refl
and_off false q f = refl

pub or_cases : (p q : Bool) → p || q ≡ true → (p ≡ true) ⊎ (q ≡ true)
or_cases true q h = inl refl
or_cases false q h = inr h

pub or_left : (p q : Bool) → p ≡ true → p || q ≡ true
or_left p q h = rw h

pub or_right : (p q : Bool) → q ≡ true → p || q ≡ true
or_right true q h = refl
or_right false q h = h

pub or_neither : (p q : Bool) → p || q ≡ false → (p ≡ false) × (q ≡ false)
or_neither true q h = clash refl h
or_neither false q h = (refl, h)

-- two tests that follow from each other
pub same_tests : (p q : Bool) → (p ≡ true → q ≡ true) → (q ≡ true → p ≡ true) → p ≡ q
same_tests true q f g = sym (f refl)
same_tests false q f g = sym (off q (λ h. clash (g h) refl))
