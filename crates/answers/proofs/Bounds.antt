-- Laws of the first place at which a test holds, or the bound. Assumes nothing.
use Prim.Native.Nat.{ℕ, ◌≤◌, ◌<◌}
use native.Mathlib.Omega.{arith}
use native.Mathlib.Decide.{dec_lt}
use mathlib.Core.Path.{◌≡◌, refl, sym, ◌∙◌}
use mathlib.Core.Bool.{Bool, true, ◌||◌}
use Rattle.std.specs.Prelude.{None, Some}
use Rattle.answers.specs.First.{first_where, Until}
use Rattle.answers.proofs.Bools.{or_left, or_right}
use Rattle.answers.proofs.First.{Seeking, seek_found, seek_none}

-- where a loop that seeks it stops
module _ {p : ℕ → Bool} {n i : ℕ} (s : Seeking p n i) where
  pub until_here : i < n → p i ≡ true → Until p n i
  until_here h e = record { within = omega arith; none_yet = s.none_yet; stops = λ l. e }

  pub until_end : n ≤ i → Until p n n
  until_end h = record { within = omega arith; none_yet = λ k l. s.none_yet k (omega arith); stops = λ l. absurd (omega arith) }

module _ {p : ℕ → Bool} {n m : ℕ} (u : Until p n m) where
  seeking : Seeking p n m
  seeking = record { within = u.within; none_yet = u.none_yet }

  pub until_found : m < n → Some m ≡ first_where p n
  until_found h = seek_found seeking h (u.stops h) refl

  pub until_none : n ≤ m → None ≡ first_where p n
  until_none h = seek_none seeking h refl

  -- one test, and another below that place: the first place of either
  pub until_both : {q : ℕ → Bool} {r : ℕ} → Until q m r → Until (λ i. p i || q i) n r
  until_both {q} {r} x =
      let a = u.within in
      let b = x.within in
      record { within = omega arith; none_yet = λ k h. rw (u.none_yet k (omega arith), x.none_yet k h); stops = λ h. by h (dec_lt r m) }
    where
      by : r < n → Dec (r < m) → p r || q r ≡ true
      by h (yes l) = or_right (p r) (q r) (x.stops l)
      by h (no l) = let b = x.within in let z : r ≡ m = omega arith in or_left (p r) (q r) (rw z (u.stops (omega arith)))

  -- tests that agree below n
  pub until_same : {q : ℕ → Bool} → ((k : ℕ) → k < n → p k ≡ q k) → Until q n m
  until_same h = let w = u.within in record { within = w; none_yet = λ k l. sym (h k (omega arith)) ∙ u.none_yet k l; stops = λ l. sym (h m l) ∙ u.stops l }
