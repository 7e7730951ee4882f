-- Laws of the place of a refused text, for any notion of an accepted text. Assumes nothing.
use Prim.Native.Nat.{ℕ, suc, ◌≤◌, ◌<◌}
use native.Mathlib.Omega.{arith}
use native.Mathlib.Decide.{dec_lt}
use lib.ListN.{length, take, drop, take-append-drop}
use lib.Seq.{take-take}
use mathlib.Core.Path.{◌≡◌, sym, subst}
use mathlib.Core.Logic.{◌↔◌}
use mathlib.Core.List.{List, ◌++◌, append_assoc}
use Rattle.dimacs_theory.specs.Place.{Begins, Refused}

-- the same place for the same texts
pub refused_as : {P Q : List ℕ → Type 0} {text : List ℕ} {k : ℕ} → ((text : List ℕ) → P text ↔ Q text) → Refused P text k → Refused Q text k
refused_as {P} {Q} {text} {k} same r =
    record {
      within = r.within;
      before = onto (take k text) r.before;
      inside = λ h b. r.inside h (b.0, (same (take (suc k) text ++ b.0)).1 b.1);
      too_soon = λ h. let t = r.too_soon h in (onto text t.0, λ q. t.1 ((same text).1 q));
    }
  where
    onto : (front : List ℕ) → Begins P front → Begins Q front
    onto front b = (b.0, (same (front ++ b.0)).0 b.1)

-- a beginning of a beginning
begins_less : (P : List ℕ → Type 0) (text : List ℕ) (i j : ℕ) → i ≤ j → Begins P (take j text) → Begins P (take i text)
begins_less P text i j h b = (drop i (take j text) ++ b.0, subst P (sym whole) b.1)
  where
    whole : take i text ++ (drop i (take j text) ++ b.0) ≡ take j text ++ b.0
    whole = rw (← take-take i j text h, ← append_assoc, take-append-drop)

module _ {P : List ℕ → Type 0} {text : List ℕ} where
  -- a text that has a place is not accepted, and it has one place
  pub refused-not : {k : ℕ} → Refused P text k → P text → ⊥
  refused-not {k} r p = by (dec_lt k (length text))
    where
      by : Dec (k < length text) → ⊥
      by (yes h) = r.inside h (drop (suc k) text, subst P (sym (take-append-drop (suc k) text)) p)
      by (no h) = let w = r.within in (r.too_soon (omega arith)).1 p

  pub refused_once : {j k : ℕ} → Refused P text j → Refused P text k → j ≡ k
  refused_once {j} {k} r q = by (dec_lt j k) (dec_lt k j)
    where
      never : {i m : ℕ} → Refused P text i → Refused P text m → i < m → ⊥
      never {i} {m} r q h = let w = q.within in r.inside (omega arith) (begins_less P text (suc i) m h q.before)

      by : Dec (j < k) → Dec (k < j) → j ≡ k
      by (yes h) d = absurd (never r q h)
      by (no h) (yes d) = absurd (never q r d)
      by (no h) (no d) = omega arith
