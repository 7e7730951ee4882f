-- What clauses of a few literals say of a valuation. Assumes nothing.
use mathlib.Core.Path.{◌≡◌, refl, sym, ◌∙◌, ap}
use mathlib.Core.Bool.{Bool, true, false}
use mathlib.Core.Logic.{inl, inr}
use mathlib.Core.List.Memᴰ
use mathlib.Core.List.{List, [], ◌∷◌, map}
use Rattle.answers.specs.Lists.{◌∈◌, Apart}
use Rattle.answers.proofs.Bools.{clash}
use Rattle.encoder.specs.Variables.{Variable}
use Rattle.encoder.specs.Clauses.{plus, minus, Clause, not_both, pairs}
use Rattle.answers.proofs.Elements.{all_left, all_right, all_append, all_map, map_at}
use Rattle.encoder_theory.specs.Valuations.{Sat, Holds}

module _ (w : Variable → Bool) where
  pub unit-plus : (a : Variable) → Sat w (plus a ∷ []) → w a ≡ true
  unit-plus a (inl h) = h
  unit-plus a (inr h) = absurd h

  pub unit-minus : (a : Variable) → Sat w (minus a ∷ []) → w a ≡ false
  unit-minus a (inl h) = h
  unit-minus a (inr h) = absurd h

  -- after a literal that is not true comes one that is
  pub next-minus : (a : Variable) (c : Clause) → Sat w (minus a ∷ c) → w a ≡ true → Sat w c
  next-minus a c (inl h) k = clash k h
  next-minus a c (inr h) k = h

  pub next-plus : (a : Variable) (c : Clause) → Sat w (plus a ∷ c) → w a ≡ false → Sat w c
  next-plus a c (inl h) k = clash h k
  next-plus a c (inr h) k = h

  pub not-both : (a b : Variable) → Sat w (not_both a b) → w a ≡ true → w b ≡ true → ⊥
  not-both a b h p q = clash q (unit-minus b (next-minus a (minus b ∷ []) h p))

  pub implies : (a b : Variable) → Sat w (minus a ∷ plus b ∷ []) → w a ≡ true → w b ≡ true
  implies a b h p = unit-plus b (next-minus a (plus b ∷ []) h p)

  -- and back: to make a clause true, look at its first literal
  pub by_minus : (a : Variable) (c : Clause) → (w a ≡ true → Sat w c) → Sat w (minus a ∷ c)
  by_minus a c f = go (w a) refl
    where
      go : (t : Bool) → w a ≡ t → Sat w (minus a ∷ c)
      go true e = inr (f e)
      go false e = inl e

  pub by_plus : (a : Variable) (c : Clause) → (w a ≡ false → Sat w c) → Sat w (plus a ∷ c)
  by_plus a c f = go (w a) refl
    where
      go : (t : Bool) → w a ≡ t → Sat w (plus a ∷ c)
      go true e = inl e
      go false e = inr (f e)

  pub both_not : (a b : Variable) → (w a ≡ true → w b ≡ true → ⊥) → Sat w (not_both a b)
  both_not a b f = by_minus a (minus b ∷ []) (λ p. by_minus b [] (λ q. f p q))

  -- one of a list is true
  pub some_plus : (vs : List Variable) → Sat w (map plus vs) → (v : Variable) × (v ∈ vs) × (w v ≡ true)
  some_plus [] h = absurd h
  some_plus (v ∷ vs) (inl h) = (v, Memᴰ.head refl, h)
  some_plus (v ∷ vs) (inr h) = let r = some_plus vs h in (r.0, Memᴰ.tail r.1, r.2)

  pub plus_some : (v : Variable) {vs : List Variable} → v ∈ vs → w v ≡ true → Sat w (map plus vs)
  plus_some v (Memᴰ.head e) h = inl (ap w (sym e) ∙ h)
  plus_some v (Memᴰ.tail m) h = inr (plus_some v m h)

  -- at most one of a list is true
  pub at_most_one : {a c : Variable} {vs : List Variable} → Holds w (pairs vs) → a ∈ vs → c ∈ vs → w a ≡ true → w c ≡ true → a ≡ c
  at_most_one h (Memᴰ.head e) (Memᴰ.head f) p q = e ∙ sym f
  at_most_one {c = c} h (Memᴰ.head {x = v} {xs = vs} e) (Memᴰ.tail n) p q =
      absurd (not-both v c (map_at (Sat w) (not_both v) (all_left (Sat w) (map (not_both v) vs) (pairs vs) h) n) (ap w (sym e) ∙ p) q)
  at_most_one {a = a} h (Memᴰ.tail {x = v} {xs = vs} m) (Memᴰ.head f) p q =
      absurd (not-both v a (map_at (Sat w) (not_both v) (all_left (Sat w) (map (not_both v) vs) (pairs vs) h) m) (ap w (sym f) ∙ q) p)
  at_most_one h (Memᴰ.tail {x = v} {xs = vs} m) (Memᴰ.tail n) p q = at_most_one (all_right (Sat w) (map (not_both v) vs) (pairs vs) h) m n p q

  pub one_at_most : (vs : List Variable) → Apart vs → ((a c : Variable) → a ∈ vs → c ∈ vs → w a ≡ true → w c ≡ true → a ≡ c) → Holds w (pairs vs)
  one_at_most [] h f = tt
  one_at_most (v ∷ vs) h f =
      all_append (Sat w) (map (not_both v) vs) (pairs vs)
      (all_map (Sat w) (not_both v) vs (λ u m. both_not v u (λ p q. h.0 u m (f v u (Memᴰ.head refl) (Memᴰ.tail m) p q))))
      (one_at_most vs h.1 (λ a c m n. f a c (Memᴰ.tail m) (Memᴰ.tail n)))
