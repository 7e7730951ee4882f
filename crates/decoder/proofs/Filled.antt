-- The loop that draws: one byte at a turn. Assumes nothing.
use Prim.Native.Nat.{ℕ, ◌+◌, ◌≤◌}
use native.Mathlib.Omega.{arith}
use lib.ListN.{length, set}
use mathlib.Core.Path.{◌≡◌, sym, ◌∙◌, ap}
use mathlib.Core.List.{List, [], ◌∷◌, ◌++◌, map, map-append}
use Rattle.answers.specs.Lent.{filled, Wrote}
use Rattle.answers.proofs.Lent.{wrote_one, wrote_after, wrote_recast, wrote_filled}
use Rattle.answers.specs.Lists.{up_to}
use Rattle.answers.proofs.Elements.{from_last, made_long}

up_to_last : (f : ℕ → ℕ) (x : ℕ) → map f (up_to (x + 1)) ≡ map f (up_to x) ++ (f x ∷ [])
up_to_last f x = let e : 0 + x ≡ x = omega arith in ap (map f) (from_last 0 x) ∙ map-append f (up_to x) ((0 + x) ∷ []) ∙ ap (λ y. map f (up_to x) ++ (f y ∷ [])) e

-- f of each number below x stands in the buffer
pub record Filling (f : ℕ → ℕ) (buf₀ buf : List ℕ) (x : ℕ) : Type 0 where
  pub wrote : Wrote buf₀ 0 (map f (up_to x)) buf x

module _ {f : ℕ → ℕ} {buf₀ buf : List ℕ} {x : ℕ} (p : Filling f buf₀ buf x) where
  pub fill_on : {v : ℕ} → v ≡ f x → Filling f buf₀ (set buf x v) (x + 1)
  fill_on e = record { wrote = wrote_recast (sym (up_to_last f x)) (wrote_after p.wrote (wrote_one buf x e)) }

  pub fill_end : {n : ℕ} → x ≡ n → n ≤ length buf₀ → buf ≡ filled buf₀ (map f (up_to n))
  fill_end e h =
      let l : length (map f (up_to x)) ≤ length buf₀ = omega (arith, made_long f x) in
      wrote_filled p.wrote l ∙ ap (λ n. filled buf₀ (map f (up_to n))) e
