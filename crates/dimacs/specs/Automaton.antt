-- An automaton over bytes: from a state and a byte to the next state, or to none: the byte is refused.
use Rattle.std.specs.Prelude.{ℕ, suc, Bool, not, List, [], ◌∷◌, Option, None, Some}
use Rattle.answers.specs.First.{found}

abbrev pub next : {S A : Type 0} → Option S → A → (S → A) → A
next None dead go = dead
next (Some s) dead go = go s

module _ {S : Type 0} (step : S → ℕ → Option S) where
  -- the state after a text
  unfoldable pub end_from : S → List ℕ → Option S
  end_from s [] = Some s
  end_from s (b ∷ bs) = next (step s b) None (λ t. end_from t bs)

  -- the place of the first byte that is refused, or the text's length if it ends in a state that does not accept
  unfoldable pub refused_from : (S → Bool) → S → List ℕ → ℕ → Option ℕ
  refused_from accepts s [] at = found (not (accepts s)) at None
  refused_from accepts s (b ∷ bs) at = next (step s b) (Some at) (λ t. refused_from accepts t bs (suc at))
