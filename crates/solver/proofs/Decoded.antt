-- The drawings of a grid's satisfying assignments: each draws a solution of its own, and every solution is drawn. Assumes nothing.
use Prim.Native.Nat.{ℕ}
use lib.ListN.{length, replicate, length-replicate}
use mathlib.Core.Path.{◌≡◌, sym, ◌∙◌, ap, subst}
use mathlib.Core.Bool.{Bool}
use mathlib.Core.List.{List}
use Rattle.answers.specs.Lent.{unless_refused}
use Rattle.rules.specs.Record.{IsAccepted}
use Rattle.rules.specs.Board.{board_of}
use Rattle.rules.specs.Drawing.{SolutionBytes}
use Rattle.encoder.specs.Decoding.{decoded, bytes_of, Satisfying, DecodesTo}
use Rattle.encoder_theory.proofs.Theorems.{decodes_to_solution, comes_from_one, comes_from_only_one}

abbrev pub draws : List ℕ → List Bool → List ℕ
draws s a = decoded (board_of s) (bytes_of a)

-- what the decoder hands out is what it draws
pub hands_drawn : (s : List ℕ) {a : List Bool} {ds : List ℕ} → DecodesTo s a ds → draws s a ≡ ds
hands_drawn s {a} h =
    let zeros : List ℕ = replicate (board_of s).size 0 in
    let long : length zeros ≡ (board_of s).size = length-replicate (board_of s).size 0 in
    sym (ap (λ t. unless_refused t zeros (draws s a)) (h.says zeros long)) ∙ h.hands zeros long

module _ (s : List ℕ) (acc : IsAccepted s) where
  pub draws_decoded : (a : List Bool) → Satisfying s a → DecodesTo s a (draws s a)
  draws_decoded a h = let d = decodes_to_solution s acc a h in subst (DecodesTo s a) (sym (hands_drawn s d.1)) d.1

  pub draws_solution : (a : List Bool) → Satisfying s a → SolutionBytes (board_of s) (draws s a)
  draws_solution a h = let d = decodes_to_solution s acc a h in subst (SolutionBytes (board_of s)) (sym (hands_drawn s d.1)) d.2

  pub draws_apart : (a c : List Bool) → Satisfying s a → Satisfying s c → draws s a ≡ draws s c → a ≡ c
  draws_apart a c h k e = comes_from_only_one s acc (draws s c) a c h (subst (DecodesTo s a) e (draws_decoded a h)) k (draws_decoded c k)

  pub drawn_by : (ds : List ℕ) → SolutionBytes (board_of s) ds → (a : List Bool) × Satisfying s a × (ds ≡ draws s a)
  drawn_by ds S = let (a, h, d) = comes_from_one s acc ds S in (a, h, sym (hands_drawn s d))
