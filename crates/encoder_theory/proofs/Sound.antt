-- A valuation that makes the clauses true draws a solution. Assumes nothing.
use Prim.Native.Nat.{ℕ, ◌≤◌}
use lib.ListN.{length}
use lib.Dec.{eqb}
use mathlib.Core.Path.{◌≡◌, refl, sym, ◌∙◌, ap, fun_ext}
use mathlib.Core.Bool.{Bool, true, false, ◌&&◌}
use Rattle.answers.specs.Lists.{how_many, ◌∈◌}
use Rattle.answers.proofs.Bools.{clash}
use Rattle.rules.specs.Board.{Clue, Board}
use Rattle.rules.specs.Drawing.{Drawing, blacks_nearest, Solution}
use Rattle.rules.proofs.Boards.{Laws}
use Rattle.encoder.specs.Variables.{Variable, Z, T}
use Rattle.encoder.specs.Clauses.{clauses}
use Rattle.encoder.specs.Decoding.{drawn_link}
use Rattle.answers.proofs.Elements.{all_in}
use Rattle.encoder_theory.specs.Valuations.{Holds}
use Rattle.encoder_theory.proofs.Oriented.{oriented_links, all_reached}
use Rattle.encoder_theory.proofs.Valuations.{Proper}
use Rattle.encoder_theory.proofs.ClueLine.{black, counts, clue_met}
use Rattle.encoder_theory.proofs.Read.{clue-at, untouched, some_start, start_first, sent}

-- Z gives black; a link is drawn, at both its cells, where E holds either way
abbrev pub drawing_of : Board → (Variable → Bool) → Drawing
drawing_of b w = record { black = λ x. w (Z x); link = drawn_link b w }

-- open and black is black
pub open_black : (is_open black : ℕ → Bool) → ((x : ℕ) → black x ≡ true → is_open x ≡ true) → (λ x. is_open x && black x) ≡ black
open_black is_open black only = fun_ext (λ x. by x (is_open x) refl (black x) refl)
  where
    by : (x : ℕ) (o : Bool) → is_open x ≡ o → (t : Bool) → black x ≡ t → o && black x ≡ black x
    by x true e t f = refl
    by x false e true f = clash (only x f) e
    by x false e false f = sym f

module _ (b : Board) (law : Laws b) (w : Variable → Bool) (proper : Proper b w) (holds : Holds w (clauses b)) where
  blacks_open : (c : Clue) → black w b.is_open c.cell c.number ≡ (λ x. w (Z x))
  blacks_open c = open_black b.is_open (λ x. w (Z x)) (λ x. proper (Z x))

  -- T(j,t) of a clue holds if t of the j cells of its line nearest its far end are black, and not otherwise
  pub counted : (c : Clue) → c ∈ b.clues → (j t : ℕ) → j ≤ length c.line → t ≤ c.number
      → w (T c.cell j t) ≡ eqb (blacks_nearest (λ x. w (Z x)) c.line j) t
  counted c m j t h k =
      counts w b.is_open c.cell c.number c.line (clue-at b law w proper holds c m) j t h k
      ∙ ap (λ f. eqb (blacks_nearest f c.line j) t) (blacks_open c)

  pub sound : Solution b (drawing_of b w)
  sound =
      let (s, h) = some_start b law w proper holds in
      let first = start_first b law w proper holds s h in
      let N = sent b law w proper holds s h in
      record {
        only_open = λ x h. proper (Z x) h;
        untouched = untouched b law w proper holds;
        met = all_in (λ (c : Clue). how_many (λ x. w (Z x)) c.line ≡ c.number) b.clues
            (λ c m.
            ap (λ f. how_many f c.line) (sym (blacks_open c))
            ∙ clue_met w b.is_open c.cell c.number c.line (clue-at b law w proper holds c m));
        links = oriented_links law.wired N.oriented;
        whole = (s, first.below, first.holds, all_reached law.wired N.oriented N.counted);
      }
