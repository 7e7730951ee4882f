-- The values of variables by their places, and the links and bytes that they give. Assumes nothing.
use Prim.Native.Nat.{ℕ, ◌+◌, ◌-◌, ◌<◌}
use native.Mathlib.Omega.{arith}
use native.Mathlib.Nat.{zero-add}
use lib.ListN.{length, get_or}
use borrow.Author.Tests.{eq-eqb, ne_eqb}
use mathlib.Core.Path.{◌≡◌, refl, sym, ◌∙◌, ap}
use mathlib.Core.Bool.{Bool, true, false, cond, ◌||◌}
use Rattle.std.specs.Prelude.{Option, None, Some}
use Rattle.answers.proofs.Options.{some-none}
use mathlib.Core.List.{List}
use Rattle.answers.proofs.Bools.{off}
use Rattle.rules.specs.declared.Direction.{Direction}
use Rattle.rules.specs.declared.board.Board as code
use Rattle.rules.specs.Directions.{opposite, bit}
use Rattle.rules.specs.Board.{Board}
use Rattle.rules.specs.Read.{rules_board}
use Rattle.rules.specs.Drawing.{link_sum}
use Rattle.rules.specs.Judge.{there}
use Rattle.rules.proofs.Boards.{Laws}
use Rattle.encoder.specs.Variables.{Variable, Z, E, variables, variable_count, place, number}
use Rattle.encoder.specs.Decoding.{value_of, drawn_link, drawn_byte}
use Rattle.encoder.proofs.Known.{Known, in_variables}
use Rattle.encoder.proofs.Places.{place_z}
use Rattle.encoder.proofs.Values.{value_known}
use Rattle.encoder.proofs.Bounds.{place_below}
use Rattle.encoder_numbers.specs.declared.Sizes.{Sizes}
use Rattle.encoder_numbers.specs.Tables.{sizes_below, if_open_cell, open_neighbour, OpenPair}
use Rattle.encoder_numbers.proofs.Neighbours.{fits_laws}

-- a link, by the values of E either way
module _ (b : Board) (w : Variable → Bool) where
  link_none : (x : ℕ) (d : Direction) → w (E x d) ≡ false → None ≡ b.next d x → 0 ≡ bit (drawn_link b w x d)
  link_none x d h e = (λ i. bit (sym h i || there (λ y. w (E y (opposite d))) (e i)))

  link_some : (x y : ℕ) (d : Direction) {t u : Bool} → Some y ≡ b.next d x → w (E x d) ≡ t → w (E y (opposite d)) ≡ u
      → bit (t || u) ≡ bit (drawn_link b w x d)
  link_some x y d e h k = (λ i. bit (sym h i || sym k i)) ∙ ap (λ o. bit (w (E x d) || there (λ y. w (E y (opposite d))) o)) e

-- as many values as there are variables
module _ (board : code.Board) (values : List ℕ) (long : length values ≡ variable_count (rules_board board)) where
  abbrev b : Board
  b = rules_board board

  abbrev w : Variable → Bool
  w = value_of b values

  law : Laws b
  law = fits_laws board.fits

  -- only a variable has a value that holds
  proper : (v : Variable) → w v ≡ true → Known b v
  proper = value_known b values long

  -- a variable's place by the code's arithmetic, and what stands there
  pub known_inside : (v : Variable) {i : ℕ} → Known b v → i ≡ place v (variables b) → i < length values
  known_inside v k e = let l = place_below v (in_variables b law v k) in omega arith

  pub value_true : (v : Variable) {i : ℕ} → i ≡ place v (variables b) → get_or values i 0 ≡ 1 → w v ≡ true
  value_true v e h = eq-eqb _ _ (ap (λ i. get_or values i 0) (sym e) ∙ h)

  pub value_false : (v : Variable) {i : ℕ} → i ≡ place v (variables b) → (get_or values i 0 ≡ 1 → ⊥) → w v ≡ false
  value_false v e h = ne_eqb _ _ (λ k. h (ap (λ i. get_or values i 0) e ∙ k))

  pub at_z : (x : ℕ) {z : Sizes} → b.is_open x ≡ true → z ≡ sizes_below board.grid board.record.now x → z.opens ≡ place (Z x) (variables b)
  at_z x h e = ap (λ (z : Sizes). z.opens) e ∙ sym (place_z b law x h)

  -- E(x,d) of two open cells: its number is one more than its place
  module _ {x : ℕ} {d : Direction} {y : ℕ} (q : OpenPair board.grid board.record.now x d y) {n : ℕ} (e : n ≡ number b (E x d)) where
    link_known : Known b (E x d)
    link_known = (q.here.opened, (y, q.leads, q.there.opened))

    link_at : n - 1 ≡ place (E x d) (variables b)
    link_at = omega arith

    pub link_inside : n - 1 < length values
    link_inside = known_inside (E x d) link_known link_at

  -- no link towards the edge or a cell that is not open
  pub link_nowhere : (x : ℕ) (d : Direction) → None ≡ open_neighbour b d x → 0 ≡ bit (drawn_link b w x d)
  link_nowhere x d e = by (b.next d x) refl e
    where
      none_out : (o : Option ℕ) → b.next d x ≡ o → None ≡ if_open_cell b o → w (E x d) ≡ false
      none_out o q e =
          off _
          (λ h. let (k, (y, l, i)) = proper (E x d) h in some-none y (sym (e ∙ ap (if_open_cell b) (sym q ∙ l) ∙ ap (λ t. cond t (Some y) None) i)))

      by : (o : Option ℕ) → b.next d x ≡ o → None ≡ if_open_cell b o → 0 ≡ bit (drawn_link b w x d)
      by None q e = link_none b w x d (none_out None q e) (sym q)
      by (Some y) q e =
          link_some b w x y d (sym q) (none_out (Some y) q e)
          (off _ (λ t. some-none y (sym (e ∙ ap (λ t. cond t (Some y) None) (proper (E y (opposite d)) t).0))))

-- the byte of an open cell
module _ (b : Board) (w : Variable → Bool) (x : ℕ) where
  abbrev byte : Bool → Bool → ℕ
  byte o black = drawn_byte o black (drawn_link b w x)

  module _ {n : ℕ} (h : b.is_open x ≡ true) (e : n ≡ link_sum (drawn_link b w x)) where
    pub byte_black : w (Z x) ≡ true → 0x10 + n ≡ byte (b.is_open x) (w (Z x))
    byte_black k = ap (λ n. 0x10 + n) e ∙ (λ i. byte (sym h i) (sym k i))

    pub byte_white : w (Z x) ≡ false → n ≡ byte (b.is_open x) (w (Z x))
    byte_white k = e ∙ sym (zero-add _) ∙ (λ i. byte (sym h i) (sym k i))
