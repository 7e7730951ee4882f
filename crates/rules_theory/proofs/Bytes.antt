-- Which bytes a cell allows, and which have no links. Assumes nothing.
use Prim.Native.Nat.{ℕ, ◌≤◌, ◌<◌}
use native.Mathlib.Omega.{arith}
use native.Mathlib.Decide.{dec_lt, dec_le}
use lib.Dec.{eqb, leb, ltb}
use borrow.Author.Tests.{eqb-true, eqb-false, ltb-false, leb-false, le-leb, not-false}
use mathlib.Core.Path.{◌≡◌, refl, sym, ap}
use mathlib.Core.Bool.{Bool, true, false, not, ◌&&◌, ◌||◌}
use mathlib.Core.Logic.{inl, inr, ◌↔◌}
use Rattle.answers.specs.First.{first_from}
use Rattle.answers.proofs.First.{first_none}
use Rattle.answers.proofs.Bools.{or_neither, other_half}
use Rattle.rules.specs.declared.Direction.{Direction}
use Rattle.rules.specs.declared.Direction.TheVariants.{North as north, East as east, South as south, West as west}
use Rattle.rules.specs.Directions.{bit}
use Rattle.rules.specs.Drawing.{link_sum, byte_link, Allowed}
use Rattle.rules.specs.Judge.{bad_byte}
use Rattle.rules_theory.proofs.Directions.{all_four}

-- a sum of links is below 16
pub sum_small : (p : Direction → Bool) → link_sum p < 16
sum_small p = omega (arith, small (p north), small (p east), small (p south), small (p west))
  where
    small : (t : Bool) → bit t ≤ 1
    small true = omega arith
    small false = omega arith

-- and each number below 16 is the sum of its links: all are tried
pub sum_back : (v : ℕ) → v < 16 → link_sum (byte_link v) ≡ v
unfolding first_from
sum_back v h = eqb-true _ _ (not-false _ (first_none (λ v. not (eqb (link_sum (byte_link v)) v)) 16 refl v h))

-- the same links have the same sum
pub sum_same : (p q : Direction → Bool) → ((d : Direction) → p d ≡ q d) → link_sum p ≡ link_sum q
sum_same p q h = rw (h north, h east, h south, h west)

-- a byte that is not bad at an open cell
open_small : (v : ℕ) → bad_byte true v ≡ false → v ≤ 16
open_small v h = by (dec_le 0x11 v)
  where
    p : (ltb 0x20 v || (leb 0x11 v && leb v 0x1F) ≡ false) × (eqb v 0x20 ≡ false)
    p = or_neither (ltb 0x20 v || (leb 0x11 v && leb v 0x1F)) (eqb v 0x20) h

    q : (ltb 0x20 v ≡ false) × (leb 0x11 v && leb v 0x1F ≡ false)
    q = or_neither (ltb 0x20 v) (leb 0x11 v && leb v 0x1F) p.0

    by : Dec (0x11 ≤ v) → v ≤ 16
    by (yes l) =
        absurd (eqb-false v 0x20 p.1 (omega (
          arith,
          ltb-false 0x20 v q.0,
          leb-false v 0x1F
              (other_half (leb 0x11 v) (leb v 0x1F) q.1 (le-leb 0x11 v l)),
        )))
    by (no l) = omega arith

small_open : (v : ℕ) → v < 17 → bad_byte true v ≡ false
unfolding first_from
small_open v h = first_none (bad_byte true) 17 refl v h

-- the judge's test of a byte is what document 01 allows
pub allowed_byte : (o : Bool) (v : ℕ) → bad_byte o v ≡ false ↔ Allowed o v
allowed_byte true v = (λ h. by (dec_lt v 16) (open_small v h), back)
  where
    by : Dec (v < 16) → v ≤ 16 → Allowed true v
    by (yes l) h = inr (byte_link v, sym (sum_back v l))
    by (no l) h = inl (omega arith)

    back : Allowed true v → bad_byte true v ≡ false
    back (inl e) = small_open v (omega arith)
    back (inr (p, e)) = small_open v (omega (arith, sum_small p))
allowed_byte false v =
    (λ h. eqb-true v 0x20 (not-false _ (or_neither (ltb 0x20 v || (leb 0x11 v && leb v 0x1F)) (not (eqb v 0x20)) h).1), λ e. ap (bad_byte false) e)

-- no links: beyond the board, at a black cell, at a cell that is not open
pub no_links_0 : (d : Direction) → byte_link 0 d ≡ false
no_links_0 = all_four (λ d. byte_link 0 d ≡ false) refl refl refl refl

pub no_links_10 : (d : Direction) → byte_link 0x10 d ≡ false
no_links_10 = all_four (λ d. byte_link 0x10 d ≡ false) refl refl refl refl

pub no_links_20 : (d : Direction) → byte_link 0x20 d ≡ false
no_links_20 = all_four (λ d. byte_link 0x20 d ≡ false) refl refl refl refl
