-- A drawing and its bytes. Assumes nothing.
use Prim.Native.Nat.{ℕ, ◌/◌, ◌%◌, ◌≤◌, ◌<◌}
use native.Mathlib.Omega.{arith}
use native.Mathlib.Decide.{dec_lt}
use lib.Dec.{eqb}
use lib.ListN.{length, get_or, get_or-eq_default}
use lib.Seq.{ext_get_or}
use borrow.Author.Tests.{eq-eqb, ne_eqb}
use mathlib.Core.Path.{◌≡◌, refl, sym, ◌∙◌, ap, subst, fun_ext}
use mathlib.Core.Bool.{Bool, true, false}
use mathlib.Core.Logic.{inl, inr}
use mathlib.Core.List.{List, map}
use Rattle.answers.proofs.Bools.{clash, off}
use Rattle.rules.specs.declared.Direction.{Direction}
use Rattle.rules.specs.declared.Direction.TheVariants.{North as north, East as east, South as south, West as west}
use Rattle.rules.specs.Directions.{bit}
use Rattle.rules.specs.Board.{Board}
use Rattle.rules.specs.Drawing.{Drawing, Solution, weight, link_sum, byte_link, link_at, black_at, drawing_at, Allowed, SolutionBytes}
use Rattle.rules.proofs.Boards.{Laws}
use Rattle.rules_theory.proofs.Bytes.{sum_small, sum_same, no_links_0, no_links_10, no_links_20}
use Rattle.answers.specs.Lists.{up_to}
use Rattle.encoder.specs.Decoding.{drawn_byte}
use Rattle.answers.proofs.Elements.{made_long, made_at}
use Rattle.encoder_theory.proofs.Read.{of_white}

-- 1. One byte

pub bit_small : (t : Bool) → bit t ≤ 1
bit_small true = omega arith
bit_small false = omega arith

pub bit_is : (t : Bool) → eqb (bit t) 1 ≡ t
bit_is true = refl
bit_is false = refl

bits_small : (p : Direction → Bool) → (bit (p north) ≤ 1) × (bit (p east) ≤ 1) × (bit (p south) ≤ 1) × (bit (p west) ≤ 1)
bits_small p = (bit_small (p north), bit_small (p east), bit_small (p south), bit_small (p west))

-- a sum of links shows its links
sum_link : (p : Direction → Bool) (d : Direction) → byte_link (link_sum p) d ≡ p d
sum_link p d = ap (λ n. eqb n 1) (digit d) ∙ bit_is (p d)
  where
    digit : (d : Direction) → link_sum p / weight d % 2 ≡ bit (p d)
    digit north = omega (arith, bits_small p)
    digit east = omega (arith, bits_small p)
    digit south = omega (arith, bits_small p)
    digit west = omega (arith, bits_small p)

-- the byte of an open cell, black without links, or white
module _ (p : Direction → Bool) where
  abbrev Bare : Bool → Type 0
  Bare black = black ≡ true → (d : Direction) → p d ≡ false

  byte_black : Bare true → drawn_byte true true p ≡ 0x10
  byte_black h = let e : link_sum p ≡ 0 = sum_same p (λ d. false) (h refl) in omega arith

  byte_white : drawn_byte true false p ≡ link_sum p
  byte_white = omega arith

  shows_black : (z : Bool) → Bare z → eqb (drawn_byte true z p) 0x10 ≡ z
  shows_black true h = eq-eqb _ _ (byte_black h)
  shows_black false h = let l = sum_small p in ne_eqb (drawn_byte true false p) 0x10 (λ e. omega arith)

  shows_link : (z : Bool) → Bare z → (d : Direction) → byte_link (drawn_byte true z p) d ≡ p d
  shows_link true h d = ap (λ n. byte_link n d) (byte_black h) ∙ no_links_10 d ∙ sym (h refl d)
  shows_link false h d = ap (λ n. byte_link n d) byte_white ∙ sum_link p d

  shows_allowed : (z : Bool) → Bare z → Allowed true (drawn_byte true z p)
  shows_allowed true h = inl (byte_black h)
  shows_allowed false h = inr (p, byte_white)

-- and back: a byte that is allowed is made of what it shows
allowed_back : (o : Bool) (v : ℕ) → Allowed o v → drawn_byte o (eqb v 0x10) (byte_link v) ≡ v
allowed_back true v (inl e) = rw e refl
allowed_back true v (inr (p, e)) =
    rw e
    (let l = sum_small p in
    ap (λ z. drawn_byte true z (byte_link (link_sum p))) (ne_eqb (link_sum p) 0x10 (λ e. omega arith)) ∙ byte_white (byte_link (link_sum p))
    ∙ sum_same (byte_link (link_sum p)) p (sum_link p))
allowed_back false v e = sym e

-- 2. The list, cell by cell

abbrev pub bytes_for : Board → Drawing → List ℕ
bytes_for b D = map (λ x. drawn_byte (b.is_open x) (D.black x) (D.link x)) (up_to b.size)

module _ (b : Board) (D : Drawing) where
  abbrev byte : ℕ → ℕ
  byte x = drawn_byte (b.is_open x) (D.black x) (D.link x)

  bytes_long : length (bytes_for b D) ≡ b.size
  bytes_long = made_long byte b.size

  bytes_at : (x : ℕ) → x < b.size → get_or (bytes_for b D) x 0 ≡ drawn_byte (b.is_open x) (D.black x) (D.link x)
  bytes_at x h = made_at byte 0 b.size x h

  -- the drawing that the bytes of a solution are is that solution
  module _ (law : Laws b) (sol : Solution b D) where
    bare : (x : ℕ) → Bare (D.link x) (D.black x)
    bare x e d = off (D.link x d) (λ h. clash e (of_white b D.black x (sol.links.at_white x d h)).1)

    shut_black : (x : ℕ) → b.is_open x ≡ false → D.black x ≡ false
    shut_black x h = off (D.black x) (λ e. clash (sol.only_open x e) h)

    shut_link : (x : ℕ) (d : Direction) → b.is_open x ≡ false → D.link x d ≡ false
    shut_link x d h = off (D.link x d) (λ e. clash (of_white b D.black x (sol.links.at_white x d e)).0 h)

    -- what a byte shows: of an open cell what it was made of, elsewhere (0x20, or 0 beyond the board) nothing
    module _ {A : Type 0} (shows : ℕ → A) (x : ℕ) (is : A) (opened : shows (drawn_byte true (D.black x) (D.link x)) ≡ is)
        (shut : b.is_open x ≡ false → (shows 0x20 ≡ is) × (shows 0 ≡ is)) where
      shown : shows (get_or (bytes_for b D) x 0) ≡ is
      shown = by (dec_lt x b.size) (b.is_open x) refl
        where
          by : Dec (x < b.size) → (o : Bool) → b.is_open x ≡ o → shows (get_or (bytes_for b D) x 0) ≡ is
          by (yes l) true o = ap shows (bytes_at x l ∙ ap (λ t. drawn_byte t (D.black x) (D.link x)) o) ∙ opened
          by (yes l) false o = ap shows (bytes_at x l ∙ ap (λ t. drawn_byte t (D.black x) (D.link x)) o) ∙ (shut o).0
          by (no l) t o =
              ap shows (get_or-eq_default (bytes_for b D) 0 (omega (arith, bytes_long))) ∙ (shut (off (b.is_open x) (λ h. l (law.open_stays x h)))).1

    black_shown : (x : ℕ) → black_at (bytes_for b D) x ≡ D.black x
    black_shown x = shown (λ v. eqb v 0x10) x (D.black x) (shows_black (D.link x) (D.black x) (bare x)) (λ h. (sym (shut_black x h), sym (shut_black x h)))

    link_shown : (x : ℕ) (d : Direction) → link_at (bytes_for b D) x d ≡ D.link x d
    link_shown x d =
        shown (λ v. byte_link v d) x (D.link x d) (shows_link (D.link x) (D.black x) (bare x) d)
        (λ h. (no_links_20 d ∙ sym (shut_link x d h), no_links_0 d ∙ sym (shut_link x d h)))

    pub drawing_shown : drawing_at (bytes_for b D) ≡ D
    drawing_shown = λ t. record { black = fun_ext black_shown t; link = fun_ext (λ x. fun_ext (link_shown x)) t }

    -- so they are a solution as bytes
    pub solution_bytes : SolutionBytes b (bytes_for b D)
    solution_bytes =
        record {
          long = bytes_long;
          allowed = λ x h. subst (Allowed (b.is_open x)) (sym (bytes_at x h)) (by x (b.is_open x));
          solution = subst (Solution b) (sym drawing_shown) sol;
        }
      where
        by : (x : ℕ) (o : Bool) → Allowed o (drawn_byte o (D.black x) (D.link x))
        by x true = shows_allowed (D.link x) (D.black x) (bare x)
        by x false = refl

-- the bytes of a solution are those of the drawing that they are
pub bytes_back : (b : Board) (ds : List ℕ) → SolutionBytes b ds → bytes_for b (drawing_at ds) ≡ ds
bytes_back b ds S =
    ext_get_or 0 (bytes_for b (drawing_at ds)) ds (bytes_long b (drawing_at ds) ∙ sym S.long)
    (λ x h.
    let l : x < b.size = omega (arith, bytes_long b (drawing_at ds)) in
    bytes_at b (drawing_at ds) x l ∙ allowed_back (b.is_open x) (get_or ds x 0) (S.allowed x l))
