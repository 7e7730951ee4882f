-- Laws of lines: the text of an element, the lines from an element on, the loop that counts bytes. Assumes nothing.
use Prim.Native.Nat.{ℕ, suc, ◌+◌, ◌*◌, ◌/◌, ◌%◌, ◌≤◌, ◌<◌, ◌^◌}
use native.Mathlib.Omega.{arith}
use native.Mathlib.Numerals.{add-one}
use borrow.Author.Tests.{lt-ltb, le-ltb}
use lib.IntN.{ℤ, pos, negsuc}
use lib.ListN.{length, get_or, drop, length-append, drop_of_length-le}
use lib.Seq.{drop-cons}
use mathlib.Core.Path.{◌≡◌, sym, ◌∙◌, ap}
use mathlib.Core.List.{List, [], ◌∷◌, ◌++◌, append_assoc}
use Rattle.std.specs.Prelude.{Some, None}
use Rattle.cnf.specs.Literals.{code_of}
use Rattle.text.specs.Decimal.{line_feed, space, decimal}
use Rattle.dimacs.specs.Text.{signed, behind, lines, header_line}
use Rattle.dimacs_writer.specs.Writer.{written, counted}

-- the length of an element's text
signed-length : (l : ℤ) → length (signed l) ≡ length (decimal (code_of l / 2)) + code_of l % 2
signed-length (pos n) = let e : n * 2 / 2 ≡ n = omega arith in rw e (omega arith)
signed-length (negsuc n) = let e : (suc n * 2 + 1) / 2 ≡ suc n = omega arith in rw e (omega arith)

pub written-length : {k : ℕ} (l : ℤ) → k ≡ code_of l → length (decimal (k / 2)) + k % 2 + 1 ≡ length (written l)
written-length {k} l e =
    let s : length (signed l) ≡ length (decimal (k / 2)) + k % 2 = signed-length l ∙ ap (λ (m : ℕ). length (decimal (m / 2)) + m % 2) (sym e) in
    let a = length-append (signed l) (behind l ∷ []) in
    omega arith

-- the header's length
pub header_length : (v c : ℕ) → 8 + length (decimal v) + length (decimal c) ≡ length (header_line v c)
header_length v c =
    let a = length-append (decimal v) (space ∷ decimal c ++ (line_feed ∷ [])) in
    let b = length-append (decimal c) (line_feed ∷ []) in
    omega arith

-- the lines from element i on
pub lines_from : (ls : List ℤ) (i : ℕ) → i < length ls → written (get_or ls i (pos 0)) ++ lines (drop (i + 1) ls) ≡ lines (drop i ls)
unfolding lines
lines_from ls i h = rw (add-one, drop-cons ls i (pos 0)) (append_assoc (signed (get_or ls i (pos 0))) (behind (get_or ls i (pos 0)) ∷ []) (lines (drop (suc i) ls)))

pub lines-length : (ls : List ℤ) (i : ℕ) → i < length ls → length (lines (drop i ls)) ≡ length (written (get_or ls i (pos 0))) + length (lines (drop (i + 1) ls))
lines-length ls i h = ap length (sym (lines_from ls i h)) ∙ length-append (written (get_or ls i (pos 0))) (lines (drop (i + 1) ls))

pub lines_end : (ls : List ℤ) (i : ℕ) → length ls ≤ i → lines (drop i ls) ≡ []
unfolding lines
lines_end ls i h = rw (drop_of_length-le ls h)

-- at the head of the loop that counts
pub record LinesCounted (ls : List ℤ) (before n i : ℕ) : Type 0 where
  pub within : i ≤ length ls
  pub fits : n < 2 ^ 64
  pub rest : n + length (lines (drop i ls)) ≡ before + length (lines ls)

module _ {ls : List ℤ} {before n i : ℕ} (c : LinesCounted ls before n i) where
  module _ {w : ℕ} (h : i < length ls) (e : w ≡ length (written (get_or ls i (pos 0)))) where
    count_turn : n + w + length (lines (drop (i + 1) ls)) ≡ before + length (lines ls)
    count_turn = let r = c.rest in omega (arith, lines-length ls i h)

    pub count_more : n + w < 2 ^ 64 → LinesCounted ls before (n + w) (i + 1)
    count_more l = record { within = omega arith; fits = l; rest = count_turn }

    pub count_over : 2 ^ 64 ≤ n + w → None ≡ counted (before + length (lines ls))
    count_over l = let r = count_turn in rw (le-ltb (before + length (lines ls)) (2 ^ 64) (omega arith))

  pub count_end : length ls ≤ i → Some n ≡ counted (before + length (lines ls))
  count_end h =
      let r = c.rest in
      let z = ap length (lines_end ls i h) in
      let e : before + length (lines ls) ≡ n = omega arith in
      let f = c.fits in
      rw e (rw (lt-ltb n (2 ^ 64) f))
