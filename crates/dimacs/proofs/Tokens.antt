-- What stands at a place, from the byte there. Assumes nothing.
use Prim.Native.Nat.{ℕ, suc, ◌+◌, ◌-◌, ◌*◌, ◌≤◌, ◌<◌}
use native.Mathlib.Omega.{arith}
use borrow.Author.Tests.{ltb-true, leb-true, lt-ltb, ne_eqb}
use lib.Dec.{eqb, leb, ltb}
use lib.ListN.{length, get_or, drop, drop_of_length-le}
use lib.Seq.{drop-cons}
use mathlib.Core.Path.{◌≡◌}
use mathlib.Core.Bool.{Bool, true, not, cond}
use mathlib.Core.List.{List}
use Rattle.answers.proofs.Bools.{and_both}
use Rattle.text.specs.Decimal.{line_feed}
use Rattle.dimacs.specs.Reader.{is_digit, is_first, is_next}
use Rattle.dimacs.specs.Tokens.{stands, refused, has_byte, digits_from, number_at, comment_byte, comments_from, line_begins, line_end_from, line_end_at}

module _ (text : List ℕ) (at : ℕ) where
  -- a byte
  module _ (h : at < length text) where
    pub digits_step : (bound x : ℕ) → let b = get_or text at 0 in
        digits_from bound x (drop at text) at
        ≡ cond (is_digit b) (cond (is_next x (b - 48) bound) (digits_from bound (x * 10 + (b - 48)) (drop (suc at) text) (suc at)) (refused at)) (stands x at)
    unfolding digits_from
    digits_step bound x = rw (drop-cons text at 0 h)

    pub number_step : (bound : ℕ) (zero : Bool) → let b = get_or text at 0 in
        number_at text bound zero at ≡ cond (is_first b bound zero) (digits_from bound (b - 48) (drop (suc at) text) (suc at)) (refused at)
    number_step bound zero = rw (drop-cons text at 0 h)

    pub comments_step : (inside : Bool)
        → comments_from inside (drop at text) at ≡ comment_byte inside (get_or text at 0) at (λ t. comments_from t (drop (suc at) text) (suc at))
    unfolding comments_from
    comments_step inside = rw (drop-cons text at 0 h)

    pub line_end_step : let b = get_or text at 0 in
        line_end_at text at ≡ cond (eqb b line_feed) (stands tt (suc at)) (cond (ltb b 256) (line_end_at text (suc at)) (refused at))
    unfolding line_end_from
    line_end_step = rw (drop-cons text at 0 h)

    -- a line begins there if the byte before is LF
    pub line_after : line_begins text (suc at) ≡ eqb (get_or text at 0) line_feed
    line_after = let e : suc at - 1 ≡ at = omega arith in rw (ne_eqb (suc at) 0 (omega arith), e, lt-ltb at (length text) h)

  -- the text's end
  module _ (h : length text ≤ at) where
    pub digits_none : (bound x : ℕ) → digits_from bound x (drop at text) at ≡ stands x at
    unfolding digits_from
    digits_none bound x = rw (drop_of_length-le text h)

    pub number_none : (bound : ℕ) (zero : Bool) → number_at text bound zero at ≡ refused at
    number_none bound zero = rw (drop_of_length-le text h)

    pub comments_none : (inside : Bool) → comments_from inside (drop at text) at ≡ refused at
    unfolding comments_from
    comments_none inside = rw (drop_of_length-le text h)

    pub line_end_none : line_end_at text at ≡ refused at
    unfolding line_end_from
    line_end_none = rw (drop_of_length-le text h)

  pub has_inside : (b : ℕ) → has_byte text b at ≡ true → at < length text
  has_inside b t = ltb-true at (length text) (and_both (ltb at (length text)) (eqb (get_or text at 0) b) t).0

pub next_small : (x d bound : ℕ) → is_next x d bound ≡ true → x * 10 + d ≤ bound
next_small x d bound t = leb-true (x * 10 + d) bound (and_both (not (eqb x 0)) (leb (x * 10 + d) bound) t).1
