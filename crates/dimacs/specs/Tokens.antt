-- What stands at a place of a text: "reading a number at a place gives the number and the place after it".
use Rattle.std.specs.Prelude.{ℕ, suc, ◌+◌, ◌*◌, ◌-◌, ◌^◌, eqb, leb, ltb, length, get_or, drop, Bool, true, false, not, ◌&&◌, ◌||◌, cond, List, [], ◌∷◌}
use Rattle.cnf.specs.Literals.{most_variables}
use Rattle.text.specs.Decimal.{line_feed, space, minus}
use Rattle.dimacs.specs.Text.{preamble}
use Rattle.dimacs.specs.Accepted.{is_blank}
use Rattle.dimacs.specs.Reader.{Header, header_with, is_digit, is_first, is_next, starts_comment}

-- what stands there and the place after it, or the place of the refusal
pub data TokenAt (A : Type 0) : Type 0 where
  stands : A → ℕ → TokenAt A
  refused : ℕ → TokenAt A

-- what comes after it
abbrev pub and_then : {A B : Type 0} → TokenAt A → (A → ℕ → TokenAt B) → TokenAt B
and_then (stands a after) go = go a after
and_then (refused p) go = refused p

-- this byte stands there
abbrev pub has_byte : List ℕ → ℕ → ℕ → Bool
has_byte text b at = ltb at (length text) && eqb (get_or text at 0) b

-- what was read, and this byte behind it
abbrev pub followed_by : {A : Type 0} → List ℕ → ℕ → A → ℕ → TokenAt A
followed_by text b a at = cond (has_byte text b at) (stands a (suc at)) (refused at)

-- Numbers, whatever follows them; the text's end ends one too.
-- The digits after the first, with the number so far: a digit after a leading 0 is refused, and one that takes the number past its bound.
unfoldable pub digits_from : ℕ → ℕ → List ℕ → ℕ → TokenAt ℕ
digits_from bound x [] at = stands x at
digits_from bound x (b ∷ bs) at =
    cond (is_digit b)
    (cond (is_next x (b - 48) bound) (digits_from bound (x * 10 + (b - 48)) bs (suc at)) (refused at))
    (stands x at)

abbrev pub number_from : ℕ → Bool → List ℕ → ℕ → TokenAt ℕ
number_from bound zero [] at = refused at
number_from bound zero (b ∷ bs) at = cond (is_first b bound zero) (digits_from bound (b - 48) bs (suc at)) (refused at)

-- a number to a bound, 0 among them or not
abbrev pub number_at : List ℕ → ℕ → Bool → ℕ → TokenAt ℕ
number_at text bound zero at = number_from bound zero (drop at text) at

-- The header, after comment lines.
-- A byte of a comment line: inside it, any byte, and LF ends the line; as a line's first byte, `c`, or the comment lines are over.
abbrev pub comment_byte : Bool → ℕ → ℕ → (Bool → TokenAt Unit) → TokenAt Unit
comment_byte true b at go = cond (eqb b line_feed) (go false) (cond (ltb b 256) (go true) (refused at))
comment_byte false b at go = cond (eqb b 99) (go true) (stands tt at)

unfoldable pub comments_from : Bool → List ℕ → ℕ → TokenAt Unit
comments_from inside [] at = refused at
comments_from inside (b ∷ bs) at = comment_byte inside b at (λ t. comments_from t bs (suc at))

abbrev pub comments_at : List ℕ → ℕ → TokenAt Unit
comments_at text at = comments_from false (drop at text) at

-- these bytes
unfoldable pub word_at : List ℕ → List ℕ → ℕ → TokenAt Unit
word_at text [] at = stands tt at
word_at text (w ∷ ws) at = and_then (followed_by {A = Unit} text w tt at) (λ _ next. word_at text ws next)

-- a number of the header, and the byte behind it
abbrev pub field_at : List ℕ → ℕ → ℕ → ℕ → TokenAt ℕ
field_at text bound end at = and_then (number_at text bound true at) (λ x after. followed_by text end x after)

-- V, at most 16,777,216, and a space; C, below 2^64, and LF
abbrev pub header_counts_at : List ℕ → ℕ → TokenAt Header
header_counts_at text at =
    and_then (field_at text most_variables space at)
    (λ v next. and_then (field_at text (2 ^ 64 - 1) line_feed next)
    (λ c after. stands (header_with v c) after))

-- comment lines, `p cnf `, V and C
abbrev pub header_at : List ℕ → ℕ → TokenAt Header
header_at text at =
    and_then (comments_at text at)
    (λ _ first. and_then (word_at text preamble first)
    (λ _ next. header_counts_at text next))

-- The body. An element is told by whether a minus stands before it, and by its number.
-- The number, after the sign: no −0
abbrev pub unsigned_at : List ℕ → ℕ → Bool → ℕ → TokenAt (Bool × ℕ)
unsigned_at text v negative at = and_then (number_at text v (not negative) at) (λ x after. stands (negative, x) after)

-- an element, whatever follows it: a minus only if there is a variable
abbrev pub element_at : List ℕ → ℕ → ℕ → TokenAt (Bool × ℕ)
element_at text v at =
    cond (has_byte text minus at)
    (cond (eqb v 0) (refused at) (unsigned_at text v true (suc at)))
    (unsigned_at text v false at)

-- what was read, and a blank behind it or the text's end
abbrev pub blank_or_end : {A : Type 0} → List ℕ → A → ℕ → TokenAt A
blank_or_end text a at = cond (ltb at (length text)) (cond (is_blank (get_or text at 0)) (stands a (suc at)) (refused at)) (stands a at)

-- an element, and the blank behind it or the text's end
abbrev pub element_and_blank_at : List ℕ → ℕ → ℕ → TokenAt (Bool × ℕ)
element_and_blank_at text v at = and_then (element_at text v at) (λ e after. blank_or_end text e after)

-- from `-` to `9`: no other byte begins a number
abbrev pub may_begin_number : ℕ → Bool
may_begin_number b = leb minus b && leb b 57

-- a line begins there: at the text's start, or after an LF
abbrev pub line_begins : List ℕ → ℕ → Bool
line_begins text at = eqb at 0 || has_byte text line_feed (at - 1)

-- to the LF that ends a line
unfoldable pub line_end_from : List ℕ → ℕ → TokenAt Unit
line_end_from [] at = refused at
line_end_from (b ∷ bs) at = cond (eqb b line_feed) (stands tt (suc at)) (cond (ltb b 256) (line_end_from bs (suc at)) (refused at))

abbrev pub line_end_at : List ℕ → ℕ → TokenAt Unit
line_end_at text at = line_end_from (drop at text) at

-- a blank, or a comment line where one may start
abbrev pub blank_or_comment_at : List ℕ → Bool → ℕ → TokenAt Unit
blank_or_comment_at text begun at =
    cond (is_blank (get_or text at 0)) (stands tt (suc at))
    (cond (starts_comment begun (line_begins text at) (get_or text at 0)) (line_end_at text (suc at)) (refused at))
