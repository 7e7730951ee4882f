-- A number, an element and the header at a place of a text, by their bytes: "decimal, no plus, no leading zero, no −0".
use Rattle.std.specs.Prelude.{ℕ, suc, ◌+◌, ◌≤◌, ◌<◌, ◌^◌, ℤ, pos, negsuc, nat_abs, length, get_or, drop, ◌≡◌, Bool, true, false, List, ◌++◌}
use Rattle.answers.specs.Lists.{All}
use Rattle.cnf.specs.Literals.{most_variables}
use Rattle.text.specs.Decimal.{decimal}
use Rattle.dimacs.specs.Text.{signed, header_line, CommentByte, comment_lines}
use Rattle.dimacs.specs.Reader.{Header, is_digit}

-- the text has these bytes from a place up to another
pub record Has (text : List ℕ) (at : ℕ) (bs : List ℕ) (after : ℕ) : Type 0 where
  pub is : drop at text ≡ bs ++ drop after text
  pub place : after ≡ at + length bs

-- n in decimal, and no digit after it; n is at most the bound, and 0 only if it may be
pub record NumberStands (text : List ℕ) (bound : ℕ) (zero : Bool) (at n after : ℕ) : Type 0 where
  pub has : Has text at (decimal n) after
  pub few : n ≤ bound
  pub allowed : zero ≡ false → n ≡ 0 → ⊥
  pub over : after < length text → is_digit (get_or text after 0) ≡ false

-- what tells an element: whether a minus stands before it, and its number
abbrev pub sign_and_number : ℤ → Bool × ℕ
sign_and_number (pos n) = (false, n)
sign_and_number (negsuc n) = (true, suc n)

-- an element, which is 0 or a literal of V, and no digit after it
pub record ElementStands (text : List ℕ) (v at : ℕ) (l : ℤ) (after : ℕ) : Type 0 where
  pub has : Has text at (signed l) after
  pub few : nat_abs l ≤ v
  pub over : after < length text → is_digit (get_or text after 0) ≡ false

-- comment lines and the header
pub record HeaderStands (text : List ℕ) (at : ℕ) (h : Header) (after : ℕ) : Type 0 where
  pub comments : List (List ℕ)
  pub bytes : All (All CommentByte) comments
  pub has : Has text at (comment_lines comments ++ header_line h.variables h.clauses) after
  pub few : h.variables ≤ most_variables
  pub counted : h.clauses < 2 ^ 64
