-- "DIMACS text": the text of V and a list, which is the narrow form, and comment lines.
use Rattle.std.specs.Prelude.{ℕ, suc, ◌≤◌, ◌<◌, ◌^◌, ℤ, pos, negsuc, ◌≡◌, cond, List, [], ◌∷◌, ◌++◌, None}
use Rattle.text.specs.Decimal.{line_feed, space, minus, decimal}
use Rattle.cnf.specs.Literals.{closes, most_variables, wrong_list}
use Rattle.cnf.specs.Clauses.{clause_count}

-- no plus, no −0
abbrev pub signed : ℤ → List ℕ
signed (pos n) = decimal n
signed (negsuc n) = minus ∷ decimal (suc n)

-- single spaces in a line, LF after the 0 that closes the clause
abbrev pub behind : ℤ → ℕ
behind l = cond (closes l) line_feed space

-- a line for each clause: literals and the closing 0
unfoldable pub lines : List ℤ → List ℕ
lines [] = []
lines (l ∷ ls) = signed l ++ (behind l ∷ lines ls)

-- `p cnf `
abbrev pub preamble : List ℕ
preamble = 112 ∷ 32 ∷ 99 ∷ 110 ∷ 102 ∷ 32 ∷ []

-- `p cnf V C`, LF
abbrev pub header_line : ℕ → ℕ → List ℕ
header_line v c = preamble ++ (decimal v ++ (space ∷ decimal c ++ (line_feed ∷ [])))

-- the text of V and a list
abbrev pub text_of : ℕ → List ℤ → List ℕ
text_of v ls = header_line v (clause_count ls) ++ lines ls

-- any byte but LF
abbrev pub CommentByte : ℕ → Type 0
CommentByte b = (b < 256) × (b ≡ line_feed → ⊥)

-- a line starting with `c`
abbrev pub comment_line : List ℕ → List ℕ
comment_line bs = 99 ∷ bs ++ (line_feed ∷ [])

abbrev pub comment_lines : List (List ℕ) → List ℕ
comment_lines [] = []
comment_lines (bs ∷ rest) = comment_line bs ++ comment_lines rest

-- V at most 16,777,216, no literal beyond V and the last clause closed, fewer than 2^64 clauses
pub record HasText (v : ℕ) (ls : List ℤ) : Type 0 where
  pub few : v ≤ most_variables
  pub right : wrong_list v ls ≡ None
  pub counted : clause_count ls < 2 ^ 64

-- the narrow form: the text of some V and list
pub record Narrow (text : List ℕ) : Type 0 where
  pub variables : ℕ
  pub list : List ℤ
  pub has_text : HasText variables list
  pub is : text ≡ text_of variables list
