-- The accepted texts. The header line is document 01's, and comment lines may stand before it; after it the numbers of a list stand as E6 lets them.
use Rattle.std.specs.Prelude.{ℕ, eqb, ℤ, length, get_or, ◌≡◌, Bool, true, false, ◌||◌, List, [], ◌∷◌, ◌++◌}
use Rattle.answers.specs.Lists.{All, each}
use Rattle.text.specs.Decimal.{line_feed, space}
use Rattle.cnf.specs.Literals.{unclosed}
use Rattle.cnf.specs.Clauses.{clause_count}
use Rattle.dimacs.specs.Text.{signed, header_line, CommentByte, comment_line, comment_lines, HasText}

abbrev pub tab : ℕ
tab = 9

-- "spaces, tabs and LF"
abbrev pub is_blank : ℕ → Bool
is_blank b = eqb b space || eqb b tab || eqb b line_feed

-- what stands after the header: a blank, a number of the list, a `c` line
pub data Piece : Type 0 where
  blank : ℕ → Piece
  number : ℤ → Piece
  comment : List ℕ → Piece

abbrev pub piece_bytes : Piece → List ℕ
piece_bytes (blank b) = b ∷ []
piece_bytes (number l) = signed l
piece_bytes (comment bs) = comment_line bs

abbrev pub piece_numbers : Piece → List ℤ
piece_numbers (blank b) = []
piece_numbers (number l) = l ∷ []
piece_numbers (comment bs) = []

-- the bytes of pieces, and their numbers
abbrev pub bytes_of : List Piece → List ℕ
bytes_of ps = each ps piece_bytes

abbrev pub numbers_of : List Piece → List ℤ
numbers_of ps = each ps piece_numbers

-- the last of the bytes after the header, and the header's LF where there are none
abbrev pub last_byte : List ℕ → ℕ
last_byte bs = get_or (line_feed ∷ bs) (length bs) 0

-- the last of these pieces is a number
abbrev pub EndsInNumber : List Piece → Type 0
EndsInNumber ps = (front : List Piece) × (l : ℤ) × (ps ≡ front ++ (number l ∷ []))

-- a `c` line after these pieces: "with the `c` as a line's first byte and an LF at the end", "but not inside a clause"
pub record CommentMayStand (before : List Piece) (bs : List ℕ) : Type 0 where
  pub bytes : All CommentByte bs
  pub at_line : last_byte (bytes_of before) ≡ line_feed
  pub closed : unclosed (numbers_of before) ≡ false

-- a piece after these: "any non-empty run of spaces, tabs and LF between numbers", so no number right after another;
-- "any run before the first and after the last"
abbrev pub MayStand : List Piece → Piece → Type 0
MayStand before (blank b) = is_blank b ≡ true
MayStand before (number l) = EndsInNumber before → ⊥
MayStand before (comment bs) = CommentMayStand before bs

-- each piece may stand after those before it
abbrev pub WellFormed : List Piece → Type 0
WellFormed ps = (before after : List Piece) (p : Piece) → ps ≡ before ++ (p ∷ after) → MayStand before p

-- an accepted text: comment lines, the header line of some V and list, and that list in pieces
pub record Accepted (text : List ℕ) : Type 0 where
  pub comments : List (List ℕ)
  pub bytes : All (All CommentByte) comments
  pub variables : ℕ
  pub pieces : List Piece
  pub formed : WellFormed pieces
  pub has_text : HasText variables (numbers_of pieces)
  pub is : text ≡ comment_lines comments ++ (header_line variables (clause_count (numbers_of pieces)) ++ bytes_of pieces)
