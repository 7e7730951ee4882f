-- The lines that the programs print beside DIMACS text: a refusal, a word, a drawing.
use Rattle.std.specs.Prelude.{ℕ, suc, ◌+◌, ◌/◌, ◌%◌, eqb, ltb, cond, List, [], ◌∷◌, ◌++◌}
use Rattle.text.specs.Decimal.{line_feed, space, decimal}

-- `refused `
abbrev pub refused_word : List ℕ
refused_word = 114 ∷ 101 ∷ 102 ∷ 117 ∷ 115 ∷ 101 ∷ 100 ∷ space ∷ []

-- one line such as `refused 3`
abbrev pub refused_line : ℕ → List ℕ
refused_line n = refused_word ++ (decimal n ++ (line_feed ∷ []))

-- `none`
abbrev pub none_line : List ℕ
none_line = 110 ∷ 111 ∷ 110 ∷ 101 ∷ line_feed ∷ []

-- `one`
abbrev pub one_line : List ℕ
one_line = 111 ∷ 110 ∷ 101 ∷ line_feed ∷ []

-- `several`
abbrev pub several_line : List ℕ
several_line = 115 ∷ 101 ∷ 118 ∷ 101 ∷ 114 ∷ 97 ∷ 108 ∷ line_feed ∷ []

-- `halted`
abbrev pub halted_line : List ℕ
halted_line = 104 ∷ 97 ∷ 108 ∷ 116 ∷ 101 ∷ 100 ∷ line_feed ∷ []

-- 0 to 9, then a to f
abbrev pub hex_digit : ℕ → ℕ
hex_digit n = cond (ltb n 10) (48 + n) (87 + n)

-- two-digit lower-case hexadecimal
abbrev pub hexadecimal : ℕ → List ℕ
hexadecimal b = hex_digit (b / 16) ∷ hex_digit (b % 16) ∷ []

-- a byte and what stands behind it
abbrev pub hex_entry : ℕ → ℕ → List ℕ
hex_entry b end = hexadecimal b ++ (end ∷ [])

-- single spaces, a row a line: LF behind the last cell of a row
abbrev pub behind_cell : ℕ → ℕ → ℕ
behind_cell columns x = cond (eqb ((x + 1) % columns) 0) line_feed space

-- the bytes of the cells from x on
unfoldable pub drawing_from : ℕ → ℕ → List ℕ → List ℕ
drawing_from columns x [] = []
drawing_from columns x (d ∷ ds) = hex_entry d (behind_cell columns x) ++ drawing_from columns (suc x) ds

-- a drawing's bytes
abbrev pub drawing_text : ℕ → List ℕ → List ℕ
drawing_text columns ds = drawing_from columns 0 ds
