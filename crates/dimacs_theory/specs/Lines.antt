-- The writer's text, clause by clause; and numbers with runs of blanks between them.
use Rattle.std.specs.Prelude.{ℕ, ℤ, pos, ◌≡◌, true, List, [], ◌∷◌, ◌++◌, map}
use Rattle.answers.specs.Lists.{All, each}
use Rattle.text.specs.Decimal.{line_feed, space}
use Rattle.dimacs.specs.Text.{signed}
use Rattle.dimacs.specs.Accepted.{is_blank}

-- a clause in a line: its literals, a space after each, and the 0 that closes it
abbrev pub clause_line : List ℤ → List ℕ
clause_line c = each c (λ l. signed l ++ (space ∷ [])) ++ (signed (pos 0) ++ (line_feed ∷ []))

-- a run of spaces, tabs and LF, empty or not
abbrev pub BlankRun : List ℕ → Type 0
BlankRun bs = All (λ b. is_blank b ≡ true) bs

-- numbers, each with the bytes behind it
abbrev pub spaced_bytes : List (ℤ × List ℕ) → List ℕ
spaced_bytes ns = each ns (λ n. signed n.0 ++ n.1)

abbrev pub spaced_numbers : List (ℤ × List ℕ) → List ℤ
spaced_numbers ns = map (λ (n : ℤ × List ℕ). n.0) ns

-- these are runs, and those between two numbers are not empty
abbrev pub Spaced : List (ℤ × List ℕ) → Type 0
Spaced [] = Unit
Spaced (n ∷ []) = BlankRun n.1
Spaced (n ∷ m ∷ ns) = BlankRun n.1 × (n.1 ≡ [] → ⊥) × Spaced (m ∷ ns)
