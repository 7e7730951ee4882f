-- Decimal numbers, and the bytes that stand between them.
use Rattle.std.specs.Prelude.{ℕ, zero, suc, ◌+◌, ◌/◌, ◌%◌, ltb, Bool, true, false, List, [], ◌∷◌, ◌++◌}

abbrev pub line_feed : ℕ
line_feed = 10

abbrev pub space : ℕ
space = 32

abbrev pub minus : ℕ
minus = 45

-- the byte of a decimal digit
abbrev pub digit : ℕ → ℕ
digit d = 48 + d

abbrev pub decimal_step : Bool → ℕ → (ℕ → List ℕ) → List ℕ
decimal_step true n front = digit n ∷ []
decimal_step false n front = front (n / 10) ++ (digit (n % 10) ∷ [])

-- the last digits of n, at most so many
unfoldable pub decimal_in : ℕ → ℕ → List ℕ
decimal_in zero n = []
decimal_in (suc most) n = decimal_step (ltb n 10) n (λ m. decimal_in most m)

-- decimal, no leading zero (n has fewer than n + 2 digits)
abbrev pub decimal : ℕ → List ℕ
decimal n = decimal_in (suc n) n
