-- The bits of a word.
use Rattle.std.specs.Prelude.{ℕ, zero, suc, ◌+◌, ◌*◌, ◌/◌, ◌%◌, ◌^◌, eqb, Bool, cond}

-- is bit i set, the one of weight 2^i?
abbrev pub bit_set : ℕ → ℕ → Bool
bit_set i word = eqb (word / 2 ^ i % 2) 1

-- the word of n bits whose bit i is `set i`
unfoldable pub word_of : ℕ → (ℕ → Bool) → ℕ
word_of zero set = 0
word_of (suc n) set = word_of n (λ i. set (suc i)) * 2 + cond (set 0) 1 0
