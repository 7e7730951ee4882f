-- A batch: sixty-four value lists, one word for each variable; and which of them satisfy a clause list.
use Rattle.std.specs.Prelude.{ℕ, ◌<◌, ◌^◌, ℤ, length, ◌≡◌, Bool, true, false, ◌&&◌, ◌||◌, List, [], ◌∷◌, map}
use Rattle.answers.specs.Lists.{All}
use Rattle.cnf.specs.Clauses.{split, value}
use Rattle.cnf_batch.specs.Words.{bit_set, word_of}

-- "Each variable gets one 64-bit word, bit i its value in list i": list i, an assignment
abbrev pub value_list : List ℕ → ℕ → List Bool
value_list words i = map (bit_set i) words

-- `Satisfies` of cnf as a test: every clause has a true literal (that both say the same is `satisfies_exactly`)
abbrev pub has_true : List Bool → List ℤ → Bool
has_true a [] = false
has_true a (l ∷ c) = value a l || has_true a c

abbrev pub all_have_true : List Bool → List (List ℤ) → Bool
all_have_true a [] = true
all_have_true a (c ∷ cs) = has_true a c && all_have_true a cs

abbrev pub satisfies : List Bool → List ℤ → Bool
satisfies a ls = all_have_true a (split ls)

-- the values of a literal, bit i in list i
abbrev pub literal_word : List ℕ → ℤ → ℕ
literal_word words l = word_of 64 (λ i. value (value_list words i) l)

-- "a word whose bit i is set exactly when list i satisfies all" clauses
abbrev pub satisfied_word : List ℕ → List ℤ → ℕ
satisfied_word words ls = word_of 64 (λ i. satisfies (value_list words i) ls)

-- words for given value lists of V values
pub record BatchOf (v : ℕ) (lists : ℕ → List Bool) (words : List ℕ) : Type 0 where
  pub count : length words ≡ v
  pub small : All (λ (w : ℕ). w < 2 ^ 64) words
  pub same : (i : ℕ) → i < 64 → value_list words i ≡ lists i
