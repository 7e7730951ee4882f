-- The test says what `Satisfies` says, and the word has its bits. Assumes nothing.
use Prim.Native.Nat.{ℕ, ◌^◌, ◌<◌}
use lib.IntN.{ℤ}
use lib.ListN.{get_or, get_or-map}
use mathlib.Core.Path.{◌≡◌, refl, sym, ◌∙◌, ap}
use mathlib.Core.Bool.{Bool, true, false}
use mathlib.Core.Logic.{◌⊎◌, inl, inr, ◌↔◌}
use mathlib.Core.List.{List, [], ◌∷◌}
use Rattle.answers.specs.Lists.{All, Some}
use Rattle.answers.proofs.Bools.{clash, and_both, both_and, or_cases, or_left, or_right, same_tests}
use Rattle.cnf.specs.Clauses.{split, value, Satisfies}
use Rattle.cnf_batch.specs.Words.{bit_set}
use Rattle.cnf_batch.specs.Batch.{value_list, has_true, all_have_true, satisfies, satisfied_word}
use Rattle.cnf_batch.proofs.Words.{bit_none, word_small, word_bits, word_only}

-- the value of a variable in a list
pub value_in_list : (words : List ℕ) (i n : ℕ) → get_or (value_list words i) n false ≡ bit_set i (get_or words n 0)
value_in_list words i n = ap (get_or (value_list words i) n) (sym (bit_none i)) ∙ get_or-map (bit_set i) words n 0

module _ (a : List Bool) where
  abbrev pub HasTrue : List ℤ → Type 0
  HasTrue c = Some (λ l. value a l ≡ true) c

  has_some : (c : List ℤ) → has_true a c ≡ true → HasTrue c
  has_some [] e = clash e refl
  has_some (l ∷ c) e = by (or_cases (value a l) (has_true a c) e) (has_some c)
    where
      by : (value a l ≡ true) ⊎ (has_true a c ≡ true) → (has_true a c ≡ true → HasTrue c) → HasTrue (l ∷ c)
      by (inl h) go = inl h
      by (inr h) go = inr (go h)

  some_has : (c : List ℤ) → HasTrue c → has_true a c ≡ true
  some_has (l ∷ c) (inl h) = or_left (value a l) (has_true a c) h
  some_has (l ∷ c) (inr h) = or_right (value a l) (has_true a c) (some_has c h)
  some_has [] x' = elim x' [ ]

  all_satisfied : (cs : List (List ℤ)) → all_have_true a cs ≡ true → All HasTrue cs
  all_satisfied [] e = tt
  all_satisfied (c ∷ cs) e = let p = and_both (has_true a c) (all_have_true a cs) e in (has_some c p.0, all_satisfied cs p.1)

  satisfied_all : (cs : List (List ℤ)) → All HasTrue cs → all_have_true a cs ≡ true
  satisfied_all [] h = refl
  satisfied_all (c ∷ cs) h = both_and (has_true a c) (all_have_true a cs) (some_has c h.0) (satisfied_all cs h.1)

  satisfies_exactly : (ls : List ℤ) → satisfies a ls ≡ true ↔ Satisfies a ls
  satisfies_exactly ls = (all_satisfied (split ls), satisfied_all (split ls))

-- the word, by its bits
module _ (words : List ℕ) (ls : List ℤ) where
  abbrev set : ℕ → Bool
  set i = satisfies (value_list words i) ls

  pub satisfied_small : satisfied_word words ls < 2 ^ 64
  satisfied_small = word_small 64 set

  pub satisfied_bit : (i : ℕ) → i < 64 → bit_set i (satisfied_word words ls) ≡ satisfies (value_list words i) ls
  satisfied_bit = word_bits 64 set

  pub set_exactly : (i : ℕ) → i < 64 → bit_set i (satisfied_word words ls) ≡ true ↔ Satisfies (value_list words i) ls
  set_exactly i h = let e = satisfied_bit i h in let s = satisfies_exactly (value_list words i) ls in (λ b. s.0 (sym e ∙ b), λ t. e ∙ s.1 t)

  pub only_word : (w : ℕ) → w < 2 ^ 64 → ((i : ℕ) → i < 64 → bit_set i w ≡ true ↔ Satisfies (value_list words i) ls) → w ≡ satisfied_word words ls
  only_word w h b = word_only 64 w set h same
    where
      same : (i : ℕ) → i < 64 → bit_set i w ≡ set i
      same i k = let s = satisfies_exactly (value_list words i) ls in same_tests (bit_set i w) (set i) (λ e. s.1 ((b i k).0 e)) (λ e. (b i k).1 (s.0 e))
