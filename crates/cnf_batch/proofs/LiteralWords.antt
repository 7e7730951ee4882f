-- The values of a literal in all lists, by its code. Assumes nothing.
use Prim.Native.Nat.{ℕ, zero, suc, ◌-◌, ◌/◌, ◌%◌, ◌^◌, ◌≤◌, ◌<◌}
use native.Mathlib.Omega.{arith}
use borrow.Author.Tests.{ltb-false}
use lib.IntN.{ℤ, pos, negsuc}
use lib.ListN.{get_or}
use mathlib.Core.Path.{◌≡◌, refl, sym, ◌∙◌, ap}
use mathlib.Core.Bool.{false, not}
use mathlib.Core.List.{List}
use Rattle.answers.proofs.Bools.{clash}
use Rattle.cnf.specs.Literals.{closes, code_of, beyond}
use Rattle.cnf_batch.specs.Words.{bit_set}
use Rattle.cnf_batch.specs.Batch.{literal_word}
use Rattle.cnf_batch.proofs.Words.{bit_not, word_only}
use Rattle.cnf_batch.proofs.EachList.{value_in_list}

-- the variable of a literal is a number from 1 to V
pub variable_within : (v : ℕ) (l : ℤ) {k : ℕ} → k ≡ code_of l → closes l ≡ false → beyond v l ≡ false → (1 ≤ k / 2) × (k / 2 ≤ v)
variable_within v (pos zero) e c b = clash refl c
variable_within v (pos (suc n)) e c b = let h = ltb-false v (suc n) b in (omega arith, omega arith)
variable_within v (negsuc n) e c b = let h = ltb-false v (suc n) b in (omega arith, omega arith)

-- the word of a literal, by its code: the variable's word, and for "not" its complement
module _ (words : List ℕ) (k : ℕ) where
  abbrev word : ℕ
  word = get_or words (k / 2 - 1) 0

  module _ (small : word < 2 ^ 64) where
    pub word_plain : (l : ℤ) → k ≡ code_of l → closes l ≡ false → k % 2 ≡ 0 → word ≡ literal_word words l
    word_plain (pos zero) e c h = clash refl c
    word_plain (pos (suc n)) e c h =
        let m : k / 2 - 1 ≡ n = omega arith in
        word_only 64 word _ small (λ i b. ap (λ (x : ℕ). bit_set i (get_or words x 0)) m ∙ sym (value_in_list words i n))
    word_plain (negsuc n) e c h = absurd (omega arith)

    pub word-not : (l : ℤ) → k ≡ code_of l → (k % 2 ≡ 0 → ⊥) → 2 ^ 64 - 1 - word ≡ literal_word words l
    word-not (pos n) e h = absurd (h (omega arith))
    word-not (negsuc n) e h =
        let m : k / 2 - 1 ≡ n = omega arith in
        word_only 64 (2 ^ 64 - 1 - word) _ (omega arith)
        (λ i b. bit_not 64 i word b small ∙ ap (λ (x : ℕ). not (bit_set i (get_or words x 0))) m ∙ ap not (sym (value_in_list words i n)))
