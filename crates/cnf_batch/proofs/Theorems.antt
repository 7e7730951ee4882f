-- What document 02's E8 says of the word, in its words. Assumes nothing.
use Prim.Native.Nat.{ℕ, ◌-◌, ◌≤◌, ◌<◌, ◌^◌}
use native.Mathlib.Omega.{arith}
use borrow.Author.Tests.{lt-ltb, le-ltb}
use lib.IntN.{ℤ, pos}
use lib.ListN.{length, get_or, length-map}
use lib.Seq.{ext_get_or}
use mathlib.Core.Path.{◌≡◌, refl, sym, ◌∙◌, ap, subst}
use mathlib.Core.Bool.{Bool, true, false}
use mathlib.Core.Logic.{◌↔◌}
use Rattle.std.specs.Prelude.{Option, None, Some}
use mathlib.Core.List.{List, [], ◌∷◌, ◌++◌, map}
use Rattle.answers.specs.Lists.{All, ◌∈◌, up_to}
use Rattle.answers.specs.Outcome.{answer, refusal, unless}
use Rattle.answers.proofs.Bools.{clash}
use Rattle.answers.proofs.Elements.{all_at, all_map, made_long, made_at}
use Rattle.cnf.specs.Literals.{closes, most_variables, too_many_variables, wrong_list}
use Rattle.cnf.specs.Clauses.{split_step, split, Assignment, Satisfies}
use Rattle.cnf_batch.specs.Words.{bit_set, word_of}
use Rattle.cnf_batch.specs.Batch.{value_list, satisfies, satisfied_word, BatchOf}
use Rattle.cnf_batch.specs.Call.{batch_answer}
use Rattle.cnf_batch.proofs.Words.{bit_none, bit_ones, word_small, word_bits, word_only}
use Rattle.cnf_batch.proofs.EachList.{HasTrue, value_in_list, satisfied_bit, set_exactly, only_word}
use Rattle.cnf_batch.proofs.Calls.{too_many, words_wrong, words_right}

-- any value lists are those of some words
pub any_lists : (v : ℕ) (lists : ℕ → List Bool) → ((i : ℕ) → i < 64 → Assignment v (lists i)) → (words : List ℕ) × BatchOf v lists words
any_lists v lists assigns = (made, record { count = count; small = small; same = same })
  where
    word : ℕ → ℕ
    word n = word_of 64 (λ i. get_or (lists i) n false)

    made : List ℕ
    made = map word (up_to v)

    count : length made ≡ v
    count = made_long word v

    small : All (λ (w : ℕ). w < 2 ^ 64) made
    small = all_map (λ (w : ℕ). w < 2 ^ 64) word (up_to v) (λ n h. word_small 64 (λ i. get_or (lists i) n false))

    long : (i : ℕ) → length (value_list made i) ≡ v
    long i = length-map made (bit_set i) ∙ count

    same : (i : ℕ) → i < 64 → value_list made i ≡ lists i
    same i h =
        ext_get_or false (value_list made i) (lists i) (long i ∙ sym (assigns i h))
        (λ n b. value_in_list made i n ∙ ap (bit_set i) (made_at word 0 v n (omega (arith, long i))) ∙ word_bits 64 (λ j. get_or (lists j) n false) i h)

-- each list singly
pub judged_alike : (words others : List ℕ) (ls : List ℤ) (i j : ℕ) → i < 64 → j < 64 → value_list words i ≡ value_list others j
    → bit_set i (satisfied_word words ls) ≡ bit_set j (satisfied_word others ls)
judged_alike words others ls i j h k e = satisfied_bit words ls i h ∙ ap (λ (a : List Bool). satisfies a ls) e ∙ sym (satisfied_bit others ls j k)

-- each clause singly: by itself, it is the only one of its list
abbrev Single : List ℤ → Type 0
Single c = split (c ++ (pos 0 ∷ [])) ≡ c ∷ []

clauses_single : (ls : List ℤ) → All Single (split ls)
unfolding split
clauses_single [] = tt
clauses_single (l ∷ ls) = by (closes l) refl (split ls) (clauses_single ls)
  where
    by : (t : Bool) → closes l ≡ t → (cs : List (List ℤ)) → All Single cs → All Single (split_step t l cs)
    by true e cs h = (refl, h)
    by false e [] h = (ap (λ (t : Bool). split_step t l ([] ∷ [])) e, tt)
    by false e (c ∷ cs) h = (ap (λ (t : Bool). split_step t l (split (c ++ (pos 0 ∷ [])))) e ∙ ap (split_step false l) h.0, h.1)

one_by_one : (a : List Bool) (cs : List (List ℤ)) → All Single cs → All (HasTrue a) cs ↔ All (λ (c : List ℤ). Satisfies a (c ++ (pos 0 ∷ []))) cs
one_by_one a [] s = (λ h. tt, λ h. tt)
one_by_one a (c ∷ cs) s =
    let r = one_by_one a cs s.1 in (
      λ h. (subst (All (HasTrue a)) (sym s.0) (h.0, tt), r.0 h.1),
      λ h. ((subst (All (HasTrue a)) s.0 h.0).0, r.1 h.1),
    )

pub clause_by_clause : (words : List ℕ) (ls : List ℤ) (i : ℕ) → i < 64
    → bit_set i (satisfied_word words ls) ≡ true ↔ All (λ (c : List ℤ). Satisfies (value_list words i) (c ++ (pos 0 ∷ []))) (split ls)
clause_by_clause words ls i h =
    let e = set_exactly words ls i h in
    let o = one_by_one (value_list words i) (split ls) (clauses_single ls) in
    (λ b. o.0 (e.0 b), λ s. e.1 (o.1 s))

-- no clause, and an empty one
pub empty_list : (words : List ℕ) → satisfied_word words [] ≡ 2 ^ 64 - 1
unfolding split
empty_list words =
    sym (word_only 64 (2 ^ 64 - 1) (λ i. satisfies (value_list words i) []) (omega arith) (bit_ones 64))

pub empty_clause : (words : List ℕ) (ls : List ℤ) → [] ∈ split ls → satisfied_word words ls ≡ 0
empty_clause words ls m = sym (only_word words ls 0 (omega arith) (λ i h. (λ e. clash e (bit_none i), λ s. absurd (all_at _ s m))))

-- the call
few : {v : ℕ} → v ≤ most_variables → false ≡ too_many_variables v
few {v} h = sym (le-ltb most_variables v h)

module _ (v : ℕ) (ls : List ℤ) (words : List ℕ) where
  pub refused-variables : most_variables < v → batch_answer v ls words ≡ refusal 17 0
  refused-variables h = sym (too_many v ls words (sym (lt-ltb most_variables v h)))

  module _ (h : v ≤ most_variables) where
    pub refused-words : (length words ≡ v → ⊥) → batch_answer v ls words ≡ refusal 21 0
    refused-words n = sym (words_wrong v ls words (few h) n)

    module _ (e : length words ≡ v) where
      reads : {o : Option ℕ} → wrong_list v ls ≡ o → batch_answer v ls words ≡ unless 16 o (answer (satisfied_word words ls) 0 0)
      reads {o} n =
          sym (words_right v ls words (few h) e)
          ∙ ap (λ (p : Option ℕ). unless 16 p (answer (satisfied_word words ls) 0 0)) (ap (λ (m : ℕ). wrong_list m ls) e ∙ n)

      pub refused_list : {i : ℕ} → wrong_list v ls ≡ Some i → batch_answer v ls words ≡ refusal 16 i
      refused_list n = reads n

      pub answered : wrong_list v ls ≡ None → batch_answer v ls words ≡ answer (satisfied_word words ls) 0 0
      answered n = reads n
