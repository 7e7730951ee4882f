-- Document 02, E8, "Sixty-four value lists in one reading", as one statement, in its order and words; what is in quotation marks is the request's.
-- The call is `cnf_batch::satisfied`; by its contract what it tells of V, a clause list and the words is `batch_answer`. It is lent no buffer. `bit_set i` of a
-- word tells whether bit i is set, the one of weight 2^i. `Satisfies` is that of cnf/specs/Clauses.antt, on which demand 3 rests too.
use Rattle.std.specs.Prelude.{ℕ, suc, ◌-◌, ◌^◌, ◌≤◌, ◌<◌, ℤ, pos, length, get_or, ◌≡◌, Bool, true, ◌↔◌, List, [], ◌∷◌, ◌++◌, None, Some}
use Rattle.answers.specs.Lists.{All, ◌∈◌}
use Rattle.answers.specs.Outcome.{answer, refusal}
use Rattle.answers.specs.ByRows.{ByRows}
use Rattle.cnf.specs.Literals.{most_variables, wrong_list}
use Rattle.cnf.specs.Clauses.{split, Assignment, value, Satisfies}
use Rattle.cnf_batch.specs.Words.{bit_set}
use Rattle.cnf_batch.specs.Batch.{value_list, satisfied_word, BatchOf}
use Rattle.cnf_batch.specs.Call.{batch_rows, batch_answer}
use Rattle.cnf_batch.specs.Cases.{CaseHolds, batch_cases}

pub record RequestE8 : Type 0 where
  -- "Our solver bench hands us batches. Each variable gets one 64-bit word, bit i its value in list i;"
  -- (List i is an assignment; variable n + 1 has word n, counted from 0. Any sixty-four assignments are the lists of some words.)
  pub assigns : (words : List ℕ) (i : ℕ) → Assignment (length words) (value_list words i)
  pub values : (words : List ℕ) (i n : ℕ) → value (value_list words i) (pos (suc n)) ≡ bit_set i (get_or words n 0)
  pub any_lists : (v : ℕ) (lists : ℕ → List Bool) → ((i : ℕ) → i < 64 → Assignment v (lists i)) → (words : List ℕ) × BatchOf v lists words
  -- "a single pass over the clauses answers a word whose bit i is set exactly when list i satisfies all of them."
  -- (The word has 64 bits, and no other word has these. Every list satisfies the empty clause list, none a list with an empty clause. That there is one pass is
  -- seen in the code: the only loop of the call is that of `read_clauses` over the list.)
  pub answered : (v : ℕ) (ls : List ℤ) (words : List ℕ) → v ≤ most_variables → length words ≡ v → wrong_list v ls ≡ None
      → batch_answer v ls words ≡ answer (satisfied_word words ls) 0 0
  pub set_exactly : (words : List ℕ) (ls : List ℤ) (i : ℕ) → i < 64 → bit_set i (satisfied_word words ls) ≡ true ↔ Satisfies (value_list words i) ls
  pub one_word : (words : List ℕ) (ls : List ℤ) → satisfied_word words ls < 2 ^ 64
  pub only_word : (words : List ℕ) (ls : List ℤ) (w : ℕ) → w < 2 ^ 64 → ((i : ℕ) → i < 64 → bit_set i w ≡ true ↔ Satisfies (value_list words i) ls)
      → w ≡ satisfied_word words ls
  pub empty_list : (words : List ℕ) → satisfied_word words [] ≡ 2 ^ 64 - 1
  pub empty_clause : (words : List ℕ) (ls : List ℤ) → [] ∈ split ls → satisfied_word words ls ≡ 0
  -- "It agrees with judging each list's clauses singly."
  -- (Bit i is set exactly if list i satisfies each clause by itself. And a list's bit is the same in whatever batch it stands, and at whatever place.)
  pub clauses_singly : (words : List ℕ) (ls : List ℤ) (i : ℕ) → i < 64
      → bit_set i (satisfied_word words ls) ≡ true ↔ All (λ (c : List ℤ). Satisfies (value_list words i) (c ++ (pos 0 ∷ []))) (split ls)
  pub list_singly : (words others : List ℕ) (ls : List ℤ) (i j : ℕ) → i < 64 → j < 64 → value_list words i ≡ value_list others j
      → bit_set i (satisfied_word words ls) ≡ bit_set j (satisfied_word others ls)
  -- "Errors: 21, words not V long, beside it 0, after 17 for V and before 16."
  pub by_rows : (v : ℕ) (ls : List ℤ) (words : List ℕ) → ByRows (17 ∷ 21 ∷ 16 ∷ []) (batch_rows v ls words) (batch_answer v ls words) Unit
  pub refused-variables : (v : ℕ) (ls : List ℤ) (words : List ℕ) → most_variables < v → batch_answer v ls words ≡ refusal 17 0
  pub refused-words : (v : ℕ) (ls : List ℤ) (words : List ℕ) → v ≤ most_variables → (length words ≡ v → ⊥) → batch_answer v ls words ≡ refusal 21 0
  pub refused_list : (v : ℕ) (ls : List ℤ) (words : List ℕ) → v ≤ most_variables → length words ≡ v → {i : ℕ} → wrong_list v ls ≡ Some i
      → batch_answer v ls words ≡ refusal 16 i
  -- (Calls, computed.)
  pub samples : All CaseHolds batch_cases
