-- The call goes through its rows in order. Assumes nothing.
use Prim.Native.Nat.{ℕ}
use borrow.Author.Tests.{eq-eqb, ne_eqb}
use lib.IntN.{ℤ}
use lib.ListN.{length}
use mathlib.Core.Path.{◌≡◌, sym, ap}
use mathlib.Core.Bool.{Bool, true, false, not}
use mathlib.Core.List.{List, [], ◌∷◌}
use Rattle.answers.specs.Outcome.{row, answer, refusal, cause, first_refusal}
use Rattle.answers.proofs.Rows.{Left, left_all, left_next, left_turn}
use Rattle.cnf.specs.Literals.{too_many_variables, wrong_list}
use Rattle.cnf_batch.specs.Batch.{satisfied_word}
use Rattle.cnf_batch.specs.Call.{batch_rows, batch_answer, reading_answer}

module _ (v : ℕ) (ls : List ℤ) (words : List ℕ) where
  all_rows : Left (batch_rows v ls words) (answer (satisfied_word words ls) 0 0) (batch_rows v ls words)
  all_rows = left_all (batch_rows v ls words) (answer (satisfied_word words ls) 0 0)

  pub too_many : true ≡ too_many_variables v → refusal 17 0 ≡ batch_answer v ls words
  too_many h = left_turn all_rows (ap cause h)

  pub words_wrong : false ≡ too_many_variables v → (length words ≡ v → ⊥) → refusal 21 0 ≡ batch_answer v ls words
  words_wrong h n = left_turn (left_next all_rows (ap cause h)) (ap (λ (t : Bool). cause (not t)) (sym (ne_eqb (length words) v n)))

  pub words_right : false ≡ too_many_variables v → length words ≡ v → reading_answer words ls ≡ batch_answer v ls words
  words_right h e = rw (← h, eq-eqb (length words) v e) (ap (λ (n : ℕ). first_refusal (row 16 (wrong_list n ls) ∷ []) (answer (satisfied_word words ls) 0 0)) e)
