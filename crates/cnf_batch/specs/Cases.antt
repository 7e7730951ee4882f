-- Calls with what they tell.
use Rattle.std.specs.Prelude.{ℕ, ◌-◌, ◌^◌, ℤ, pos, negsuc, ◌≡◌, List, [], ◌∷◌}
use Rattle.answers.specs.declared.Outcome.{Outcome}
use Rattle.answers.specs.Outcome.{answer, refusal}
use Rattle.cnf_batch.specs.Call.{batch_answer}

-- V, a clause list, the words, and the outcome
pub record BatchCase : Type 0 where
  pub variables : ℕ
  pub list : List ℤ
  pub words : List ℕ
  pub outcome : Outcome

abbrev pub CaseHolds : BatchCase → Type 0
CaseHolds c = batch_answer c.variables c.list c.words ≡ c.outcome

abbrev calls : ℕ → List ℤ → List ℕ → Outcome → BatchCase
calls v ls words t = record { variables = v; list = ls; words = words; outcome = t }

abbrev pub batch_cases : List BatchCase
batch_cases =
    -- every list satisfies the empty clause list, with no variables too; none satisfies one with an empty clause
    calls 0 [] [] (answer (2 ^ 64 - 1) 0 0) ∷
    calls 1 [] (5 ∷ []) (answer (2 ^ 64 - 1) 0 0) ∷
    calls 0 (pos 0 ∷ []) [] (answer 0 0 0) ∷
    calls 1 (pos 1 ∷ negsuc 0 ∷ pos 0 ∷ pos 0 ∷ []) (5 ∷ []) (answer 0 0 0) ∷
    -- lists 0 to 3 have the values 00, 10, 01, 11, the others 00: all but list 2 satisfy (1 or not 2), and of these list 3 alone has variable 2 true
    calls 2 (pos 1 ∷ negsuc 1 ∷ pos 0 ∷ []) (10 ∷ 12 ∷ []) (answer (2 ^ 64 - 1 - 2 ^ 2) 0 0) ∷
    calls 2 (pos 1 ∷ negsuc 1 ∷ pos 0 ∷ pos 2 ∷ pos 0 ∷ []) (10 ∷ 12 ∷ []) (answer (2 ^ 3) 0 0) ∷
    -- the last list
    calls 1 (pos 1 ∷ pos 0 ∷ []) (2 ^ 63 ∷ []) (answer (2 ^ 63) 0 0) ∷
    -- 17 before 21 before 16; too few words and too many; a literal beyond V, and a list that does not end in 0
    calls 16777217 (pos 5 ∷ []) [] (refusal 17 0) ∷
    calls 1 (pos 5 ∷ []) [] (refusal 21 0) ∷
    calls 1 (pos 1 ∷ pos 0 ∷ []) (5 ∷ 5 ∷ []) (refusal 21 0) ∷
    calls 1 (pos 1 ∷ negsuc 1 ∷ []) (5 ∷ []) (refusal 16 1) ∷
    calls 1 (pos 0 ∷ pos 1 ∷ []) (5 ∷ []) (refusal 16 2) ∷
    []
