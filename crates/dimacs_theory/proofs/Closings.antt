-- Lists that get no refusal 16, element by element. Assumes nothing.
use Prim.Native.Nat.{ℕ, zero, suc, ◌≤◌, ◌<◌}
use native.Mathlib.Omega.{arith}
use borrow.Author.Tests.{le-ltb, ltb-false}
use lib.IntN.{ℤ, nat_abs}
use lib.ListN.{length}
use mathlib.Core.Path.{◌≡◌, refl, sym, ◌∙◌}
use mathlib.Core.Bool.{Bool, true, false, not}
use Rattle.std.specs.Prelude.{Option, None, Some}
use Rattle.answers.proofs.Options.{some-none}
use mathlib.Core.List.{List, [], ◌∷◌}
use Rattle.answers.specs.First.{found, or_else, first_where}
use Rattle.answers.specs.Lists.{tally}
use Rattle.answers.proofs.First.{first_none, none_first, not_found}
use Rattle.cnf.specs.Literals.{closes, beyond_at, unclosed, wrong_list}
use Rattle.cnf.specs.Clauses.{clause_count}
use Rattle.cnf.proofs.Lists.{unclosed_tail}

-- a list from inside a clause, or from between two, to its end: no literal is beyond v, and the last clause is closed
pub data Closing (v : ℕ) : Bool → List ℤ → Type 0 where
  done : Closing v false []
  more : {begun : Bool} {l : ℤ} {ls : List ℤ} → nat_abs l ≤ v → Closing v (not (closes l)) ls → Closing v begun (l ∷ ls)

-- where a clause is begun one is still to be closed
pub closing_counts : {v : ℕ} {begun : Bool} {ls : List ℤ} → Closing v begun ls → tally begun 0 ≤ clause_count ls
closing_counts done = omega arith
closing_counts (more {begun = begun} {l = l} {ls = ls} w c) = by (closes l) begun (closing_counts c)
  where
    by : (t begun : Bool) → tally (not t) 0 ≤ clause_count ls → tally begun 0 ≤ tally t (clause_count ls)
    by true true h = omega arith
    by true false h = omega arith
    by false true h = h
    by false false h = omega arith

-- at the list's end none is begun
pub closing_end : {v : ℕ} {begun : Bool} → Closing v begun [] → begun ≡ false
closing_end done = refl

pub closing_closed : {v : ℕ} {begun : Bool} {ls : List ℤ} → Closing v begun ls → unclosed ls ≡ false
closing_closed done = refl
closing_closed (more {l = l} {ls = []} w c) = closing_end c
closing_closed (more {l = l} {ls = m ∷ ls} w c) = unclosed_tail l m ls ∙ closing_closed c

neither : (first second : Option ℕ) → or_else first second ≡ None → (first ≡ None) × (second ≡ None)
neither None second e = (refl, e)
neither (Some i) second e = absurd (some-none i e)

-- a list that passes ..
module _ (v : ℕ) where
  closing_on : {begun : Bool} (l : ℤ) (ls : List ℤ) → ((i : ℕ) → i < suc (length ls) → beyond_at v (l ∷ ls) i ≡ false) → unclosed (l ∷ ls) ≡ false
      → Closing v begun (l ∷ ls)
  closing_on l [] h e = more {l = l} {ls = []} (ltb-false v (nat_abs l) (h 0 (omega arith))) (rw e done)
  closing_on l (m ∷ ls) h e =
      more (ltb-false v (nat_abs l) (h 0 (omega arith))) (closing_on m ls (λ i k. h (suc i) (omega arith)) (sym (unclosed_tail l m ls) ∙ e))

  pub closing : (ls : List ℤ) → wrong_list v ls ≡ None → Closing v false ls
  closing [] e = done
  closing (l ∷ ls) e =
      let n = neither (first_where (beyond_at v (l ∷ ls)) (length (l ∷ ls))) (found (unclosed (l ∷ ls)) (length (l ∷ ls)) None) e in
      closing_on l ls (first_none (beyond_at v (l ∷ ls)) (length (l ∷ ls)) n.0) (not_found (unclosed (l ∷ ls)) (length (l ∷ ls)) n.1)

  -- .. and back
  within : {begun : Bool} {ls : List ℤ} → Closing v begun ls → (i : ℕ) → i < length ls → beyond_at v ls i ≡ false
  within done i h = absurd (omega arith)
  within (more {l = l} w c) zero h = le-ltb v (nat_abs l) w
  within (more w c) (suc i) h = within c i (omega arith)

  pub closing_right : (ls : List ℤ) → Closing v false ls → wrong_list v ls ≡ None
  closing_right ls c = rw (none_first (beyond_at v ls) (length ls) (within c), closing_closed c)
