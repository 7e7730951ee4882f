-- Between the rows of the judge's table. Assumes nothing.
use Prim.Native.Nat.{ℕ}
use lib.ListN.{length}
use borrow.Author.Tests.{eq-eqb, ne_eqb}
use mathlib.Core.Path.{◌≡◌, sym, ◌∙◌, ap}
use mathlib.Core.Bool.{not}
use Rattle.std.specs.Prelude.{Option, None, Some}
use mathlib.Core.List.{List, ◌∷◌}
use Rattle.answers.specs.declared.Outcome.{Outcome}
use Rattle.answers.specs.First.{first_where}
use Rattle.answers.specs.Outcome.{Row, row, refusal, cause, unless, first_refusal}
use Rattle.answers.proofs.Rows.{Left, left_all, left_next, left_turn}
use Rattle.rules.specs.Board.{Board}
use Rattle.rules.specs.Judge.{white_at, off_loop_at, from_first, not_one_loop, rule_rows, judge_rows, says_yes}

-- row 7: the drawing has not N bytes, or it is left to the rules
module _ (b : Board) (ds : List ℕ) where
  pub wrong_length : (length ds ≡ b.size → ⊥) → refusal 7 0 ≡ first_refusal (judge_rows b ds) says_yes
  wrong_length n = left_turn (left_all (judge_rows b ds) says_yes) (ap cause (sym (ap not (ne_eqb _ _ n))))

  pub right_length : length ds ≡ b.size → first_refusal (rule_rows b ds) says_yes ≡ first_refusal (judge_rows b ds) says_yes
  right_length e = ap (λ t. unless 7 (cause (not t)) (first_refusal (rule_rows b ds) says_yes)) (sym (eq-eqb _ _ e))

-- a row whose place was sought: found, the call is refused; not found, the row is passed
module _ {whole rows : List Row} {t : Outcome} {n : ℕ} {o : Option ℕ} (left : Left whole t (row n o ∷ rows)) {q : Option ℕ} (sought : q ≡ o) where
  pub row-found : {x : ℕ} → q ≡ Some x → refusal n x ≡ first_refusal whole t
  row-found e = left_turn left (sym e ∙ sought)

  pub row_passed : q ≡ None → Left whole t rows
  row_passed e = left_next left (sym e ∙ sought)

-- row 15: there is no white cell, or the walk begins at the first
pub no-white : (b : Board) (ds : List ℕ) → None ≡ first_where (white_at b ds) b.size → Some 0 ≡ not_one_loop b ds
no-white b ds e = ap (λ (o : Option ℕ). from_first o (λ s. first_where (off_loop_at b ds s) b.size)) e

pub from-white : (b : Board) (ds : List ℕ) {s : ℕ} {o : Option ℕ} → Some s ≡ first_where (white_at b ds) b.size
    → o ≡ first_where (off_loop_at b ds s) b.size → o ≡ not_one_loop b ds
from-white b ds e h = h ∙ ap (λ (o : Option ℕ). from_first o (λ s. first_where (off_loop_at b ds s) b.size)) e
