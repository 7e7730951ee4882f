-- How a call ends: what it tells and what it leaves in the lent drawing. Assumes nothing.
use Prim.Native.Nat.{ℕ}
use native.Mathlib.Omega.{arith}
use lib.ListN.{length, take}
use lib.Seq.{take_at}
use borrow.Author.Tests.{eq-eqb, eqb-true, ne_eqb, not-false}
use mathlib.Core.Path.{◌≡◌, refl, sym, ◌∙◌, ap}
use mathlib.Core.Bool.{not, cond}
use mathlib.Core.List.{List}
use Rattle.answers.specs.declared.Outcome.{Outcome}
use Rattle.answers.specs.Outcome.{Row, cause, unless, first_refusal}
use Rattle.answers.specs.Lent.{filled, unless_refused}
use Rattle.answers.proofs.OneToOne.{number-not}
use Rattle.answers.proofs.Rows.{answered_clear, no-cause}
use Rattle.rules.specs.Board.{Board}
use Rattle.rules.specs.Judge.{rule_rows, judge_rows, says_yes}
use Rattle.answers.proofs.Elements.{made_long}
use Rattle.encoder.specs.Decoding.{value_of, drawn_at, decoded}
use Rattle.decoder.specs.declared.DecodeRefusal.{DecodeRefusal}
use Rattle.decoder.specs.Answer.{decode_refusal_outcome, value_rows}
use Rattle.decoder.proofs.Outcomes.{decode_numbers}

-- a refusal leaves the drawing as it was; where the judge says yes it is what the values give
module _ (rows : List Row) (lent drawn : List ℕ) where
  pub refused_left : (u : DecodeRefusal) → decode_refusal_outcome u ≡ first_refusal rows says_yes → lent ≡ unless_refused (first_refusal rows says_yes) lent drawn
  refused_left u e =
      sym (ap (λ z. cond z drawn lent) (ne_eqb _ 0 (λ z. number-not decode_numbers u (omega arith) (ap (λ (t : Outcome). t.number) e ∙ z))))

  pub yes_left : {after : List ℕ} → says_yes ≡ first_refusal rows says_yes → after ≡ drawn → after ≡ unless_refused (first_refusal rows says_yes) lent drawn
  yes_left e h = h ∙ ap (λ t. unless_refused t lent drawn) e

-- passed 8 and 7
pub lengths_right : (v n : ℕ) (values : List ℕ) (lent : ℕ) → says_yes ≡ first_refusal (value_rows v n values lent) says_yes
    → (length values ≡ v) × (lent ≡ n)
lengths_right v n values lent e =
    let (e8, (e7, c)) = answered_clear (value_rows v n values lent) says_yes refl (ap (λ (t : Outcome). t.number) (sym e)) in
    (eqb-true _ _ (not-false _ (no-cause _ e8)), eqb-true _ _ (not-false _ (no-cause _ e7)))

-- the front of the array that was drawn in; it has N bytes, so that the judge's rows are the rules'
module _ (b : Board) (values buf : List ℕ) {n : ℕ} {own : List ℕ} (e : n ≡ b.size) (h : own ≡ filled buf (decoded b values)) where
  pub front : take n own ≡ decoded b values
  front = (λ i. take (e i) (h i)) ∙ take_at (decoded b values) _ b.size (made_long (drawn_at b (value_of b values)) b.size)

  pub rules_left : first_refusal (rule_rows b (take n own)) says_yes ≡ first_refusal (judge_rows b (decoded b values)) says_yes
  rules_left =
      let ds = decoded b values in
      let long = eq-eqb (length ds) b.size (made_long (drawn_at b (value_of b values)) b.size) in
      ap (λ ds. first_refusal (rule_rows b ds) says_yes) front ∙ sym (ap (λ t. unless 7 (cause (not t)) (first_refusal (rule_rows b ds) says_yes)) long)
