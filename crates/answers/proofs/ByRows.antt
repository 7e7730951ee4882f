-- Which row turns a call down, and what a refusal leaves. Assumes nothing.
use Prim.Native.Nat.{ℕ, ◌<◌}
use native.Mathlib.Omega.{arith}
use lib.Dec.{eqb, ltb}
use borrow.Author.Tests.{eqb-false, ltb-true, lt-ltb}
use mathlib.Core.Path.{◌≡◌, refl, sym, ◌∙◌, ap, subst₂}
use mathlib.Core.Bool.{Bool, true, false}
use mathlib.Core.Logic.{◌↔◌}
use Rattle.std.specs.Prelude.{Option, None, Some}
use Rattle.std.proofs.lemmas.Option.{same_Some}
use Rattle.answers.proofs.Options.{some-none}
use mathlib.Core.List.{List, [], ◌∷◌, map}
use Rattle.answers.specs.declared.Outcome.{Outcome}
use Rattle.answers.specs.First.{found}
use Rattle.answers.specs.Lists.{tally}
use Rattle.answers.specs.Outcome.{Row, row, refusal, unless, first_refusal}
use Rattle.answers.specs.Lent.{capped, too_short}
use Rattle.answers.specs.ByRows.{FirstCause, here, later, ByRows}
use Rattle.answers.proofs.Rows.{unnumbered, answered_clear, clear_answered}

none_unnumbered : (b : Bool) (n : ℕ) → tally b n ≡ 0 → (b ≡ false) × (n ≡ 0)
none_unnumbered true n h = absurd (omega arith)
none_unnumbered false n h = (refl, h)

numbered : {rs : List Row} {n v : ℕ} → unnumbered rs ≡ 0 → FirstCause rs n v → n ≡ 0 → ⊥
numbered h (here {n = n} {rs = rs}) = eqb-false n 0 (none_unnumbered (eqb n 0) (unnumbered rs) h).0
numbered h (later {m = m} {rs = rs} f) = numbered (none_unnumbered (eqb m 0) (unnumbered rs) h).1 f

module _ (t : Outcome) (answers : t.number ≡ 0) where
  first_turns : {rs : List Row} {n v : ℕ} → FirstCause rs n v → first_refusal rs t ≡ refusal n v
  first_turns here = refl
  first_turns (later f) = first_turns f

  turns_first : (rs : List Row) {n v : ℕ} → (n ≡ 0 → ⊥) → first_refusal rs t ≡ refusal n v → FirstCause rs n v
  turns_first [] z e = absurd (z (sym (ap (λ (t : Outcome). t.number) e) ∙ answers))
  turns_first (r ∷ rs) {n} {v} z e = by r.beside e (turns_first rs z)
    where
      by : (o : Option ℕ) → unless r.number o (first_refusal rs t) ≡ refusal n v → (first_refusal rs t ≡ refusal n v → FirstCause rs n v)
          → FirstCause (row r.number o ∷ rs) n v
      by None e go = later (go e)
      by (Some w) e go =
          subst₂ (FirstCause (row r.number (Some w) ∷ rs)) (ap (λ (t : Outcome). t.number) e) (ap (λ (t : Outcome). t.first) e) here

  -- a call that goes by these rows
  pub by_rows : (order : List ℕ) (rs : List Row) {Untouched : Type 0} → map (λ (r : Row). r.number) rs ≡ order → unnumbered rs ≡ 0
      → (((first_refusal rs t).number ≡ 0 → ⊥) → Untouched) → ByRows order rs (first_refusal rs t) Untouched
  by_rows order rs o h k =
      record {
        in_order = o;
        turned_down = λ n v. (λ f. (numbered h f, first_turns f), λ e. turns_first rs e.0 e.1);
        kept = k;
        answered = (λ c. ap (λ (t : Outcome). t.number) (clear_answered rs t c) ∙ answers, answered_clear rs t h);
      }

-- row 6: turned down exactly if there is less room than needed
pub short : (room needed n : ℕ) → too_short room needed ≡ Some n ↔ (room < needed) × (n ≡ capped needed)
short room needed n = (by (ltb room needed) refl, λ h. rw (lt-ltb room needed h.0, h.1))
  where
    by : (t : Bool) → ltb room needed ≡ t → found t (capped needed) None ≡ Some n → (room < needed) × (n ≡ capped needed)
    by true q e = (ltb-true room needed q, sym (same_Some _ n e))
    by false q e = absurd (some-none n (sym e))
