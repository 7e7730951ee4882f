-- Laws of the table: which row refuses a call, and that a call is answered exactly if no row has its cause. Assumes nothing.
use Prim.Native.Nat.{ℕ}
use native.Mathlib.Omega.{arith}
use lib.Dec.{eqb}
use borrow.Author.Tests.{eqb-false}
use mathlib.Core.Path.{◌≡◌, refl, sym, ◌∙◌, ap}
use mathlib.Core.Bool.{Bool, true, false}
use Rattle.std.specs.Prelude.{Option, None, Some}
use Rattle.answers.proofs.Options.{some-none}
use mathlib.Core.List.{List, [], ◌∷◌, ◌++◌}
use Rattle.answers.specs.declared.Outcome.{Outcome}
use Rattle.answers.specs.Outcome.{Row, row, refusal, cause, unless, first_refusal}
use Rattle.answers.specs.Lists.{tally, how_many, All}

-- what the rows give, from the first on: each is passed, until one refuses the call or none is left
pub data RowsGive : List Row → Outcome → Outcome → Type 0 where
  answers : {t : Outcome} → RowsGive [] t t
  refuses : {n v : ℕ} {o : Option ℕ} {rs : List Row} {t : Outcome} → o ≡ Some v → RowsGive (row n o ∷ rs) t (refusal n v)
  passes : {n : ℕ} {o : Option ℕ} {rs : List Row} {t u : Outcome} → o ≡ None → RowsGive rs t u → RowsGive (row n o ∷ rs) t u

pub rows_give : {rs : List Row} {t u : Outcome} → RowsGive rs t u → u ≡ first_refusal rs t
rows_give answers = refl
rows_give (refuses {n = n} {rs = rs} {t = t} e) = sym (ap (λ (o : Option ℕ). unless n o (first_refusal rs t)) e)
rows_give (passes {n = n} {rs = rs} {t = t} e h) = rows_give h ∙ sym (ap (λ (o : Option ℕ). unless n o (first_refusal rs t)) e)

-- what is left of a table's rows, those before being passed: what the rest gives is what the whole gives
pub record Left (whole : List Row) (t : Outcome) (rows : List Row) : Type 0 where
  pub leads : {u : Outcome} → RowsGive rows t u → u ≡ first_refusal whole t

pub left_all : (whole : List Row) (t : Outcome) → Left whole t whole
left_all whole t = record { leads = λ h. rows_give h }

module _ {whole rows : List Row} {t : Outcome} {n : ℕ} {o : Option ℕ} (l : Left whole t (row n o ∷ rows)) where
  pub left_next : None ≡ o → Left whole t rows
  left_next e = record { leads = λ h. l.leads (passes (sym e) h) }

  pub left_turn : {v : ℕ} → Some v ≡ o → refusal n v ≡ first_refusal whole t
  left_turn e = l.leads (refuses (sym e))

pub left_done : {whole : List Row} {t : Outcome} → Left whole t [] → t ≡ first_refusal whole t
left_done l = l.leads answers

-- rows in two parts
pub refusals_append : (rs qs : List Row) (t : Outcome) → first_refusal (rs ++ qs) t ≡ first_refusal rs (first_refusal qs t)
refusals_append [] qs t = refl
refusals_append (r ∷ rs) qs t = ap (unless r.number r.beside) (refusals_append rs qs t)

-- no row's cause is there
abbrev pub Clear : List Row → Type 0
Clear rs = All (λ (r : Row). r.beside ≡ None) rs

-- how many rows have no number, that is, 0
abbrev pub unnumbered : List Row → ℕ
unnumbered rs = how_many (λ (r : Row). eqb r.number 0) rs

pub answered_clear : (rs : List Row) (t : Outcome) → unnumbered rs ≡ 0 → (first_refusal rs t).number ≡ 0 → Clear rs
answered_clear [] t n e = tt
answered_clear (r ∷ rs) t n e = by (eqb r.number 0) refl n r.beside refl e (answered_clear rs t)
  where
    by : (z : Bool) → eqb r.number 0 ≡ z → tally z (unnumbered rs) ≡ 0 → (o : Option ℕ) → r.beside ≡ o
        → (unless r.number o (first_refusal rs t)).number ≡ 0
        → (unnumbered rs ≡ 0 → (first_refusal rs t).number ≡ 0 → Clear rs) → Clear (r ∷ rs)
    by true q n o p e go = absurd (omega arith)
    by false q n None p e go = (p, go n e)
    by false q n (Some v) p e go = absurd (eqb-false r.number 0 q e)

pub clear_answered : (rs : List Row) (t : Outcome) → Clear rs → first_refusal rs t ≡ t
clear_answered [] t c = refl
clear_answered (r ∷ rs) t c = ap (λ (o : Option ℕ). unless r.number o (first_refusal rs t)) c.0 ∙ clear_answered rs t c.1

pub no-cause : (t : Bool) → cause t ≡ None → t ≡ false
no-cause true e = absurd (some-none 0 e)
no-cause false e = refl

-- a call that the first rows refuse is refused whatever comes after them
pub still_refused : (rs qs : List Row) (t u : Outcome) → t.number ≡ 0 → ((first_refusal rs t).number ≡ 0 → ⊥) → first_refusal rs t ≡ first_refusal (rs ++ qs) u
still_refused [] qs t u z n = absurd (n z)
still_refused (r ∷ rs) qs t u z n = by r.beside n (still_refused rs qs t u z)
  where
    by : (o : Option ℕ) → ((unless r.number o (first_refusal rs t)).number ≡ 0 → ⊥)
        → (((first_refusal rs t).number ≡ 0 → ⊥) → first_refusal rs t ≡ first_refusal (rs ++ qs) u)
        → unless r.number o (first_refusal rs t) ≡ unless r.number o (first_refusal (rs ++ qs) u)
    by None n go = go n
    by (Some v) n go = refl
