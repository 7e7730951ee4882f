-- Every state that the reader comes to has a text that completes it. Assumes nothing.
use Prim.Native.Nat.{ℕ, zero, suc, ◌+◌, ◌-◌, ◌≤◌, ◌<◌}
use native.Mathlib.Omega.{arith}
use borrow.Author.Tests.{eq-eqb, ne_eqb}
use lib.Dec.{eqb}
use lib.IntN.{ℤ}
use lib.ListN.{drop}
use mathlib.Core.Path.{◌≡◌, refl}
use mathlib.Core.Bool.{Bool, true, false}
use Rattle.std.specs.Prelude.{Some}
use mathlib.Core.List.{List, [], ◌∷◌}
use Rattle.answers.specs.Lists.{tally}
use Rattle.text.specs.Decimal.{line_feed, space, digit}
use Rattle.dimacs.specs.Text.{preamble}
use Rattle.dimacs.specs.Reader.{Header, header_with, Number, State, line, first, digits, clause, element, after_word, step_byte, accepts}
use Rattle.dimacs_theory.proofs.Runs.{Runs, stay, byte, Fits, fits, first_step}
use Rattle.dimacs_theory.proofs.Shapes.{Head, variables, clauses, literal, Shape, nothing, in_comment, letters, before, inside, list, in_list_comment}

-- a text that leads from a state to the end
pub record Completion (s : State) : Type 0 where
  pub rest : List ℕ
  pub end : State
  pub elements : List ℤ
  pub run : Runs s rest end elements
  pub accepted : accepts end ≡ true

by_byte : {s t : State} (b : ℕ) → step_byte s b ≡ Some t → Completion t → Completion s
by_byte {s} b e c = record { rest = b ∷ c.rest; end = c.end; elements = _; run = byte e refl c.run; accepted = c.accepted }

-- a line `0` for each clause that is still to come
clauses_complete : (h : Header) (n k : ℕ) (begun at_line : Bool) → k + n ≡ h.clauses → tally begun k ≤ h.clauses → Completion (clause h k begun at_line)
clauses_complete h zero k true at_line e room = absurd (omega arith)
clauses_complete h zero k false at_line e room =
    record { rest = []; end = clause h k false at_line; elements = []; run = stay; accepted = eq-eqb k h.clauses (omega arith) }
clauses_complete h (suc n) k begun at_line e room =
    by_byte {t = digits (element h k false) 0} (digit 0)
    (rw (ne_eqb k h.clauses (λ q. omega arith)) (first_step {n = element h k false} {d = 0} (omega arith) (fits refl (omega arith))))
    (by_byte line_feed refl (clauses_complete h n (suc k) false true (omega arith) (omega arith)))

rest_complete : (h : Header) (k : ℕ) (begun at_line : Bool) → tally begun k ≤ h.clauses → Completion (clause h k begun at_line)
rest_complete h k begun at_line room = clauses_complete h (h.clauses - k) k begun at_line (sum begun room) room
  where
    sum : (t : Bool) → tally t k ≤ h.clauses → k + (h.clauses - k) ≡ h.clauses
    sum true l = omega arith
    sum false l = omega arith

-- after a number's digits, and before its first
digits_complete : {n : Number} (x : ℕ) {part : List ℕ} {ls : List ℤ} → Head n part ls → Completion (digits n x)
digits_complete x (variables p) =
    by_byte space refl (by_byte (digit 0) refl (by_byte line_feed refl (rest_complete (header_with x 0) 0 false true (omega arith))))
digits_complete x (clauses {v = v} f p) = by_byte line_feed refl (rest_complete (header_with v x) 0 false true (omega arith))
digits_complete x (literal {h = h} {k = k} {negative = negative} p room z) = by (eqb x 0) refl
  where
    by : (t : Bool) → eqb x 0 ≡ t → Completion (digits (element h k negative) x)
    by true q = by_byte line_feed (rw q) (rest_complete h (suc k) false true room)
    by false q = by_byte line_feed (rw q) (rest_complete h k true true room)

from-digit : {n : Number} {part : List ℕ} {ls : List ℤ} (d : ℕ) → d < 10 → Fits n d → Head n part ls → Completion (first n)
from-digit d h f p = by_byte (digit d) (first_step h f) (digits_complete d p)

first_complete : {n : Number} {part : List ℕ} {ls : List ℤ} → Head n part ls → Completion (first n)
first_complete (variables p) = from-digit 0 (omega arith) (fits refl (omega arith)) (variables p)
first_complete (clauses f p) = from-digit 0 (omega arith) (fits refl (omega arith)) (clauses f p)
first_complete (literal {negative = false} p room z) = from-digit 0 (omega arith) (fits refl (omega arith)) (literal p room z)
first_complete (literal {negative = true} p room z) =
    let v = z refl in
    from-digit 1 (omega arith) (record { few = omega arith; nonzero = λ e. omega arith }) (literal p room z)

word_complete : (ws : List ℕ) → Completion (after_word ws)
word_complete [] = first_complete (variables refl)
word_complete (w ∷ ws) = by_byte w (rw (eq-eqb w w refl)) (word_complete ws)

line_complete : Completion line
line_complete = by_byte 112 refl (word_complete (drop 1 preamble))

pub completion : {s : State} {part : List ℕ} {ls : List ℤ} → Shape s part ls → Completion s
completion nothing = line_complete
completion (in_comment a) = by_byte line_feed refl line_complete
completion (letters {w = w} {ws = ws} p) = word_complete (w ∷ ws)
completion (before p) = first_complete p
completion (inside {x = x} p f) = digits_complete x p
completion (list {h = h} {k = k} {begun = begun} {at_line = at_line} p) = rest_complete h k begun at_line p.whole.room
completion (in_list_comment {h = h} {k = k} p bs a) = by_byte line_feed refl (rest_complete h k false true p.whole.room)
