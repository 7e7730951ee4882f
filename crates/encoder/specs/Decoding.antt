-- "Decoding" of document 01: the drawing that values give, and the decoder's call.
use Rattle.std.specs.Prelude.{ℕ, suc, ◌+◌, ◌*◌, ◌<◌, eqb, ltb, length, get_or, ◌≡◌, Bool, true, false, not, ◌||◌, List, ◌∷◌, ◌++◌, map, Option, None, Some}
use Rattle.answers.specs.declared.Outcome.{Outcome}
use Rattle.answers.specs.First.{first_where, LeastWith}
use Rattle.answers.specs.Outcome.{Row, row, cause, first_refusal}
use Rattle.answers.specs.Lent.{unless_refused}
use Rattle.rules.specs.declared.Direction.{Direction}
use Rattle.rules.specs.Directions.{opposite, bit}
use Rattle.rules.specs.Record.{record_rows}
use Rattle.rules.specs.Board.{Board, board_of}
use Rattle.rules.specs.Drawing.{link_sum}
use Rattle.rules.specs.Judge.{there, wrong_drawing, judge_rows, says_yes}
use Rattle.cnf.specs.Clauses.{Assignment, Satisfies}
use Rattle.answers.specs.Lists.{up_to}
use Rattle.encoder.specs.Variables.{Variable, Z, E, variables, variable_count, place}
use Rattle.encoder.specs.Clauses.{clause_list}

-- V bytes, 0 or 1, in variable order: the value of a variable
abbrev pub value_of : Board → List ℕ → Variable → Bool
value_of b values v = eqb (get_or values (place v (variables b)) 0) 1

-- a link is drawn, at both its cells, where E holds either way
abbrev pub drawn_link : Board → (Variable → Bool) → ℕ → Direction → Bool
drawn_link b w x d = w (E x d) || there (λ y. w (E y (opposite d))) (b.next d x)

-- the parts of a byte add up: black 0x10, and the links; a cell that is not open is 0x20
abbrev pub drawn_byte : Bool → Bool → (Direction → Bool) → ℕ
drawn_byte true black link = bit black * 0x10 + link_sum link
drawn_byte false black link = 0x20

-- Z gives black: the byte of a cell
abbrev pub drawn_at : Board → (Variable → Bool) → ℕ → ℕ
drawn_at b w x = drawn_byte (b.is_open x) (w (Z x)) (drawn_link b w x)

-- the drawing, one byte a cell
abbrev pub drawn : Board → (Variable → Bool) → List ℕ
drawn b w = map (drawn_at b w) (up_to b.size)

abbrev pub decoded : Board → List ℕ → List ℕ
decoded b values = drawn b (value_of b values)

-- 8: values not V bytes
abbrev pub wrong_values : Board → List ℕ → Option ℕ
wrong_values b values = cause (not (eqb (length values) (variable_count b)))

-- variables are numbered from 1
abbrev pub numbered : Option ℕ → Option ℕ
numbered None = None
numbered (Some i) = Some (suc i)

-- 9: value not 0 or 1
abbrev pub wrong_value : List ℕ → Option ℕ
wrong_value values = numbered (first_where (λ i. ltb 1 (get_or values i 0)) (length values))

-- the same in the table's words: n is the number of the first variable whose value is not 0 or 1
pub record FirstWrongValue (values : List ℕ) (n : ℕ) : Type 0 where
  pub index : ℕ
  pub number : n ≡ suc index
  pub first : LeastWith (λ i. 1 < get_or values i 0) (length values) index

-- 8, 7, 9, 10-15, of a grid that was read: the drawing goes to the judge (whose 7 is not there, the drawing has N bytes)
abbrev pub decoder_grid_rows : Board → List ℕ → List ℕ → List Row
decoder_grid_rows b values lent =
    row 8 (wrong_values b values) ∷
    row 7 (wrong_drawing b lent) ∷
    row 9 (wrong_value values) ∷
    judge_rows b (decoded b values)

-- decoder 1-5, 8, 7, 9, 10-15
abbrev pub decoder_rows : List ℕ → List ℕ → List ℕ → List Row
decoder_rows s values lent = record_rows s ++ decoder_grid_rows (board_of s) values lent

abbrev pub decoder_answer : List ℕ → List ℕ → List ℕ → Outcome
decoder_answer s values lent = first_refusal (decoder_rows s values lent) says_yes

-- the drawing is handed out exactly if the judge says yes
abbrev pub decoder_leaves : List ℕ → List ℕ → List ℕ → List ℕ
decoder_leaves s values lent = unless_refused (decoder_answer s values lent) lent (decoded (board_of s) values)

-- an assignment that satisfies the grid's clauses
pub record Satisfying (s : List ℕ) (a : List Bool) : Type 0 where
  pub gives : Assignment (variable_count (board_of s)) a
  pub satisfies : Satisfies a (clause_list (board_of s))

-- an assignment's V bytes
abbrev pub bytes_of : List Bool → List ℕ
bytes_of a = map bit a

-- an assignment decodes to a drawing if the decoder, given the grid's record, the assignment's V bytes and N lent bytes to draw in, hands that drawing out
pub record DecodesTo (s : List ℕ) (a : List Bool) (ds : List ℕ) : Type 0 where
  pub says : (lent : List ℕ) → length lent ≡ (board_of s).size → decoder_answer s (bytes_of a) lent ≡ says_yes
  pub hands : (lent : List ℕ) → length lent ≡ (board_of s).size → decoder_leaves s (bytes_of a) lent ≡ ds
