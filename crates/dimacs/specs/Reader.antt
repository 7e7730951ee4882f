-- The text reader: the accepted texts byte by byte, and row 19 of "Turned down".
use Rattle.std.specs.Prelude.{ℕ, suc, ◌+◌, ◌*◌, ◌-◌, ◌^◌, eqb, leb, ltb, ℤ, pos, neg_ℤ, Bool, true, false, not, ◌&&◌, ◌||◌, cond, List, [], ◌∷◌, ◌++◌, Option, None, Some}
use Rattle.answers.specs.Lists.{tally}
use Rattle.cnf.specs.Literals.{most_variables}
use Rattle.text.specs.Decimal.{line_feed, space, minus}
use Rattle.dimacs.specs.Text.{preamble}
use Rattle.dimacs.specs.Accepted.{is_blank}
use Rattle.dimacs.specs.Automaton.{next, end_from, refused_from}

-- V and C
pub record Header : Type 0 where
  pub variables : ℕ
  pub clauses : ℕ

abbrev pub header_with : ℕ → ℕ → Header
header_with v c = record { variables = v; clauses = c }

-- which number is read: V; C, once V is read; or an element of the list, after so many clauses, with or without a minus before it
pub data Number : Type 0 where
  of_variables : Number
  of_clauses : ℕ → Number
  element : Header → ℕ → Bool → Number

-- line: before the header, at a line's first byte. comment: in a comment line, with the state after it. word: in `p cnf `, with the bytes that are to come.
-- first: before a number's first digit. digits: after a digit, with the number so far.
-- clause: after the header, not right after a number; so many clauses are closed; whether the next is begun; whether a line begins here.
pub data State : Type 0 where
  line : State
  comment : State → State
  word : List ℕ → State
  first : Number → State
  digits : Number → ℕ → State
  clause : Header → ℕ → Bool → Bool → State

abbrev pub when : Bool → State → Option State
when true s = Some s
when false s = None

-- V is at most 16,777,216, C below 2^64, no literal is beyond V
abbrev pub most : Number → ℕ
most of_variables = most_variables
most (of_clauses v) = 2 ^ 64 - 1
most (element h k negative) = h.variables

-- no −0
abbrev pub zero_allowed : Number → Bool
zero_allowed of_variables = true
zero_allowed (of_clauses v) = true
zero_allowed (element h k negative) = not negative

abbrev pub is_digit : ℕ → Bool
is_digit b = leb 48 b && leb b 57

-- a byte as the first digit of a number to a bound, 0 among them or not
abbrev pub is_first : ℕ → ℕ → Bool → Bool
is_first b bound zero = is_digit b && (zero || not (eqb b 48)) && leb (b - 48) bound

-- a digit after the number x: no leading zero
abbrev pub is_next : ℕ → ℕ → ℕ → Bool
is_next x d bound = not (eqb x 0) && leb (x * 10 + d) bound

abbrev pub first_digit : Number → ℕ → Option State
first_digit n b = when (is_first b (most n) (zero_allowed n)) (digits n (b - 48))

abbrev pub next_digit : Number → ℕ → ℕ → Option State
next_digit n x b = when (is_next x (b - 48) (most n)) (digits n (x * 10 + (b - 48)))

-- a blank after an element, which closes a clause or leaves one begun
abbrev pub after_element : Header → ℕ → Bool → ℕ → Option State
after_element h k closing b = when (is_blank b) (clause h (tally closing k) (not closing) (eqb b line_feed))

-- a space after V, LF after C
abbrev pub after_number : Number → ℕ → ℕ → Option State
after_number of_variables x b = when (eqb b space) (first (of_clauses x))
after_number (of_clauses v) x b = when (eqb b line_feed) (clause (header_with v x) 0 false true)
after_number (element h k negative) x b = after_element h k (eqb x 0) b

-- the bytes of `p cnf `, then V
abbrev pub after_word : List ℕ → State
after_word [] = first of_variables
after_word (w ∷ ws) = word (w ∷ ws)

abbrev pub word_step : List ℕ → ℕ → Option State
word_step [] b = None
word_step (w ∷ ws) b = when (eqb b w) (after_word ws)

-- the `c` of a comment line: a line begins, and no clause is begun
abbrev pub starts_comment : Bool → Bool → ℕ → Bool
starts_comment begun at_line b = eqb b 99 && at_line && not begun

-- the first byte of an element: none after the C-th clause; a minus only if there is a variable
abbrev pub element_step : Header → ℕ → ℕ → Option State
element_step h k b =
    cond (eqb k h.clauses) None
    (cond (eqb b minus) (when (not (eqb h.variables 0)) (first (element h k true)))
    (first_digit (element h k false) b))

-- a byte that is not right after a number: a blank, the `c` of a comment line, or an element's first
abbrev pub clause_step : Header → ℕ → Bool → Bool → ℕ → Option State
clause_step h k begun at_line b =
    cond (is_blank b) (Some (clause h k begun (eqb b line_feed)))
    (cond (starts_comment begun at_line b) (Some (comment (clause h k begun true)))
    (element_step h k b))

abbrev pub step_byte : State → ℕ → Option State
step_byte line b = cond (eqb b 99) (Some (comment line)) (word_step preamble b)
step_byte (comment s) b = cond (eqb b line_feed) (Some s) (when (ltb b 256) (comment s))
step_byte (word ws) b = word_step ws b
step_byte (first n) b = first_digit n b
step_byte (digits n x) b = cond (is_digit b) (next_digit n x b) (after_number n x b)
step_byte (clause h k begun at_line) b = clause_step h k begun at_line b

-- the 0 that closes the C-th clause, which the text's end may follow
abbrev pub closes_last : Number → ℕ → Bool
closes_last of_variables x = false
closes_last (of_clauses v) x = false
closes_last (element h k negative) x = eqb x 0 && eqb (suc k) h.clauses

-- C clauses are read, and no other is begun
abbrev pub accepts : State → Bool
accepts line = false
accepts (comment s) = false
accepts (word ws) = false
accepts (first n) = false
accepts (digits n x) = closes_last n x
accepts (clause h k begun at_line) = not begun && eqb k h.clauses

-- the element that a number is, with or without a minus before it
abbrev pub literal_of : Bool → ℕ → ℤ
literal_of negative x = cond negative (neg_ℤ (pos x)) (pos x)

abbrev pub read_element : Number → ℕ → List ℤ
read_element of_variables x = []
read_element (of_clauses v) x = []
read_element (element h k negative) x = literal_of negative x ∷ []

-- the element that a byte ends
abbrev pub ended : State → ℕ → List ℤ
ended line b = []
ended (comment s) b = []
ended (word ws) b = []
ended (first n) b = []
ended (digits n x) b = cond (is_digit b) [] (read_element n x)
ended (clause h k begun at_line) b = []

-- the element that the text's end ends
abbrev pub ended_last : State → List ℤ
ended_last line = []
ended_last (comment s) = []
ended_last (word ws) = []
ended_last (first n) = []
ended_last (digits n x) = read_element n x
ended_last (clause h k begun at_line) = []

unfoldable pub list_from : State → List ℕ → List ℤ
list_from s [] = ended_last s
list_from s (b ∷ bs) = next (step_byte s b) [] (λ t. ended s b ++ list_from t bs)

abbrev pub no_header : Header
no_header = header_with 0 0

-- the header that stands before a number of the list
abbrev pub header_before : Number → Header
header_before of_variables = no_header
header_before (of_clauses v) = no_header
header_before (element h k negative) = h

abbrev pub header_in : State → Header
header_in line = no_header
header_in (comment s) = no_header
header_in (word ws) = no_header
header_in (first n) = no_header
header_in (digits n x) = header_before n
header_in (clause h k begun at_line) = h

-- 19: first byte where no accepted text can go on, or the text's length if it ends too soon
abbrev pub refused_at : List ℕ → Option ℕ
refused_at text = refused_from step_byte accepts line text 0

-- the list that is read
abbrev pub list_read : List ℕ → List ℤ
list_read text = list_from line text

-- V and the number of clauses that are read
abbrev pub header_read : List ℕ → Header
header_read text = next (end_from step_byte line text) no_header header_in
