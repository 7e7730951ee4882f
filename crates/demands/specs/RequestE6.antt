-- Document 02, E6, "Clause files as solvers write them", as one statement, in its order and words; what is in quotation marks is the request's.
-- The texts that it describes are `Accepted` of dimacs/specs/Accepted.antt: comment lines, document 01's header line, and a list in pieces, which are blanks,
-- numbers and `c` lines. The narrow form, the text of some V and list, is `Narrow` of dimacs/specs/Text.antt.
use Rattle.std.specs.Prelude.{ℕ, ◌≤◌, ◌<◌, ◌^◌, ℤ, pos, negsuc, length, ◌≡◌, true, ◌↔◌, List, [], ◌∷◌, ◌++◌}
use Rattle.answers.specs.Lists.{All, each}
use Rattle.answers.specs.Outcome.{refusal}
use Rattle.cnf.specs.Clauses.{split, clause_count}
use Rattle.dimacs.specs.Text.{header_line, CommentByte, comment_lines, text_of, HasText, Narrow}
use Rattle.dimacs.specs.Accepted.{is_blank, numbers_of, Accepted}
use Rattle.dimacs.specs.Reader.{header_read}
use Rattle.dimacs.specs.Calls.{writer_answer, reader_answer}
use Rattle.dimacs_theory.specs.Place.{Refused}
use Rattle.dimacs_theory.specs.Reading.{Writes, Reads, written, elements_read}
use Rattle.dimacs_theory.specs.Lines.{clause_line, BlankRun, spaced_bytes, spaced_numbers, Spaced}
use Rattle.dimacs_theory.specs.Tokens.{HeaderStands}

-- a text of a header line and these bytes, which is read as a list
pub record TextRead : Type 0 where
  pub variables : ℕ
  pub clauses : ℕ
  pub body : List ℕ
  pub list : List ℤ

abbrev pub IsRead : TextRead → Type 0
IsRead s = (out : List ℤ) → length s.list ≤ length out → Reads (header_line s.variables s.clauses ++ s.body) out s.variables s.list

-- a text of a header line and these bytes, which is refused at a place
pub record TextRefused : Type 0 where
  pub variables : ℕ
  pub clauses : ℕ
  pub body : List ℕ
  pub place : ℕ

abbrev pub IsRefused : TextRefused → Type 0
IsRefused s = (out : List ℤ) → reader_answer (header_line s.variables s.clauses ++ s.body) out ≡ refusal 19 s.place

-- (`⏎` is LF, `⇥` a tab.)
abbrev pub texts_read : List TextRead
texts_read =
    -- p cnf 1 1⏎1 0
    record { variables = 1; clauses = 1; body = 49 ∷ 32 ∷ 48 ∷ []; list = pos 1 ∷ pos 0 ∷ [] } ∷
    -- p cnf 1 1⏎c⏎1 0
    record { variables = 1; clauses = 1; body = 99 ∷ 10 ∷ 49 ∷ 32 ∷ 48 ∷ []; list = pos 1 ∷ pos 0 ∷ [] } ∷
    -- p cnf 2 3⏎ ⏎⇥1⏎-2 0 2⇥0 0⏎
    record {
      variables = 2;
      clauses = 3;
      body = 32 ∷ 10 ∷ 9 ∷ 49 ∷ 10 ∷ 45 ∷ 50 ∷ 32 ∷ 48 ∷ 32 ∷ 50 ∷ 9 ∷ 48 ∷ 32 ∷ 48 ∷ 10 ∷ [];
      list = pos 1 ∷ negsuc 1 ∷ pos 0 ∷ pos 2 ∷ pos 0 ∷ pos 0 ∷ [];
    } ∷
    -- p cnf 1 2⏎1 0⏎c⏎c 2⏎-1 0⏎c⏎
    record {
      variables = 1;
      clauses = 2;
      body = 49 ∷ 32 ∷ 48 ∷ 10 ∷ 99 ∷ 10 ∷ 99 ∷ 32 ∷ 50 ∷ 10 ∷ 45 ∷ 49 ∷ 32 ∷ 48 ∷ 10 ∷ 99 ∷ 10 ∷ [];
      list = pos 1 ∷ pos 0 ∷ negsuc 0 ∷ pos 0 ∷ [];
    } ∷
    []

abbrev pub texts_refused : List TextRefused
texts_refused =
    -- p cnf 1 1⏎1⏎c⏎0: a `c` line inside a clause
    record { variables = 1; clauses = 1; body = 49 ∷ 10 ∷ 99 ∷ 10 ∷ 48 ∷ []; place = 12 } ∷
    -- p cnf 1 0⏎ ⏎⇥c⏎: no line's first byte
    record { variables = 1; clauses = 0; body = 32 ∷ 10 ∷ 9 ∷ 99 ∷ 10 ∷ []; place = 13 } ∷
    -- p cnf 1 1⏎1 0c⏎: nor this
    record { variables = 1; clauses = 1; body = 49 ∷ 32 ∷ 48 ∷ 99 ∷ 10 ∷ []; place = 13 } ∷
    -- p cnf 1 1⏎1 0⏎c: no LF at the end of the `c` line
    record { variables = 1; clauses = 1; body = 49 ∷ 32 ∷ 48 ∷ 10 ∷ 99 ∷ []; place = 15 } ∷
    -- p cnf 1 2⏎1 0-1 0: no blank between numbers
    record { variables = 1; clauses = 2; body = 49 ∷ 32 ∷ 48 ∷ 45 ∷ 49 ∷ 32 ∷ 48 ∷ []; place = 13 } ∷
    -- p cnf 1 2⏎1 00: nor here
    record { variables = 1; clauses = 2; body = 49 ∷ 32 ∷ 48 ∷ 48 ∷ []; place = 13 } ∷
    -- p cnf 1 1⏎1 0 0: a clause too many
    record { variables = 1; clauses = 1; body = 49 ∷ 32 ∷ 48 ∷ 32 ∷ 48 ∷ []; place = 14 } ∷
    -- p cnf 1 1⏎1: it ends inside a clause
    record { variables = 1; clauses = 1; body = 49 ∷ []; place = 11 } ∷
    -- p cnf 0 1⏎-1 0: no variable
    record { variables = 0; clauses = 1; body = 45 ∷ 49 ∷ 32 ∷ 48 ∷ []; place = 10 } ∷
    -- p cnf 1 1⏎1 0, CR, LF: CR is no blank
    record { variables = 1; clauses = 1; body = 49 ∷ 32 ∷ 48 ∷ 13 ∷ 10 ∷ []; place = 13 } ∷
    []

pub record RequestE6 : Type 0 where
  -- "The reader turned down files that other solver users exchange. DIMACS lets a clause run over several lines and several stand on one, with any non-empty
  -- run of spaces, tabs and LF between numbers, and any run before the first and after the last;"
  -- (Such a text of any list is read, given room.)
  pub any_runs : (v : ℕ) (first : List ℕ) (ns : List (ℤ × List ℕ)) → BlankRun first → Spaced ns → let ls = spaced_numbers ns in
      HasText v ls → (out : List ℤ) → length ls ≤ length out → Reads (header_line v (clause_count ls) ++ (first ++ spaced_bytes ns)) out v ls
  -- "`c` lines, with the `c` as a line's first byte and an LF at the end, may also stand anywhere after the header, but not inside a clause. The reader takes
  -- these;"
  -- (It gives every other text refusal 19, and no accepted one; of an accepted text it reads V, the list and its number of clauses, given room. Some texts,
  -- computed.)
  pub takes : (text : List ℕ) (out : List ℤ) → ((reader_answer text out).number ≡ 19 → ⊥) ↔ Accepted text
  pub reads : (text : List ℕ) (a : Accepted text) (out : List ℤ) → length (numbers_of a.pieces) ≤ length out
      → Reads text out a.variables (numbers_of a.pieces)
  pub taken : All IsRead texts_read
  pub turned_down : All IsRefused texts_refused
  -- "the header line stays exactly that of document 01."
  -- (Comment lines may stand before it, as in document 01, and no blank: the first is refused.)
  pub header-line : (text : List ℕ) → Accepted text → (after : ℕ) × HeaderStands text 0 (header_read text) after
  pub blank_first : (cs : List (List ℕ)) → All (All CommentByte) cs → (b : ℕ) (text : List ℕ) → is_blank b ≡ true
      → (out : List ℤ) → reader_answer (comment_lines cs ++ (b ∷ text)) out ≡ refusal 19 (length (comment_lines cs))
  -- "The writer still writes one clause a line,"
  pub writer : (v : ℕ) (ls : List ℤ) (buf : List ℕ) → (writer_answer v ls buf).number ≡ 0
      → Writes v ls buf (header_line v (clause_count ls) ++ each (split ls) clause_line)
  -- "and reading its text yields its list;"
  -- (Given room; a slice has fewer than 2^64 elements.)
  pub reads_back : (v : ℕ) (ls : List ℤ) (buf : List ℕ) (out : List ℤ) → length ls < 2 ^ 64 → (writer_answer v ls buf).number ≡ 0 → length ls ≤ length out
      → Reads (written v ls buf) out v ls
  -- "writing a text again gives the same bytes only for the narrow form of document 01 without comments."
  -- (What was read is written, given room: the same bytes exactly for the narrow form. And the narrow form is accepted still, after comment lines too, and read
  -- as before: as the V and list that it is the text of.)
  pub written_again : (text : List ℕ) (out : List ℤ) (buf : List ℕ) → (reader_answer text out).number ≡ 0
      → let v = (reader_answer text out).second in let ls = elements_read text out in
      length (text_of v ls) ≤ length buf → Writes v ls buf (text_of v ls) × (text_of v ls ≡ text ↔ Narrow text)
  pub narrow_read : (cs : List (List ℕ)) → All (All CommentByte) cs → (text : List ℕ) (n : Narrow text) (out : List ℤ)
      → length n.list ≤ length out → Reads (comment_lines cs ++ text) out n.variables n.list
  -- "The form in refusal 19 is now this wider one."
  -- (The place beside it is the "first byte where no accepted text can go on, or the text's length if it ends too soon".)
  pub place : (text : List ℕ) (out : List ℤ) (k : ℕ) → reader_answer text out ≡ refusal 19 k ↔ Refused Accepted text k
