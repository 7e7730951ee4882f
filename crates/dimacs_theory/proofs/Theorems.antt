-- What is true of DIMACS text, each result in one statement. The proofs stand in the files beside this one.
-- Nothing is assumed but what a statement says.
use Prim.Native.Nat.{ℕ, ◌*◌, ◌≤◌, ◌<◌, ◌^◌}
use native.Mathlib.Omega.{arith}
use borrow.Author.Tests.{ne_eqb}
use lib.IntN.{ℤ}
use lib.ListN.{length, length-append}
use mathlib.Core.Path.{◌≡◌, refl, sym, ◌∙◌, ap, subst₂, subst₃}
use mathlib.Core.Logic.{◌↔◌}
use mathlib.Core.Bool.{Bool, true}
use Rattle.std.specs.Prelude.{None, Some, Result}
use mathlib.Core.List.{List, [], ◌∷◌, ◌++◌, append-nil}
use Rattle.answers.specs.declared.Outcome.{Outcome}
use Rattle.answers.specs.Lists.{All, each}
use Rattle.answers.proofs.OneToOne.{one_to_one}
use Rattle.cnf.specs.Literals.{wrong_list}
use Rattle.cnf.specs.Clauses.{split, clause_count}
use Rattle.dimacs.specs.Text.{header_line, CommentByte, comment_lines, text_of, HasText, Narrow}
use Rattle.dimacs.specs.Accepted.{is_blank, bytes_of, numbers_of, Accepted}
use Rattle.dimacs.specs.Automaton.{refused_from}
use Rattle.dimacs.specs.Reader.{Header, line, refused_at, list_read, header_read}
use Rattle.dimacs.specs.Tokens.{stands, number_at, element_at, header_at}
use Rattle.dimacs.specs.Calls.{writer_answer, reader_answer}
use Rattle.dimacs.specs.declared.WriteRefusal.{WriteRefusal}
use Rattle.dimacs.specs.declared.ReadRefusal.{ReadRefusal}
use Rattle.dimacs.specs.declared.ListRead.{ListRead}
use Rattle.dimacs.specs.Answers.{written_outcome, reading_outcome}
use Rattle.dimacs.proofs.Outcomes.{writings, readings}
use Rattle.dimacs_theory.specs.Place.{Refused, Automaton}
use Rattle.dimacs_theory.specs.Tokens.{NumberStands, sign_and_number, ElementStands, HeaderStands}
use Rattle.dimacs_theory.specs.Reading.{ReadAs, Writes, Reads, written, elements_read}
use Rattle.dimacs_theory.specs.Lines.{clause_line, BlankRun, spaced_bytes, spaced_numbers, Spaced}
use Rattle.dimacs_theory.proofs.Automata as automata
use Rattle.dimacs_theory.proofs.Closings.{closing, closing_closed}
use Rattle.dimacs_theory.proofs.Lines.{lines-clauses}
use Rattle.dimacs_theory.proofs.Pieces.{blank_low, pieces_few}
use Rattle.dimacs_theory.proofs.Runs.{Runs, stay, run-refused, comments_run}
use Rattle.dimacs_theory.proofs.Exactly as exact
use Rattle.dimacs_theory.proofs.Numbers as numbers
use Rattle.dimacs_theory.proofs.Elements as elements
use Rattle.dimacs_theory.proofs.Headers as headers
use Rattle.dimacs_theory.proofs.Calls.{writer_passed, writer_answers, writer_hands, reader_passed, reader_answers, reader_hands, count_few}

-- The reader takes exactly the accepted texts: comment lines, the header of some V and list, and that list in pieces ..
pub takes_accepted : (text : List ℕ) → refused_at text ≡ None ↔ Accepted text
takes_accepted = exact.exactly

-- .. and what it reads from one is that V and that list. So the list can be written, and the header's second number counts its clauses.
pub reads_accepted : (text : List ℕ) (a : Accepted text) → ReadAs text a.variables (numbers_of a.pieces)
reads_accepted text a = exact.accepted_read a

pub reads_has_text : (text : List ℕ) → Accepted text
    → HasText (header_read text).variables (list_read text) × ((header_read text).clauses ≡ clause_count (list_read text))
reads_has_text text a = let r = exact.accepted_read a in rw (r.variables, r.list) (a.has_text, r.clauses)

-- Its header line is document 01's, with the V and the number of clauses that are read; comment lines may stand before it.
pub header-line : (text : List ℕ) → Accepted text → (after : ℕ) × HeaderStands text 0 (header_read text) after
header-line text a = exact.accepted_header a

-- A blank before it is refused, after comment lines too.
pub blank_first : (cs : List (List ℕ)) → All (All CommentByte) cs → (b : ℕ) (text : List ℕ) → is_blank b ≡ true
    → refused_at (comment_lines cs ++ (b ∷ text)) ≡ Some (length (comment_lines cs))
unfolding refused_from
blank_first cs a b text t =
    let l = blank_low b t in
    let comments : Runs line (comment_lines cs) line [] = rw append-nil at (comments_run cs a [] stay) in
    run-refused comments (b ∷ text) 0 ∙ rw (ne_eqb b 99 (λ e. omega arith), ne_eqb b 112 (λ e. omega arith)) (ap Some (omega arith))

-- Half a text's bytes are room enough for its list.
pub half_enough : (text : List ℕ) → Accepted text → length (list_read text) * 2 < length text
half_enough text a =
    let r = exact.accepted_read a in
    let front = comment_lines a.comments in
    let header = header_line a.variables (clause_count (numbers_of a.pieces)) in
    let few = pieces_few a.formed [] a.pieces refl in
    let whole = length-append front (header ++ bytes_of a.pieces) in
    let rest = length-append header (bytes_of a.pieces) in
    rw (r.list, a.is) (omega (arith, few, whole, rest))

-- Numbers with runs of blanks between them, any run before the first and any after the last, are read, after comment lines too.
pub spaced_read : (cs : List (List ℕ)) → All (All CommentByte) cs → (v : ℕ) (first : List ℕ) (ns : List (ℤ × List ℕ)) → BlankRun first → Spaced ns
    → HasText v (spaced_numbers ns)
    → ReadAs (comment_lines cs ++ (header_line v (clause_count (spaced_numbers ns)) ++ (first ++ spaced_bytes ns))) v (spaced_numbers ns)
spaced_read = exact.spaced_read

-- A text in the narrow form, after comment lines or none, is accepted, and its V and list are read. These are the texts that document 01 accepts.
pub narrow_accepted : (cs : List (List ℕ)) → All (All CommentByte) cs → (text : List ℕ) → Narrow text → Accepted (comment_lines cs ++ text)
narrow_accepted cs a text n = exact.narrow_accepted cs a n

pub narrow_read : (cs : List (List ℕ)) → All (All CommentByte) cs → (text : List ℕ) (n : Narrow text)
    → ReadAs (comment_lines cs ++ text) n.variables n.list
narrow_read cs a text n = exact.narrow_read cs a n

-- The text of V and a list is read back: the reader takes it, and reads that V, that list and its number of clauses.
pub reads_back : (v : ℕ) (ls : List ℤ) → HasText v ls → ReadAs (text_of v ls) v ls
reads_back v ls w = exact.narrow_read [] tt (record { variables = v; list = ls; has_text = w; is = refl })

-- That text has a line for each clause, after the header line.
pub clause_lines : (v : ℕ) (ls : List ℤ) → wrong_list v ls ≡ None → text_of v ls ≡ header_line v (clause_count ls) ++ each (split ls) clause_line
clause_lines v ls e = ap (λ bs. header_line v (clause_count ls) ++ bs) (lines-clauses ls (closing_closed (closing v ls e)))

-- The text of what is read from an accepted text is, byte for byte, that text exactly if it is in the narrow form.
pub narrow_exactly : (text : List ℕ) → refused_at text ≡ None → text_of (header_read text).variables (list_read text) ≡ text ↔ Narrow text
narrow_exactly text e = (
  λ same. record { variables = (header_read text).variables; list = list_read text; has_text = (reads_has_text text ((exact.exactly text).0 e)).0; is = sym same },
  λ n. let r = exact.narrow_read [] tt n in rw (r.variables, r.list) (sym n.is),
)

-- The place of refusal 19: the bytes before it are the beginning of some accepted text; if it is inside the text, the bytes up to and
-- including it are the beginning of none; if it is the text's length, the text is a beginning of some accepted text and is not accepted.
-- A text has at most one such place, and the reader names it wherever there is one.
pub place_19 : (text : List ℕ) (k : ℕ) → refused_at text ≡ Some k ↔ Refused Accepted text k
place_19 = exact.place_19

-- The same holds of any automaton over bytes in which every live state has a completing text, with the texts that it takes.
pub place_of_any : {S : Type 0} (A : Automaton S) (Taken : List ℕ → Type 0)
    → ((text : List ℕ) → refused_from A.step A.accepts A.start text 0 ≡ None ↔ Taken text)
    → (text : List ℕ) (k : ℕ) → refused_from A.step A.accepts A.start text 0 ≡ Some k ↔ Refused Taken text k
place_of_any A Taken exactly text k = automata.place A Taken exactly text k

-- What the writer hands out, the reader reads back, given room (a slice has fewer than 2^64 elements).
pub write_read : (v : ℕ) (ls : List ℤ) (buf : List ℕ) (out : List ℤ) → length ls < 2 ^ 64 → (writer_answer v ls buf).number ≡ 0 → length ls ≤ length out
    → Reads (written v ls buf) out v ls
write_read v ls buf out few e h =
    let p = writer_passed v ls buf (omega (arith, count_few ls)) e in
    rw (writer_hands v ls buf p.0 p.1) (reader_answers (text_of v ls) out (reads_back v ls p.0) h)

-- What the reader hands out of a text in the narrow form, the writer writes again as that text, given room ..
pub read_write : (text : List ℕ) (out : List ℤ) (buf : List ℕ) → Narrow text → (reader_answer text out).number ≡ 0 → length text ≤ length buf
    → Writes (reader_answer text out).second (elements_read text out) buf text
read_write text out buf n e h =
    let r = exact.narrow_read [] tt n in
    let room : length n.list ≤ length out = rw (← r.list) (reader_passed text out e).1 in
    let fits : length (text_of n.variables n.list) ≤ length buf = omega (arith, ap length n.is) in
    let outcome = ap (λ (t : Outcome). t.second) (reader_answers text out r room).outcome in
    subst₃ (λ v ls t. Writes v ls buf t) (sym outcome) (sym (reader_hands text out r room)) (sym n.is)
    (writer_answers n.variables n.list buf n.has_text fits)

-- .. and of no other text: what it hands out of a text, the writer writes, given room, and those are the same bytes only for the narrow form.
pub written_again : (text : List ℕ) (out : List ℤ) (buf : List ℕ) → (reader_answer text out).number ≡ 0
    → let v = (reader_answer text out).second in let ls = elements_read text out in
    length (text_of v ls) ≤ length buf → Writes v ls buf (text_of v ls) × (text_of v ls ≡ text ↔ Narrow text)
written_again text out buf e =
    let p = reader_passed text out e in
    let a = (exact.exactly text).0 p.0 in
    let r = exact.accepted_read a in
    let room : length (numbers_of a.pieces) ≤ length out = rw (← r.list) p.1 in
    let second = ap (λ (t : Outcome). t.second) (reader_answers text out r room).outcome ∙ sym r.variables in
    let list = reader_hands text out r room ∙ sym r.list in
    subst₂ (λ v ls. length (text_of v ls) ≤ length buf → Writes v ls buf (text_of v ls) × (text_of v ls ≡ text ↔ Narrow text)) (sym second) (sym list)
    (λ fits. (writer_answers (header_read text).variables (list_read text) buf (reads_has_text text a).0 fits, narrow_exactly text p.0))

-- Document 01's numbers and values tell the answers apart: two answers of the writer that are told the same are the same, and two of the text reader likewise.
pub outcome_one_to_one : ((v w : Result ℕ WriteRefusal) → written_outcome v ≡ written_outcome w → v ≡ w) × ((r s : Result ListRead ReadRefusal) → reading_outcome r ≡ reading_outcome s → r ≡ s)
outcome_one_to_one = (one_to_one writings, one_to_one readings)

-- Reading a number at a place gives n and the place after it exactly if n stands there in decimal, up to that place.
pub number_exactly : (text : List ℕ) (bound : ℕ) (zero : Bool) (at n after : ℕ)
    → number_at text bound zero at ≡ stands n after ↔ NumberStands text bound zero at n after
number_exactly = numbers.number_exactly

-- The same of an element, which is 0 or a literal of V.
pub element_exactly : (text : List ℕ) (v at after : ℕ) (e : Bool × ℕ)
    → element_at text v at ≡ stands e after ↔ ((l : ℤ) × (e ≡ sign_and_number l) × ElementStands text v at l after)
element_exactly = elements.element_exactly

-- The same of the header, after comment lines.
pub header_exactly : (text : List ℕ) (at : ℕ) (h : Header) (after : ℕ) → header_at text at ≡ stands h after ↔ HeaderStands text at h after
header_exactly = headers.header_exactly
