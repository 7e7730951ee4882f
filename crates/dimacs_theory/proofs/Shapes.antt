-- What was read when the reader is in a state, and how an element adds to it. Assumes nothing.
use Prim.Native.Nat.{ℕ, zero, suc, ◌≤◌, ◌<◌, ◌^◌}
use native.Mathlib.Omega.{arith}
use borrow.Author.Tests.{ne_eqb, eqb-true}
use lib.Dec.{eqb}
use lib.IntN.{ℤ, nat_abs}
use mathlib.Core.Path.{◌≡◌, refl, sym, ◌∙◌, ap}
use mathlib.Core.Bool.{Bool, true, false, not}
use mathlib.Core.List.{List, [], ◌∷◌, ◌++◌, append_assoc}
use Rattle.answers.specs.Lists.{tally, All}
use Rattle.cnf.specs.Literals.{closes, most_variables, unclosed}
use Rattle.cnf.specs.Clauses.{clause_count}
use Rattle.text.specs.Decimal.{line_feed, space, minus, decimal}
use Rattle.dimacs.specs.Text.{signed, preamble, header_line, CommentByte, comment_line, comment_lines}
use Rattle.dimacs.specs.Accepted.{is_blank, Piece, blank, number, comment as comment_piece, piece_bytes, piece_numbers, bytes_of, numbers_of, last_byte}
use Rattle.dimacs.specs.Accepted.{MayStand, WellFormed}
use Rattle.dimacs.specs.Reader.{Header, Number, State, of_variables, of_clauses, element, line, comment, word, first, digits, clause, literal_of}
use Rattle.dimacs_theory.proofs.Closings.{Closing, more}
use Rattle.dimacs_theory.proofs.Pieces.{each_more, numbers_same, formed_more, last_piece, may_number, unclosed_more}
use Rattle.dimacs_theory.proofs.Runs.{Fits}

-- comment lines, and then this part
pub record Opened (text part : List ℕ) : Type 0 where
  pub comments : List (List ℕ)
  pub bytes : All (All CommentByte) comments
  pub is : text ≡ comment_lines comments ++ part

-- the header and pieces with the elements ls: k clauses are closed, and perhaps one is begun
pub record Part (h : Header) (k : ℕ) (begun : Bool) (part : List ℕ) (ls : List ℤ) : Type 0 where
  pub few : h.variables ≤ most_variables
  pub counted : h.clauses < 2 ^ 64
  pub pieces : List Piece
  pub formed : WellFormed pieces
  pub is : part ≡ header_line h.variables h.clauses ++ bytes_of pieces
  pub list : numbers_of pieces ≡ ls
  pub count : clause_count ls ≡ k
  pub last : unclosed ls ≡ begun
  pub right : (ms : List ℤ) → Closing h.variables begun ms → Closing h.variables false (ls ++ ms)
  pub room : tally begun k ≤ h.clauses

-- .. up to a place that is not right after a number
pub record ListPart (h : Header) (k : ℕ) (begun at_line : Bool) (part : List ℕ) (ls : List ℤ) : Type 0 where
  pub whole : Part h k begun part ls
  pub blank : is_blank (last_byte (bytes_of whole.pieces)) ≡ true
  pub begins : eqb (last_byte (bytes_of whole.pieces)) line_feed ≡ at_line

abbrev pub sign : Bool → List ℕ
sign true = minus ∷ []
sign false = []

-- what stands before a number
pub data Head : Number → List ℕ → List ℤ → Type 0 where
  variables : {part : List ℕ} → part ≡ preamble → Head of_variables part []
  clauses : {v : ℕ} {part : List ℕ} → v ≤ most_variables → part ≡ preamble ++ (decimal v ++ (space ∷ [])) → Head (of_clauses v) part []
  literal : {h : Header} {k : ℕ} {begun at_line negative : Bool} {part : List ℕ} {ls : List ℤ} → ListPart h k begun at_line part ls → k < h.clauses
      → (negative ≡ true → h.variables ≡ 0 → ⊥) → Head (element h k negative) (part ++ sign negative) ls

-- what was read in a state
pub data Shape : State → List ℕ → List ℤ → Type 0 where
  nothing : Shape line [] []
  in_comment : {bs : List ℕ} → All CommentByte bs → Shape (comment line) (99 ∷ bs) []
  letters : {w : ℕ} {ws part : List ℕ} → part ++ w ∷ ws ≡ preamble → Shape (word (w ∷ ws)) part []
  before : {n : Number} {part : List ℕ} {ls : List ℤ} → Head n part ls → Shape (first n) part ls
  inside : {n : Number} {x : ℕ} {part : List ℕ} {ls : List ℤ} → Head n part ls → Fits n x → Shape (digits n x) (part ++ decimal x) ls
  list : {h : Header} {k : ℕ} {begun at_line : Bool} {part : List ℕ} {ls : List ℤ} → ListPart h k begun at_line part ls → Shape (clause h k begun at_line) part ls
  in_list_comment : {h : Header} {k : ℕ} {part : List ℕ} {ls : List ℤ} → ListPart h k false true part ls → (bs : List ℕ) → All CommentByte bs
      → Shape (comment (clause h k false true)) (part ++ (99 ∷ bs)) ls

pub record Before (s : State) (text : List ℕ) (ls : List ℤ) : Type 0 where
  pub part : List ℕ
  pub opened : Opened text part
  pub shape : Shape s part ls

-- one element more
count_more : (ls : List ℤ) (l : ℤ) → clause_count (ls ++ (l ∷ [])) ≡ tally (closes l) (clause_count ls)
count_more [] l = refl
count_more (m ∷ ls) l = ap (tally (closes m)) (count_more ls l) ∙ swap (closes m) (closes l) (clause_count ls)
  where
    swap : (s t : Bool) (n : ℕ) → tally s (tally t n) ≡ tally t (tally s n)
    swap true true n = refl
    swap true false n = refl
    swap false true n = refl
    swap false false n = refl

bytes_more : (h : Header) {part : List ℕ} (ps : List Piece) (p : Piece) → let front = header_line h.variables h.clauses in part ≡ front ++ bytes_of ps
    → part ++ piece_bytes p ≡ front ++ bytes_of (ps ++ (p ∷ []))
bytes_more h ps p e = rw (e, each_more piece_bytes ps p) (append_assoc (header_line h.variables h.clauses) (bytes_of ps) (piece_bytes p))

pub part_number : {h : Header} {k : ℕ} {begun at_line : Bool} {part : List ℕ} {ls : List ℤ} (l : ℤ) → ListPart h k begun at_line part ls → k < h.clauses
    → nat_abs l ≤ h.variables → Part h (tally (closes l) k) (not (closes l)) (part ++ signed l) (ls ++ (l ∷ []))
part_number {h} {k} {ls = ls} l g room w =
    let p = g.whole in
    record {
      few = p.few;
      counted = p.counted;
      pieces = p.pieces ++ (number l ∷ []);
      formed = formed_more (number l) p.formed (may_number g.blank);
      is = bytes_more h p.pieces (number l) p.is;
      list = each_more piece_numbers p.pieces (number l) ∙ ap (λ ms. ms ++ (l ∷ [])) p.list;
      count = count_more ls l ∙ ap (tally (closes l)) p.count;
      last = unclosed_more ls l;
      right = λ ms c. rw append_assoc (p.right (l ∷ ms) (more w c));
      room = by (closes l);
    }
  where
    by : (t : Bool) → tally (not t) (tally t k) ≤ h.clauses
    by true = room
    by false = room

-- one piece more that is no number, and the byte that it ends in
part_more : {h : Header} {k : ℕ} {begun : Bool} {part : List ℕ} {ls : List ℤ} (p : Part h k begun part ls) (q : Piece) → piece_numbers q ≡ []
    → MayStand p.pieces q → (front : List ℕ) (b : ℕ) → piece_bytes q ≡ front ++ (b ∷ []) → is_blank b ≡ true
    → ListPart h k begun (eqb b line_feed) (part ++ piece_bytes q) ls
part_more {h} p q none may front b e t =
    let end = last_piece p.pieces q front b e in
    record {
      whole = record {
        few = p.few;
        counted = p.counted;
        pieces = p.pieces ++ (q ∷ []);
        formed = formed_more q p.formed may;
        is = bytes_more h p.pieces q p.is;
        list = numbers_same p.pieces q none ∙ p.list;
        count = p.count;
        last = p.last;
        right = p.right;
        room = p.room;
      };
      blank = ap is_blank end ∙ t;
      begins = ap (λ n. eqb n line_feed) end;
    }

pub part_blank : {h : Header} {k : ℕ} {begun : Bool} {part : List ℕ} {ls : List ℤ} → Part h k begun part ls → (b : ℕ) → is_blank b ≡ true
    → ListPart h k begun (eqb b line_feed) (part ++ (b ∷ [])) ls
part_blank p b t = part_more p (blank b) refl t [] b refl t

pub part_comment : {h : Header} {k : ℕ} {part : List ℕ} {ls : List ℤ} → ListPart h k false true part ls → (bs : List ℕ) → All CommentByte bs
    → ListPart h k false true (part ++ comment_line bs) ls
part_comment g bs a =
    let p = g.whole in
    part_more p (comment_piece bs) refl
    (record { bytes = a; at_line = eqb-true _ line_feed g.begins; closed = ap unclosed p.list ∙ p.last }) (99 ∷ bs) line_feed refl refl

-- how an element is written
pub record Spelt (negative : Bool) (x : ℕ) : Type 0 where
  pub text : signed (literal_of negative x) ≡ sign negative ++ decimal x
  pub size : nat_abs (literal_of negative x) ≡ x
  pub zero : closes (literal_of negative x) ≡ eqb x 0

pub spelt : (negative : Bool) (x : ℕ) → (not negative ≡ false → x ≡ 0 → ⊥) → Spelt negative x
spelt true zero z = absurd (z refl refl)
spelt true (suc n) z = record { text = refl; size = refl; zero = sym (ne_eqb (suc n) 0 (omega arith)) }
spelt false zero z = record { text = refl; size = refl; zero = refl }
spelt false (suc n) z = record { text = refl; size = refl; zero = sym (ne_eqb (suc n) 0 (omega arith)) }
