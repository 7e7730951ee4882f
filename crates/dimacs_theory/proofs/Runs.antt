-- The reader runs through every accepted text, and reads the list that it is the text of. Assumes nothing.
use Prim.Native.Nat.{ℕ, zero, suc, ◌+◌, ◌*◌, ◌-◌, ◌≤◌, ◌<◌, ◌^◌}
use native.Mathlib.Omega.{arith}
use borrow.Author.Tests.{lt-ltb, eq-eqb, ne_eqb, not-false}
use lib.Dec.{eqb}
use lib.IntN.{ℤ, pos, negsuc, nat_abs}
use lib.ListN.{length, drop}
use mathlib.Core.Path.{◌≡◌, refl, sym, ◌∙◌, ap, subst}
use mathlib.Core.Bool.{Bool, true, false, not}
use Rattle.std.specs.Prelude.{Option, None, Some}
use Rattle.std.proofs.lemmas.Option.{same_Some, none-some}
use mathlib.Core.List.{List, [], ◌∷◌, ◌++◌, append_assoc}
use Rattle.answers.specs.Lists.{tally, All}
use Rattle.answers.proofs.Bools.{clash}
use Rattle.cnf.specs.Literals.{closes, most_variables, unclosed}
use Rattle.cnf.specs.Clauses.{clause_count}
use Rattle.text.specs.Decimal.{line_feed, digit, decimal}
use Rattle.dimacs.specs.Text.{signed, preamble, header_line, CommentByte, comment_line, comment_lines}
use Rattle.dimacs.specs.Accepted.{is_blank, Piece, blank, number, comment as comment_piece, piece_numbers, bytes_of, numbers_of, last_byte, WellFormed, Accepted}
use Rattle.dimacs.specs.Automaton.{next, end_from, refused_from}
use Rattle.dimacs.specs.Reader.{Header, header_with, Number, State, of_variables, of_clauses, element, line, comment, first, digits, clause, most, zero_allowed}
use Rattle.dimacs.specs.Reader.{first_digit, after_word, step_byte, accepts, read_element, ended, ended_last, list_from, header_in}
use Rattle.dimacs_theory.specs.Tokens.{sign_and_number}
use Rattle.dimacs_theory.proofs.Decimals.{digit_by_digit}
use Rattle.dimacs_theory.proofs.Numbers.{is_digit_lem, first_test, next_test}
use Rattle.dimacs_theory.proofs.Closings.{Closing, done, more, closing_counts, closing_end, closing}
use Rattle.dimacs_theory.proofs.Pieces.{each_more, numbers_same, last_piece, last_blank, blank_no_digit, formed_at}
use Rattle.dimacs_theory.proofs.Pieces.{not_numbers, not_comment, unclosed_more}

-- a run from a state through a text to a state, and the elements that it reads
pub data Runs : State → List ℕ → State → List ℤ → Type 0 where
  stay : {s : State} → Runs s [] s []
  byte : {s t u : State} {b : ℕ} {bs : List ℕ} {es ls : List ℤ} → step_byte s b ≡ Some t → ended s b ≡ es → Runs t bs u ls → Runs s (b ∷ bs) u (es ++ ls)

-- a byte that ends no element
pub on : {s t u : State} {b : ℕ} {bs : List ℕ} {ls : List ℤ} → step_byte s b ≡ Some t → ended s b ≡ [] → Runs t bs u ls → Runs s (b ∷ bs) u ls
on e f r = byte e f r

-- it is what the reader does
pub ends : {s u : State} {text : List ℕ} {ls : List ℤ} → Runs s text u ls → end_from step_byte s text ≡ Some u
unfolding end_from
ends stay = refl
ends (byte e f r) = rw e (ends r)

pub reads : {s u : State} {text : List ℕ} {ls : List ℤ} → Runs s text u ls → list_from s text ≡ ls ++ ended_last u
unfolding list_from
reads stay = refl
reads {u = u} (byte {es = es} {ls = ls} e f r) = rw (e, f, reads r) (sym (append_assoc es ls (ended_last u)))

pub ran : (s : State) (text : List ℕ) {u : State} → end_from step_byte s text ≡ Some u → (ls : List ℤ) × Runs s text u ls
unfolding end_from
ran s [] {u} e = ([], subst (λ t. Runs s [] t []) (same_Some s u e) stay)
ran s (b ∷ bs) {u} e = by (step_byte s b) refl e (λ t. ran t bs)
  where
    by : (o : Option State) → step_byte s b ≡ o → next o None (λ t. end_from step_byte t bs) ≡ Some u
        → ((t : State) → end_from step_byte t bs ≡ Some u → (ls : List ℤ) × Runs t bs u ls) → (ls : List ℤ) × Runs s (b ∷ bs) u ls
    by None q e go = absurd (none-some u e)
    by (Some t) q e go = let r = go t e in (_, byte q refl r.1)

-- a text is refused where it is refused after a run
pub run-refused : {s t : State} {text : List ℕ} {ls : List ℤ} → Runs s text t ls → (rest : List ℕ) (at : ℕ)
    → refused_from step_byte accepts s (text ++ rest) at ≡ refused_from step_byte accepts t rest (at + length text)
unfolding refused_from
run-refused {t = t} stay rest at = ap (λ n. refused_from step_byte accepts t rest n) (omega arith)
run-refused {t = t} (byte {bs = bs} e f r) rest at = rw e (run-refused r rest (suc at) ∙ ap (λ n. refused_from step_byte accepts t rest n) (omega arith))

-- the numbers that may stand at a place
pub record Fits (n : Number) (x : ℕ) : Type 0 where
  pub few : x ≤ most n
  pub nonzero : zero_allowed n ≡ false → x ≡ 0 → ⊥

pub fits : {n : Number} {x : ℕ} → zero_allowed n ≡ true → x ≤ most n → Fits n x
fits z h = record { few = h; nonzero = λ e. clash z e }

pub first_step : {n : Number} {d : ℕ} → d < 10 → Fits n d → first_digit n (digit d) ≡ Some (digits n d)
first_step {n} {d} h f = let e : 48 + d - 48 ≡ d = omega arith in rw (first_test d (most n) (zero_allowed n) h f.few f.nonzero, e)

next-step : {n : Number} {x d : ℕ} → (x ≡ 0 → ⊥) → d < 10 → Fits n (x * 10 + d) → step_byte (digits n x) (digit d) ≡ Some (digits n (x * 10 + d))
next-step {n} {x} {d} z h f = let e : 48 + d - 48 ≡ d = omega arith in rw (is_digit_lem d h, e, next_test x d (most n) z f.few)

-- a number, from a state whose next byte is its first digit
module _ {s u : State} {n : Number} {ls : List ℤ}
    (start : (d : ℕ) → d < 10 → Fits n d → (step_byte s (digit d) ≡ Some (digits n d)) × (ended s (digit d) ≡ [])) where
  pub number-run : (x : ℕ) → Fits n x → (rest : List ℕ) → Runs (digits n x) rest u ls → Runs s (decimal x ++ rest) u ls
  number-run = digit_by_digit P one more
    where
      P : ℕ → List ℕ → Type 0
      P x ds = Fits n x → (rest : List ℕ) → Runs (digits n x) rest u ls → Runs s (ds ++ rest) u ls

      one : (d : ℕ) → d < 10 → P d (digit d ∷ [])
      one d h f rest r = let e = start d h f in on e.0 e.1 r

      more : (x d : ℕ) → (x ≡ 0 → ⊥) → d < 10 → P x (decimal x) → P (x * 10 + d) (decimal x ++ (digit d ∷ []))
      more x d z h go f rest r =
          let w = f.few in
          rw append_assoc (go (record { few = omega arith; nonzero = λ _. z }) (digit d ∷ rest) (on (next-step z h f) (rw (is_digit_lem d h)) r))

first_run : {u : State} {n : Number} {ls : List ℤ} {x : ℕ} → Fits n x → (rest : List ℕ) → Runs (digits n x) rest u ls → Runs (first n) (decimal x ++ rest) u ls
first_run {x = x} f rest r = number-run (λ d h g. (first_step h g, refl)) x f rest r

-- the element that a sign and a number are
number_element : (h : Header) (k : ℕ) (l : ℤ) → let e = sign_and_number l in read_element (element h k e.0) e.1 ≡ l ∷ []
number_element h k (pos n) = refl
number_element h k (negsuc n) = refl

number-closes : (l : ℤ) → eqb (sign_and_number l).1 0 ≡ closes l
number-closes (pos zero) = refl
number-closes (pos (suc n)) = ne_eqb (suc n) 0 (omega arith)
number-closes (negsuc n) = ne_eqb (suc n) 0 (omega arith)

-- in an element of the list
abbrev in_element : Header → ℕ → ℤ → State
in_element h k l = let e = sign_and_number l in digits (element h k e.0) e.1

-- an element, from a place that is not right after a number ..
module _ {h : Header} {k : ℕ} (begun at_line : Bool) (room : k ≡ h.clauses → ⊥) where
  plain : (d : ℕ) → d < 10 → Fits (element h k false) d
      → (step_byte (clause h k begun at_line) (digit d) ≡ Some (digits (element h k false) d)) × (◌≡◌ {A = List ℤ} [] [])
  plain d l f =
      let not_byte : (n : ℕ) → (48 + d ≡ n → ⊥) → eqb (48 + d) n ≡ false = λ n z. ne_eqb (48 + d) n z in (
        rw (
          not_byte 32 (omega arith),
          not_byte 9 (omega arith),
          not_byte 10 (omega arith),
          not_byte 99 (omega arith),
          ne_eqb k h.clauses room,
          not_byte 45 (omega arith),
        ) (first_step l f),
        refl,
      )

  element_run : {u : State} {ls : List ℤ} (l : ℤ) → nat_abs l ≤ h.variables → (rest : List ℕ) → Runs (in_element h k l) rest u ls
      → Runs (clause h k begun at_line) (signed l ++ rest) u ls
  element_run (pos n) w rest r = number-run plain n (fits refl w) rest r
  element_run (negsuc n) w rest r =
      let z : h.variables ≡ 0 → ⊥ = omega arith in
      on {t = first (element h k true)} (rw (ne_eqb k h.clauses room, ne_eqb h.variables 0 z)) refl
      (first_run {n = element h k true} {x = suc n} (record { few = w; nonzero = λ e. omega arith }) rest r)

-- .. and the blank behind it
blank_run : {h : Header} {k : ℕ} {u : State} {ls : List ℤ} (l : ℤ) (b : ℕ) → is_blank b ≡ true → (rest : List ℕ)
    → Runs (clause h (tally (closes l) k) (not (closes l)) (eqb b line_feed)) rest u ls → Runs (in_element h k l) (b ∷ rest) u (l ∷ ls)
blank_run {h} {k} l b t rest r = byte after read r
  where
    after : step_byte (in_element h k l) b ≡ Some (clause h (tally (closes l) k) (not (closes l)) (eqb b line_feed))
    after = rw (blank_no_digit b t, number-closes l, t)

    read : ended (in_element h k l) b ≡ l ∷ []
    read = rw (blank_no_digit b t) (number_element h k l)

-- comment lines
comment_run : {s u : State} {ls : List ℤ} (bs : List ℕ) → All CommentByte bs → (rest : List ℕ) → Runs s rest u ls
    → Runs (comment s) (bs ++ (line_feed ∷ []) ++ rest) u ls
comment_run [] a rest r = on refl refl r
comment_run (b ∷ bs) a rest r = on (rw (ne_eqb b line_feed a.0.1, lt-ltb b 256 a.0.0)) refl (comment_run bs a.1 rest r)

pub comments_run : {u : State} {ls : List ℤ} (cs : List (List ℕ)) → All (All CommentByte) cs → (rest : List ℕ) → Runs line rest u ls
    → Runs line (comment_lines cs ++ rest) u ls
comments_run [] a rest r = r
comments_run (bs ∷ cs) a rest r =
    rw (append_assoc (comment_line bs) (comment_lines cs) rest) (on refl refl (comment_run bs a.0 (comment_lines cs ++ rest) (comments_run cs a.1 rest r)))

-- a text that leads from a state to the end, with the header and the list that are read
pub record Finish (h : Header) (s : State) (text : List ℕ) (ls : List ℤ) : Type 0 where
  pub end : State
  pub elements : List ℤ
  pub run : Runs s text end elements
  pub accepted : accepts end ≡ true
  pub header : header_in end ≡ h
  pub list : elements ++ ended_last end ≡ ls

finish : {h : Header} {s t : State} {text rest : List ℕ} (es : List ℤ) {ls : List ℤ}
    → ((u : State) (ms : List ℤ) → Runs t rest u ms → Runs s text u (es ++ ms)) → Finish h t rest ls → Finish h s text (es ++ ls)
finish es f r =
    record {
      end = r.end;
      elements = es ++ r.elements;
      run = f r.end r.elements r.run;
      accepted = r.accepted;
      header = r.header;
      list = append_assoc es r.elements (ended_last r.end) ∙ ap (λ ms. es ++ ms) r.list;
    }

-- the pieces of a list, from one that does not stand right after a number
module _ {ps : List Piece} (formed : WellFormed ps) where
  pub pieces_run : {h : Header} (front rest : List Piece) → ps ≡ front ++ rest → (k : ℕ) {begun at_line : Bool}
      → unclosed (numbers_of front) ≡ begun → eqb (last_byte (bytes_of front)) line_feed ≡ at_line
      → Closing h.variables begun (numbers_of rest) → k + clause_count (numbers_of rest) ≡ h.clauses
      → Finish h (clause h k begun at_line) (bytes_of rest) (numbers_of rest)
  pieces_run {h} front [] e k o a done c =
      record { end = clause h k false _; elements = []; run = stay; accepted = eq-eqb k h.clauses (omega arith); header = refl; list = refl }
  pieces_run {h} front (blank b ∷ rest) e k {begun} {at_line} o a q c =
      let p = formed_at formed front rest (blank b) e in
      finish [] (λ u ms r. on (rw p.1) refl r)
      (pieces_run (front ++ (blank b ∷ [])) rest p.0 k (ap unclosed (numbers_same front (blank b) refl) ∙ o)
      (ap (λ n. eqb n line_feed) (last_blank front b)) q c)
  pieces_run {h} front (comment_piece bs ∷ rest) e k {begun} {at_line} o a q c =
      let p = formed_at formed front rest (comment_piece bs) e in
      let m = p.1 in
      let u : begun ≡ false = sym o ∙ m.closed in
      let v : at_line ≡ true = sym a ∙ eq-eqb (last_byte (bytes_of front)) line_feed m.at_line in
      finish [] (λ w ms r. on (rw (u, v)) refl (comment_run bs m.bytes (bytes_of rest) r))
      (pieces_run (front ++ (comment_piece bs ∷ [])) rest p.0 k (ap unclosed (numbers_same front (comment_piece bs) refl) ∙ o)
      (ap (λ n. eqb n line_feed) (last_piece front (comment_piece bs) (99 ∷ bs) line_feed refl)) q c)
  pieces_run {h} front (number l ∷ []) e k {begun} {at_line} o a (more w q) c =
      let z : closes l ≡ true = not-false (closes l) (closing_end q) in
      let m : k + 1 ≡ h.clauses = rw z at c in
      let n : suc k ≡ h.clauses = omega arith in
      record {
        end = in_element h k l;
        elements = [];
        run = element_run begun at_line (λ f. omega arith) l w [] stay;
        accepted = rw (number-closes l, z) (eq-eqb (suc k) h.clauses n);
        header = refl;
        list = number_element h k l;
      }
  pieces_run {h} front (number l ∷ blank b ∷ rest) e k {begun} {at_line} o a (more w q) c =
      let p = formed_at formed front (blank b ∷ rest) (number l) e in
      let r = formed_at formed (front ++ (number l ∷ [])) rest (blank b) p.0 in
      let before = front ++ (number l ∷ []) in
      finish (l ∷ []) (λ u ms t. element_run begun at_line (room (closes l) c (closing_counts q)) l w (b ∷ bytes_of rest) (blank_run l b r.1 (bytes_of rest) t))
      (pieces_run (before ++ (blank b ∷ [])) rest r.0 (tally (closes l) k)
      (ap unclosed (numbers_same before (blank b) refl ∙ each_more piece_numbers front (number l)) ∙ unclosed_more (numbers_of front) l)
      (ap (λ n. eqb n line_feed) (last_blank before b)) q (on_count (closes l) c))
    where
      room : (t : Bool) → k + tally t (clause_count (numbers_of rest)) ≡ h.clauses → tally (not t) 0 ≤ clause_count (numbers_of rest) → k ≡ h.clauses → ⊥
      room true e c = omega arith
      room false e c = omega arith

      on_count : (t : Bool) → k + tally t (clause_count (numbers_of rest)) ≡ h.clauses → tally t k + clause_count (numbers_of rest) ≡ h.clauses
      on_count true e = omega arith
      on_count false e = e
  pieces_run {h} front (number l ∷ number m ∷ rest) e k o a q c = absurd (not_numbers formed front rest l m e)
  pieces_run {h} front (number l ∷ comment_piece bs ∷ rest) e k o a q c = absurd (not_comment formed front rest l bs e)

-- `p cnf V C`
word-run : {u : State} {ls : List ℤ} (ws rest : List ℕ) → Runs (first of_variables) rest u ls → Runs (after_word ws) (ws ++ rest) u ls
word-run [] rest r = r
word-run (w ∷ ws) rest r = on (rw (eq-eqb w w refl)) refl (word-run ws rest r)

header_run : {u : State} {ls : List ℤ} (v c : ℕ) → v ≤ most_variables → c < 2 ^ 64 → (rest : List ℕ)
    → Runs (clause (header_with v c) 0 false true) rest u ls → Runs line (header_line v c ++ rest) u ls
header_run v c few counted rest r =
    on refl refl
    (word-run (drop 1 preamble) _
    (rw append_assoc
    (first_run {n = of_variables} (fits refl few) _
    (on refl refl (rw (append_assoc (decimal c) (line_feed ∷ []) rest)
    (first_run {n = of_clauses v} (fits refl (omega arith)) (line_feed ∷ rest) (on refl refl r)))))))

-- the reader runs through an accepted text
pub accepted_run : {text : List ℕ} (a : Accepted text) → let ls = numbers_of a.pieces in Finish (header_with a.variables (clause_count ls)) line text ls
accepted_run a =
    let w = a.has_text in
    let ls = numbers_of a.pieces in
    rw a.is
    (finish [] (λ u ms r. comments_run a.comments a.bytes _ (header_run a.variables (clause_count ls) w.few w.counted (bytes_of a.pieces) r))
    (pieces_run a.formed [] a.pieces refl 0 refl refl (closing a.variables ls w.right) (omega arith)))
