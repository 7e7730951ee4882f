-- Every byte keeps what was read; so a text that the reader runs through to the end is an accepted text. Assumes nothing.
use Prim.Native.Nat.{ℕ, suc, ◌*◌, ◌+◌, ◌-◌, ◌≤◌, ◌<◌}
use native.Mathlib.Omega.{arith}
use borrow.Author.Tests.{eqb-true, eqb-false, ltb-true, not-true}
use lib.Dec.{eqb, ltb}
use lib.IntN.{ℤ}
use mathlib.Core.Path.{◌≡◌, refl, sym, ◌∙◌, ap, subst}
use mathlib.Core.Bool.{Bool, true, false, not, ◌&&◌, cond}
use Rattle.std.specs.Prelude.{None, Some}
use Rattle.std.proofs.lemmas.Option.{same_Some, none-some}
use mathlib.Core.List.{List, [], ◌∷◌, ◌++◌, append_assoc, append-nil}
use Rattle.answers.specs.Lists.{tally, All}
use Rattle.answers.proofs.Bools.{clash, and_both}
use Rattle.cnf.specs.Clauses.{clause_count}
use Rattle.text.specs.Decimal.{line_feed, space, minus, decimal}
use Rattle.dimacs.specs.Text.{signed, preamble, header_line, CommentByte, comment_line, comment_lines}
use Rattle.dimacs.specs.Accepted.{is_blank, bytes_of, numbers_of, Accepted}
use Rattle.dimacs.specs.Reader.{Header, header_with, Number, State, of_clauses, element, line, comment, first, digits, clause, when, most, zero_allowed, is_digit}
use Rattle.dimacs.specs.Reader.{is_first, is_next, first_digit, next_digit, after_word, word_step, after_number, starts_comment, element_step, clause_step}
use Rattle.dimacs.specs.Reader.{step_byte, closes_last, accepts, read_element, literal_of, ended}
use Rattle.dimacs_theory.proofs.Numbers.{first_spells, next_spells}
use Rattle.dimacs_theory.proofs.Closings.{done, closing_right}
use Rattle.dimacs_theory.proofs.Pieces.{formed_none}
use Rattle.dimacs_theory.proofs.Runs.{Fits, Runs, stay, byte}
use Rattle.dimacs_theory.proofs.Shapes.{Opened, Part, ListPart, part_number, part_blank, part_comment, sign, Head, variables, clauses, literal, spelt}
use Rattle.dimacs_theory.proofs.Shapes.{Shape, nothing, in_comment, letters, before, inside, list, in_list_comment, Before}

-- a byte that is taken where a test holds
taken : (P : State → Type 0) (c : Bool) (s : State) {t : State} → when c s ≡ Some t → (c ≡ true → P s) → P t
taken P true s {t} e f = subst P (same_Some s t e) (f refl)
taken P false s {t} e f = absurd (none-some t e)

header_joined : (p v c : List ℕ) → p ++ (v ++ (space ∷ [])) ++ c ++ (line_feed ∷ []) ≡ p ++ (v ++ (space ∷ c ++ (line_feed ∷ []))) ++ []
header_joined p v c = simp (append_assoc, append-nil)

-- the `c` of a comment line
comment_kept : (b : ℕ) {h : Header} {k : ℕ} (begun at_line : Bool) {part : List ℕ} {ls : List ℤ} → ListPart h k begun at_line part ls
    → starts_comment begun at_line b ≡ true → Shape (comment (clause h k begun true)) (part ++ (b ∷ [])) ls
comment_kept b true at_line p c = clash (and_both (eqb b 99 && at_line) false c).1 refl
comment_kept b false false p c = clash (and_both (eqb b 99) false (and_both (eqb b 99 && false) true c).0).1 refl
comment_kept b false true p c = rw (eqb-true b 99 (and_both (eqb b 99) true (and_both (eqb b 99 && true) true c).0).0) (in_list_comment p [] tt)

-- a byte more, where it is no end of a comment line
module _ (b : ℕ) {t : State} where
  -- the bytes of `p cnf `
  word_kept : (ws part : List ℕ) → part ++ ws ≡ preamble → word_step ws b ≡ Some t → Shape t (part ++ (b ∷ [])) []
  word_kept [] part p e = absurd (none-some t e)
  word_kept (w ∷ ws) part p e =
      taken (λ t. Shape t (part ++ (b ∷ [])) []) (eqb b w) (after_word ws) e
      (λ c. on ws (append_assoc part (b ∷ []) ws ∙ ap (λ x. part ++ x ∷ ws) (eqb-true b w c) ∙ p))
    where
      on : (ws : List ℕ) → part ++ (b ∷ []) ++ ws ≡ preamble → Shape (after_word ws) (part ++ (b ∷ [])) []
      on [] q = before (variables (sym (append-nil _) ∙ q))
      on (v ∷ vs) q = letters q

  -- the first byte of a line
  line_kept : step_byte line b ≡ Some t → Shape t (b ∷ []) []
  line_kept e = by (eqb b 99) refl e
    where
      by : (c : Bool) → eqb b 99 ≡ c → cond c (Some (comment line)) (word_step preamble b) ≡ Some t → Shape t (b ∷ []) []
      by true q e = subst (λ t. Shape t (b ∷ []) []) (same_Some (comment line) t e) (rw (eqb-true b 99 q) (in_comment tt))
      by false q e = word_kept preamble [] refl e

  -- a number's first digit
  first_kept : {n : Number} {part : List ℕ} {ls : List ℤ} → Head n part ls → first_digit n b ≡ Some t → Shape t (part ++ (b ∷ [])) ls
  first_kept {n} {part} {ls} p e =
      taken (λ t. Shape t (part ++ (b ∷ [])) ls) (is_first b (most n) (zero_allowed n)) (digits n (b - 48)) e
      (λ c.
      let s = first_spells b (most n) (zero_allowed n) c in
      subst (λ ds. Shape (digits n (b - 48)) (part ++ ds) ls) (sym s.spelt) (inside p (record { few = s.few; nonzero = s.allowed })))

  -- a digit more
  next_kept : {n : Number} (x : ℕ) {part : List ℕ} {ls : List ℤ} → Head n part ls → is_digit b ≡ true → next_digit n x b ≡ Some t
      → Shape t (part ++ decimal x ++ (b ∷ [])) ls
  next_kept {n} x {part} {ls} p i e =
      taken (λ t. Shape t (part ++ decimal x ++ (b ∷ [])) ls) (is_next x (b - 48) (most n)) (digits n (x * 10 + (b - 48))) e
      (λ c.
      let s = next_spells b (most n) x (zero_allowed n) i c in
      subst (λ ds. Shape (digits n (x * 10 + (b - 48))) ds ls) (sym (append_assoc part (decimal x) (b ∷ []) ∙ ap (λ ds. part ++ ds) s.spelt))
      (inside p (record { few = s.few; nonzero = s.allowed })))

  -- the byte behind a number
  after_kept : {n : Number} {x : ℕ} {part : List ℕ} {ls : List ℤ} → Head n part ls → Fits n x → after_number n x b ≡ Some t
      → Shape t (part ++ decimal x ++ (b ∷ [])) (ls ++ read_element n x)
  after_kept {x = x} {part = part} (variables p) f e =
      taken (λ t. Shape t (part ++ decimal x ++ (b ∷ [])) []) (eqb b space) (first (of_clauses x)) e
      (λ c. before (clauses f.few (append_assoc part (decimal x) (b ∷ []) ∙ (λ i. p i ++ (decimal x ++ (eqb-true b space c i ∷ []))))))
  after_kept {x = x} {part = part} (clauses {v = v} few p) f e =
      taken (λ t. Shape t (part ++ decimal x ++ (b ∷ [])) []) (eqb b line_feed) (clause (header_with v x) 0 false true) e
      (λ c. list (record {
        whole = record {
          few = few;
          counted = let w = f.few in omega arith;
          pieces = [];
          formed = formed_none;
          is = rw (p, eqb-true b line_feed c) (header_joined preamble (decimal v) (decimal x));
          list = refl;
          count = refl;
          last = refl;
          right = λ ms d. d;
          room = omega arith;
        };
        blank = refl;
        begins = refl;
      }))
  after_kept {x = x} {ls = ls} (literal {h = h} {k = k} {negative = negative} {part = part} p room z) f e =
      let l = literal_of negative x in
      let s = spelt negative x f.nonzero in
      let w = s.size in
      let u = f.few in
      let text : part ++ sign negative ++ decimal x ++ (b ∷ []) ≡ part ++ signed l ++ (b ∷ []) = rw s.text (simp append_assoc) in
      taken (λ t. Shape t (part ++ sign negative ++ decimal x ++ (b ∷ [])) (ls ++ (l ∷ []))) (is_blank b) (clause h _ _ _) e
      (λ c. rw (← s.zero, text) (list (part_blank (part_number l p room (omega arith)) b c)))

  -- the first byte of an element
  element_kept : {h : Header} {k : ℕ} {begun at_line : Bool} {part : List ℕ} {ls : List ℤ} → ListPart h k begun at_line part ls → element_step h k b ≡ Some t
      → Shape t (part ++ (b ∷ [])) ls
  element_kept {h} {k} {begun} {part = part} {ls = ls} p e = by (eqb k h.clauses) refl (eqb b minus) refl e
    where
      room : (begun : Bool) → tally begun k ≤ h.clauses → (k ≡ h.clauses → ⊥) → k < h.clauses
      room true l z = l
      room false l z = omega arith

      by : (full : Bool) → eqb k h.clauses ≡ full → (dash : Bool) → eqb b minus ≡ dash
          → cond full None (cond dash (when (not (eqb h.variables 0)) (first (element h k true))) (first_digit (element h k false) b)) ≡ Some t
          → Shape t (part ++ (b ∷ [])) ls
      by true q dash r e = absurd (none-some t e)
      by false q true r e =
          taken (λ t. Shape t (part ++ (b ∷ [])) ls) (not (eqb h.variables 0)) (first (element h k true)) e
          (λ c. rw (eqb-true b minus r) (before (literal p (room begun p.whole.room (eqb-false k h.clauses q))
          (λ _. eqb-false h.variables 0 (not-true (eqb h.variables 0) c)))))
      by false q false r e =
          rw (append-nil part) at (first_kept (literal p (room begun p.whole.room (eqb-false k h.clauses q)) (λ d. clash d refl)) e)

  -- a byte that does not stand right after a number
  clause_kept : {h : Header} {k : ℕ} {begun at_line : Bool} {part : List ℕ} {ls : List ℤ} → ListPart h k begun at_line part ls
      → clause_step h k begun at_line b ≡ Some t → Shape t (part ++ (b ∷ [])) ls
  clause_kept {h} {k} {begun} {at_line} {part} {ls} p e = by (is_blank b) refl (starts_comment begun at_line b) refl e
    where
      by : (p : Bool) → is_blank b ≡ p → (starts : Bool) → starts_comment begun at_line b ≡ starts
          → cond p (Some (clause h k begun (eqb b line_feed))) (cond starts (Some (comment (clause h k begun true))) (element_step h k b)) ≡ Some t
          → Shape t (part ++ (b ∷ [])) ls
      by true q starts r e = subst (λ t. Shape t (part ++ (b ∷ [])) ls) (same_Some _ t e) (list (part_blank p.whole b q))
      by false q true r e = subst (λ t. Shape t (part ++ (b ∷ [])) ls) (same_Some _ t e) (comment_kept b begun at_line p r)
      by false q false r e = element_kept p e

-- a comment line more
comments_more : (cs : List (List ℕ)) (bs : List ℕ) → comment_lines (cs ++ (bs ∷ [])) ≡ comment_lines cs ++ comment_line bs
comments_more [] bs = append-nil (comment_line bs)
comments_more (c ∷ cs) bs = rw (comments_more cs bs) (sym (append_assoc (comment_line c) (comment_lines cs) (comment_line bs)))

all_more : {A : Type 0} (P : A → Type 0) (xs : List A) {x : A} → All P xs → P x → All P (xs ++ (x ∷ []))
all_more P [] a p = (p, tt)
all_more P (y ∷ xs) a p = (a.0, all_more P xs a.1 p)

-- a byte more
module _ {text : List ℕ} (b : ℕ) {t : State} where
  with_byte : {part : List ℕ} {ls : List ℤ} → Opened text part → Shape t (part ++ (b ∷ [])) ls → Before t (text ++ (b ∷ [])) ls
  with_byte {part} o p =
      record {
        part = part ++ (b ∷ []);
        opened = record { comments = o.comments; bytes = o.bytes; is = rw o.is (append_assoc (comment_lines o.comments) part (b ∷ [])) };
        shape = p;
      }

  shape_kept : {s : State} {part : List ℕ} {ls : List ℤ} → Opened text part → Shape s part ls → step_byte s b ≡ Some t
      → Before t (text ++ (b ∷ [])) (ls ++ ended s b)
  shape_kept o nothing e = with_byte o (line_kept b e)
  shape_kept o (in_comment {bs = bs} a) e = by (eqb b line_feed) refl e
    where
      closed : b ≡ line_feed → Opened (text ++ (b ∷ [])) []
      closed q =
          record {
            comments = o.comments ++ (bs ∷ []);
            bytes = all_more (All CommentByte) o.comments o.bytes a;
            is = rw (o.is, q, append-nil, comments_more) (append_assoc (comment_lines o.comments) (99 ∷ bs) (line_feed ∷ []));
          }

      by : (c : Bool) → eqb b line_feed ≡ c → cond c (Some line) (when (ltb b 256) (comment line)) ≡ Some t → Before t (text ++ (b ∷ [])) []
      by true q e =
          subst (λ t. Before t (text ++ (b ∷ [])) []) (same_Some line t e)
          (record { part = []; opened = closed (eqb-true b line_feed q); shape = nothing })
      by false q e =
          with_byte o (taken (λ t. Shape t (99 ∷ bs ++ (b ∷ [])) []) (ltb b 256) (comment line) e
          (λ c. in_comment (all_more CommentByte bs a (ltb-true b 256 c, eqb-false b line_feed q))))
  shape_kept o (letters {w = w} {ws = ws} {part = part} p) e = with_byte o (word_kept b (w ∷ ws) part p e)
  shape_kept o (before {ls = ls} p) e = rw (append-nil ls) (with_byte o (first_kept b p e))
  shape_kept o (inside {n = n} {x = x} {part = part} {ls = ls} p f) e = by (is_digit b) refl e
    where
      by : (d : Bool) → is_digit b ≡ d → cond d (next_digit n x b) (after_number n x b) ≡ Some t → Before t (text ++ (b ∷ [])) (ls ++ cond d [] (read_element n x))
      by true q e = rw (append-nil ls) (with_byte o (next_kept b x p q e))
      by false q e = with_byte o (after_kept b p f e)
  shape_kept o (list {ls = ls} p) e = rw (append-nil ls) (with_byte o (clause_kept b p e))
  shape_kept o (in_list_comment {h = h} {k = k} {part = part} {ls = ls} p bs a) e = rw (append-nil ls) (with_byte o (by (eqb b line_feed) refl e))
    where
      by : (c : Bool) → eqb b line_feed ≡ c → cond c (Some (clause h k false true)) (when (ltb b 256) (comment (clause h k false true))) ≡ Some t
          → Shape t (part ++ (99 ∷ bs) ++ (b ∷ [])) ls
      by true q e =
          subst (λ t. Shape t (part ++ (99 ∷ bs) ++ (b ∷ [])) ls) (same_Some (clause h k false true) t e)
          (rw (eqb-true b line_feed q, append_assoc part (99 ∷ bs) (line_feed ∷ [])) (list (part_comment p bs a)))
      by false q e =
          taken (λ t. Shape t (part ++ (99 ∷ bs) ++ (b ∷ [])) ls) (ltb b 256) (comment (clause h k false true)) e
          (λ c. rw (append_assoc part (99 ∷ bs) (b ∷ []))
          (in_list_comment p (bs ++ (b ∷ [])) (all_more CommentByte bs a (ltb-true b 256 c, eqb-false b line_feed q))))

pub kept : {s t : State} {text : List ℕ} {ls : List ℤ} (b : ℕ) → Before s text ls → step_byte s b ≡ Some t → Before t (text ++ (b ∷ [])) (ls ++ ended s b)
kept b r e = shape_kept b r.opened r.shape e

pub start : Before line [] []
start = record { part = []; opened = record { comments = []; bytes = tt; is = refl }; shape = nothing }

read : {s t : State} {text rest : List ℕ} {ls ms : List ℤ} → Before s text ls → Runs s rest t ms → Before t (text ++ rest) (ls ++ ms)
read {text = text} {ls = ls} r stay = rw (append-nil text, append-nil ls) r
read {text = text} {ls = ls} r (byte {b = b} {bs = bs} {es = es} {ls = ms} e f q) =
    rw (← append_assoc text (b ∷ []) bs, ← append_assoc ls es ms) (read (rw f at (kept b r e)) q)

-- C clauses and none begun: an accepted text
complete : {h : Header} {k : ℕ} {text part : List ℕ} {ls : List ℤ} → Opened text part → Part h k false part ls → k ≡ h.clauses → Accepted text
complete {h} {k} {ls = ls} o p e =
    let n = p.count in
    let c = p.counted in
    let count : h.clauses ≡ clause_count (numbers_of p.pieces) = sym (ap clause_count p.list ∙ n ∙ e) in
    record {
      comments = o.comments;
      bytes = o.bytes;
      variables = h.variables;
      pieces = p.pieces;
      formed = p.formed;
      has_text = rw p.list (record {
        few = p.few;
        right = closing_right h.variables ls (rw append-nil at (p.right [] done));
        counted = omega arith;
      });
      is = o.is ∙ ap (λ bs. comment_lines o.comments ++ bs) (p.is ∙ ap (λ m. header_line h.variables m ++ bytes_of p.pieces) count);
    }

-- the 0 that closes the C-th clause, at the text's end
closed_last : {n : Number} {x : ℕ} {text part : List ℕ} {ls : List ℤ} → Head n part ls → Fits n x → Opened text (part ++ decimal x) → closes_last n x ≡ true
    → Accepted text
closed_last (variables p) f o e = clash e refl
closed_last (clauses few p) f o e = clash e refl
closed_last {x = x} {text = text} (literal {h = h} {k = k} {negative = negative} {part = part} p room z) f o e =
    let l = literal_of negative x in
    let s = spelt negative x f.nonzero in
    let w = s.size in
    let u = f.few in
    let both = and_both (eqb x 0) (eqb (suc k) h.clauses) e in
    let same : part ++ sign negative ++ decimal x ≡ part ++ signed l = rw s.text (append_assoc part (sign negative) (decimal x)) in
    complete (subst (Opened text) same o) (rw (s.zero ∙ both.0) at (part_number l p room (omega arith))) (eqb-true (suc k) h.clauses both.1)

-- a text that the reader runs through to the end is accepted
finished : {s : State} {text part : List ℕ} {ls : List ℤ} → Opened text part → Shape s part ls → accepts s ≡ true → Accepted text
finished o nothing e = clash e refl
finished o (in_comment a) e = clash e refl
finished o (letters p) e = clash e refl
finished o (before p) e = clash e refl
finished o (inside p f) e = closed_last p f o e
finished o (list {begun = true} p) e = clash e refl
finished o (list {h = h} {k = k} {begun = false} p) e = complete o p.whole (eqb-true k h.clauses e)
finished o (in_list_comment p bs a) e = clash e refl

pub run_accepted : {t : State} {text : List ℕ} {ls : List ℤ} → Runs line text t ls → accepts t ≡ true → Accepted text
run_accepted r e = let b = read start r in finished b.opened b.shape e
