-- The automaton agrees with the tokens: where one stands, it goes to the state after it; where none does, it refuses the same byte.
-- Assumes nothing.
use Prim.Native.Nat.{ℕ, suc, ◌+◌, ◌-◌, ◌*◌, ◌≤◌, ◌<◌, ◌^◌}
use native.Mathlib.Omega.{arith}
use native.Mathlib.Decide.{dec_lt}
use borrow.Author.Tests.{eqb-true, ne_eqb, lt-ltb, le-ltb, le-leb, leb-true}
use lib.Dec.{eqb, leb, ltb}
use lib.ListN.{length, get_or, drop}
use mathlib.Core.Path.{◌≡◌, refl, ◌∙◌, subst}
use mathlib.Core.Bool.{Bool, true, false, not, ◌&&◌, ◌||◌, cond}
use Rattle.std.specs.Prelude.{None}
use mathlib.Core.List.{List, [], ◌∷◌}
use Rattle.answers.specs.Lists.{tally}
use Rattle.answers.proofs.Bools.{clash, off, and_both}
use Rattle.cnf.specs.Literals.{most_variables}
use Rattle.text.specs.Decimal.{line_feed, space, minus}
use Rattle.dimacs.specs.Text.{preamble}
use Rattle.dimacs.specs.Accepted.{is_blank}
use Rattle.dimacs.specs.Reader.{Header, header_with, Number, State, of_variables, of_clauses, element, line, comment, first, digits, clause, when, most}
use Rattle.dimacs.specs.Reader.{zero_allowed, is_digit, is_first, is_next, first_digit, after_number, after_word, starts_comment, element_step, step_byte}
use Rattle.dimacs.specs.Reader.{closes_last, accepts, literal_of, read_element, ended, ended_last}
use Rattle.dimacs.specs.Tokens.{TokenAt, stands, refused, and_then, followed_by, digits_from, number_at, comments_from, word_at, field_at, header_counts_at, header_at}
use Rattle.dimacs.specs.Tokens.{unsigned_at, element_at, blank_or_end, element_and_blank_at, may_begin_number, line_begins, line_end_at, blank_or_comment_at}
use Rattle.dimacs.proofs.Tokens.{digits_step, digits_none, number_step, number_none, comments_step, comments_none, line_end_step, line_end_none, line_after}
use Rattle.dimacs.proofs.Tokens.{next_small}
use Rattle.dimacs_reader.specs.Lists.{closed_after}
use Rattle.dimacs_reader.proofs.Runs.{Run, Dead, run_stay, run_then, run_dead, run_step, dead_step, run_alike, dead_end, run_end, every_place}

-- where something stands, this holds of it and the place after it; else the automaton refuses
pub data Agrees {A : Type 0} (text : List ℕ) (s : State) (a : ℕ) (P : A → ℕ → Type 0) : TokenAt A → Type 0 where
  there : {x : A} {b : ℕ} → P x b → Agrees text s a P (stands x b)
  nowhere : {p : ℕ} → Dead text s a [] p → Agrees text s a P (refused p)

module _ {text : List ℕ} {s : State} {a : ℕ} where
  pub agrees_there : {A : Type 0} {P : A → ℕ → Type 0} {r : TokenAt A} {x : A} {b : ℕ} → Agrees text s a P r → r ≡ stands x b → P x b
  agrees_there {A = A} {P = P} d e = by (subst (Agrees text s a P) e d)
    where
      by : {x : A} {b : ℕ} → Agrees text s a P (stands x b) → P x b
      by (there d) = d

  pub agrees_nowhere : {A : Type 0} {P : A → ℕ → Type 0} {r : TokenAt A} {p : ℕ} → Agrees text s a P r → r ≡ refused p → Dead text s a [] p
  agrees_nowhere {A = A} {P = P} d e = by (subst (Agrees text s a P) e d)
    where
      by : {p : ℕ} → Agrees text s a P (refused p) → Dead text s a [] p
      by (nowhere d) = d

  agrees_then : {A B : Type 0} {P : A → ℕ → Type 0} {Q : B → ℕ → Type 0} {r : TokenAt A} (go : A → ℕ → TokenAt B) → Agrees text s a P r
      → ((x : A) (b : ℕ) → P x b → Agrees text s a Q (go x b)) → Agrees text s a Q (and_then r go)
  agrees_then go (there d) f = f _ _ d
  agrees_then go (nowhere d) f = nowhere d

  agrees_map : {A : Type 0} {P Q : A → ℕ → Type 0} {r : TokenAt A} → Agrees text s a P r → ((x : A) (b : ℕ) → P x b → Q x b) → Agrees text s a Q r
  agrees_map (there d) f = there (f _ _ d)
  agrees_map (nowhere d) f = nowhere d

  -- after a run
  agrees_after : {A : Type 0} {P : A → ℕ → Type 0} {t : State} {b : ℕ} {r : TokenAt A} → Run text s a [] t b → Agrees text t b P r → Agrees text s a P r
  agrees_after g (there d) = there d
  agrees_after g (nowhere d) = nowhere (run_dead g d)

  agrees_on : {A : Type 0} {t u : State} {b : ℕ} {r : TokenAt A} → Run text s a [] t b → Agrees text t b (λ _ c. Run text t b [] u c) r
      → Agrees text s a (λ _ c. Run text s a [] u c) r
  agrees_on g d = agrees_map (agrees_after g d) (λ _ _ q. run_then g q)

-- a state in which one byte alone may follow
followed_agrees : {text : List ℕ} {a : ℕ} {s t : State} (b : ℕ)
    → (a < length text → (step_byte s (get_or text a 0) ≡ when (eqb (get_or text a 0) b) t) × (ended s (get_or text a 0) ≡ []))
    → (accepts s ≡ false) × (ended_last s ≡ [])
    → {A : Type 0} {Q : A → ℕ → Type 0} (x : A) → (a < length text → eqb (get_or text a 0) b ≡ true → Run text s a [] t (suc a) → Q x (suc a))
    → Agrees text s a Q (followed_by text b x a)
followed_agrees {text} {a} {s} b step unfinished {Q = Q} x f = by (dec_lt a (length text))
  where
    byte : (h : a < length text) (r : Bool) → eqb (get_or text a 0) b ≡ r → Agrees text s a Q (cond r (stands x (suc a)) (refused a))
    byte h true e = there (f h e (run_step h ((step h).0 ∙ rw e) (step h).1))
    byte h false e = nowhere (dead_step h ((step h).0 ∙ rw e))

    by : Dec (a < length text) → Agrees text s a Q (followed_by text b x a)
    by (yes h) = rw (lt-ltb a (length text) h) (byte h (eqb (get_or text a 0) b) refl)
    by (no h) = let l : length text ≤ a = omega arith in rw (le-ltb a (length text) l) (nowhere (dead_end l unfinished.0 unfinished.1))

-- a number: the automaton is after its last digit, and no digit follows
pub record NumberRead (text : List ℕ) (n : Number) (s : State) (a x b : ℕ) : Type 0 where
  pub run : Run text s a [] (digits n x) b
  pub small : x ≤ most n
  pub low : a < b
  pub over : b < length text → is_digit (get_or text b 0) ≡ false

first_small : (b bound : ℕ) (zero : Bool) → is_first b bound zero ≡ true → b - 48 ≤ bound
first_small b bound zero t = leb-true (b - 48) bound (and_both (is_digit b && (zero || not (eqb b 48))) (leb (b - 48) bound) t).1

number-after : {text : List ℕ} {n : Number} {s t : State} {a b : ℕ} → Run text s a [] t b → a ≤ b → {x c : ℕ} → NumberRead text n t b x c
    → NumberRead text n s a x c
number-after g l r = record { run = run_then g r.run; small = r.small; low = omega (arith, r.low); over = r.over }

module _ (text : List ℕ) (n : Number) where
  module _ (s : State) (c : ℕ) where
    -- the digits after the first, from where the number starts
    abbrev MoreDigits : ℕ → ℕ → Type 0
    MoreDigits x a =
        Run text s c [] (digits n x) a → c < a → x ≤ most n → Agrees text s c (NumberRead text n s c) (digits_from (most n) x (drop a text) a)

    digit_agrees : {x a : ℕ} → a < length text → let b = get_or text a 0 in MoreDigits (x * 10 + (b - 48)) (suc a) → MoreDigits x a
    digit_agrees {x} {a} h go g low small =
        let b = get_or text a 0 in
        rw (digits_step text a h (most n) x) (by (is_digit b) refl (is_next x (b - 48) (most n)) refl)
      where
        by : let b = get_or text a 0 in (d : Bool) → is_digit b ≡ d → (m : Bool) → is_next x (b - 48) (most n) ≡ m
            → Agrees text s c (NumberRead text n s c)
            (cond d (cond m (digits_from (most n) (x * 10 + (b - 48)) (drop (suc a) text) (suc a)) (refused a)) (stands x a))
        by false p m q = there (record { run = g; small = small; low = low; over = λ _. p })
        by true p false q = nowhere (run_dead g (dead_step h (rw (p, q))))
        by true p true q = go (run_then g (run_step h (rw (p, q)) (rw p))) (omega arith) (next_small x (get_or text a 0 - 48) (most n) q)

    digits_agrees : (a x : ℕ) → MoreDigits x a
    digits_agrees =
        every_place text (λ a. (x : ℕ) → MoreDigits x a)
        (λ a h x g low small. rw (digits_none text a h (most n) x) (there (record { run = g; small = small; low = low; over = λ l. absurd (omega arith) })))
        (λ a h go x. digit_agrees h (go (suc a) (omega arith) _))

  number_agrees : (a : ℕ) → Agrees text (first n) a (NumberRead text n (first n) a) (number_at text (most n) (zero_allowed n) a)
  number_agrees a = by (dec_lt a (length text))
    where
      on : (h : a < length text) → let b = get_or text a 0 in (t : Bool) → is_first b (most n) (zero_allowed n) ≡ t
          → Agrees text (first n) a (NumberRead text n (first n) a) (cond t (digits_from (most n) (b - 48) (drop (suc a) text) (suc a)) (refused a))
      on h false p = nowhere (dead_step h (rw p))
      on h true p =
          let b = get_or text a 0 in digits_agrees (first n) a (suc a) (b - 48) (run_step h (rw p) refl) (omega arith) (first_small b (most n) (zero_allowed n) p)

      by : Dec (a < length text) → Agrees text (first n) a (NumberRead text n (first n) a) (number_at text (most n) (zero_allowed n) a)
      by (no h) = rw (number_none text a (omega arith) (most n) (zero_allowed n)) (nowhere (dead_end (omega arith) refl refl))
      by (yes h) = rw (number_step text a h (most n) (zero_allowed n)) (on h (is_first (get_or text a 0) (most n) (zero_allowed n)) refl)

-- comment lines, to the first byte of another line
module _ (text : List ℕ) where
  abbrev Comments : Bool → ℕ → Type 0
  Comments inside a =
      Agrees text (cond inside (comment line) line) a (λ _ b. Run text (cond inside (comment line) line) a [] (after_word preamble) b)
      (comments_from inside (drop a text) a)

  comment_agrees : {a : ℕ} (h : a < length text) (inside : Bool) → ((t : Bool) → Comments t (suc a)) → Comments inside a
  comment_agrees {a} h true go = rw (comments_step text a h true) (by (eqb (get_or text a 0) line_feed) refl (ltb (get_or text a 0) 256) refl)
    where
      by : (f : Bool) → eqb (get_or text a 0) line_feed ≡ f → (s : Bool) → ltb (get_or text a 0) 256 ≡ s
          → Agrees text (comment line) a (λ _ b. Run text (comment line) a [] (after_word preamble) b)
          (cond f (comments_from false (drop (suc a) text) (suc a)) (cond s (comments_from true (drop (suc a) text) (suc a)) (refused a)))
      by true p s q = agrees_on {s = comment line} {t = line} (run_step h (rw p) refl) (go false)
      by false p true q = agrees_on {s = comment line} {t = comment line} (run_step h (rw (p, q)) refl) (go true)
      by false p false q = nowhere (dead_step h (rw (p, q)))
  comment_agrees {a} h false go = rw (comments_step text a h false) (by (eqb (get_or text a 0) 99) refl)
    where
      by : (c : Bool) → eqb (get_or text a 0) 99 ≡ c → Agrees text line a (λ _ b. Run text line a [] (after_word preamble) b)
          (cond c (comments_from true (drop (suc a) text) (suc a)) (stands tt a))
      by true p = agrees_on {s = line} {t = comment line} (run_step h (rw p) refl) (go true)
      by false p = there (run_alike h (rw p) refl)

  comments_over : {a : ℕ} → length text ≤ a → (inside : Bool) → Comments inside a
  comments_over {a} h inside = rw (comments_none text a h inside) (nowhere (by inside))
    where
      by : (t : Bool) → Dead text (cond t (comment line) line) a [] a
      by true = dead_end h refl refl
      by false = dead_end h refl refl

  comments_agrees : (a : ℕ) (inside : Bool) → Comments inside a
  comments_agrees =
      every_place text (λ a. (inside : Bool) → Comments inside a) (λ a h. comments_over h)
      (λ a h go inside. comment_agrees h inside (go (suc a) (omega arith)))

-- the header is read: V is small, and a line begins
pub record HeadRead (text : List ℕ) (s : State) (a : ℕ) (h : Header) (b : ℕ) : Type 0 where
  pub run : Run text s a [] (clause h 0 false true) b
  pub small : h.variables ≤ most_variables
  pub at_line : line_begins text b ≡ true

module _ (text : List ℕ) where
  word_agrees : (ws : List ℕ) (a : ℕ) → Agrees text (after_word ws) a (λ _ c. Run text (after_word ws) a [] (first of_variables) c) (word_at text ws a)
  unfolding word_at
  word_agrees [] a = there (run_stay text (first of_variables) a)
  word_agrees (w ∷ ws) a =
      agrees_then (λ _ next. word_at text ws next)
      (followed_agrees {t = after_word ws} w (λ _. (refl, refl)) (refl, refl) {Q = λ _ b. Run text (after_word (w ∷ ws)) a [] (after_word ws) b} tt (λ _ _ g. g))
      (λ _ b g. agrees_on g (word_agrees ws b))

  -- a number that needs the byte behind it
  field_agrees : (n : Number) (end : ℕ) (after : ℕ → State) → zero_allowed n ≡ true → ((x c : ℕ) → after_number n x c ≡ when (eqb c end) (after x))
      → ((x : ℕ) → (closes_last n x ≡ false) × (read_element n x ≡ [])) → (a : ℕ)
      → Agrees text (first n) a (λ x c. Run text (first n) a [] (after x) c × (x ≤ most n) × (end ≡ line_feed → line_begins text c ≡ true))
      (field_at text (most n) end a)
  field_agrees n end after z f quiet a =
      agrees_then (λ x b. followed_by text end x b) (rw z at (number_agrees text n a))
      (λ x b r. agrees_after r.run
      (followed_agrees {text = text} {a = b} {s = digits n x} {t = after x} end (λ h. (rw (r.over h) (f x (get_or text b 0)), rw (r.over h) (quiet x).1))
      (quiet x) x (λ h e g. (run_then r.run g, r.small, λ q. line_after text b h ∙ subst (λ c. eqb (get_or text b 0) c ≡ true) q e))))

  counts_agrees : (a : ℕ) → Agrees text (first of_variables) a (HeadRead text (first of_variables) a) (header_counts_at text a)
  counts_agrees a =
      agrees_then (λ v next. and_then (field_at text (2 ^ 64 - 1) line_feed next) (λ c after. stands (header_with v c) after))
      (field_agrees of_variables space (λ v. first (of_clauses v)) refl (λ v c. refl) (λ v. (refl, refl)) a)
      (λ v b p. agrees_then (λ c after. stands (header_with v c) after)
      (agrees_after p.0 (field_agrees (of_clauses v) line_feed (λ c. clause (header_with v c) 0 false true) refl (λ x c. refl) (λ x. (refl, refl)) b))
      (λ c d q. there (record { run = run_then p.0 q.0; small = p.1; at_line = q.2 refl })))

  pub header_agrees : (a : ℕ) → Agrees text line a (HeadRead text line a) (header_at text a)
  header_agrees a =
      agrees_then (λ _ first. and_then (word_at text preamble first) (λ _ next. header_counts_at text next)) (comments_agrees text a false)
      (λ _ b p. agrees_then (λ _ next. header_counts_at text next) (agrees_on p (word_agrees preamble b))
      (λ _ c q. agrees_map (agrees_after q (counts_agrees c)) (λ _ _ r. record { run = run_then q r.run; small = r.small; at_line = r.at_line })))

-- a byte that may begin a number is neither a blank nor the `c` of a comment line, and no other byte begins an element
pub clause_step : (h : Header) (k : ℕ) (begun at_line : Bool) (b : ℕ) → may_begin_number b ≡ true → step_byte (clause h k begun at_line) b ≡ element_step h k b
clause_step h k begun at_line b t =
    let r = and_both (leb 45 b) (leb b 57) t in
    let l = leb-true 45 b r.0 in
    let u = leb-true b 57 r.1 in
    rw (ne_eqb b 32 (λ e. omega arith), ne_eqb b 9 (λ e. omega arith), ne_eqb b 10 (λ e. omega arith), ne_eqb b 99 (λ e. omega arith))

no_element : (h : Header) (k b : ℕ) → may_begin_number b ≡ false → element_step h k b ≡ None
no_element h k b e = by (eqb k h.clauses)
  where
    no_minus : eqb b minus ≡ false
    no_minus = off (eqb b minus) (λ t. let q = eqb-true b minus t in clash (rw q) e)

    no_digit : is_digit b ≡ false
    no_digit =
        off (is_digit b) (λ t.
        let r = and_both (leb 48 b) (leb b 57) t in
        let l = leb-true 48 b r.0 in
        let m : 45 ≤ b = omega arith in
        clash (rw (le-leb 45 b m) r.1) e)

    by : (t : Bool)
        → cond t None (cond (eqb b minus) (when (not (eqb h.variables 0)) (first (element h k true))) (first_digit (element h k false) b)) ≡ None
    by true = refl
    by false = rw (no_minus, no_digit)

-- a blank or a comment line is read: the automaton is where it was, but for whether a line begins
pub record BlankOrCommentRead (text : List ℕ) (h : Header) (k : ℕ) (begun : Bool) (s : State) (a b : ℕ) : Type 0 where
  pub run : Run text s a [] (clause h k begun (line_begins text b)) b
  pub low : a < b

module _ (text : List ℕ) (h : Header) (k : ℕ) (begun : Bool) where
  -- by its last byte
  ends_read : {s : State} {a b : ℕ} → b < length text → a ≤ b → {t : Bool} → eqb (get_or text b 0) line_feed ≡ t → Run text s a [] (clause h k begun t) (suc b)
      → BlankOrCommentRead text h k begun s a (suc b)
  ends_read {s} {a} {b} l m e g = record { run = rw (line_after text b l ∙ e) g; low = omega arith }

  abbrev GoesOn : State → ℕ → TokenAt Unit → Type 0
  GoesOn s a r = Agrees text s a (λ _ b. BlankOrCommentRead text h k begun s a b) r

  goes_on : {s t : State} {a : ℕ} {r : TokenAt Unit} → Run text s a [] t (suc a) → GoesOn t (suc a) r → GoesOn s a r
  goes_on g d = agrees_map (agrees_after g d) (λ _ _ q. record { run = run_then g q.run; low = omega (arith, q.low) })

  -- to the end of a comment line
  abbrev in_comment : State
  in_comment = comment (clause h k begun true)

  line_end_agrees : (a : ℕ) → GoesOn in_comment a (line_end_at text a)
  line_end_agrees =
      every_place text (λ a. GoesOn in_comment a (line_end_at text a)) (λ a l. rw (line_end_none text a l) (nowhere (dead_end l refl refl)))
      (λ a l go. rw (line_end_step text a l) (by l (go (suc a) (omega arith)) (eqb (get_or text a 0) line_feed) refl (ltb (get_or text a 0) 256) refl))
    where
      by : {a : ℕ} → a < length text → GoesOn in_comment (suc a) (line_end_at text (suc a))
          → (f : Bool) → eqb (get_or text a 0) line_feed ≡ f → (s : Bool) → ltb (get_or text a 0) 256 ≡ s
          → GoesOn in_comment a (cond f (stands tt (suc a)) (cond s (line_end_at text (suc a)) (refused a)))
      by l go true p s q = there (ends_read l (omega arith) p (run_step l (rw p) refl))
      by l go false p true q = goes_on {t = in_comment} (run_step l (rw (p, q)) refl) go
      by l go false p false q = nowhere (dead_step l (rw (p, q)))

  pub blank_or_comment_agrees : {a : ℕ} → a < length text → may_begin_number (get_or text a 0) ≡ false
      → GoesOn (clause h k begun (line_begins text a)) a (blank_or_comment_at text begun a)
  blank_or_comment_agrees {a} l n = let b = get_or text a 0 in by (is_blank b) refl (starts_comment begun (line_begins text a) b) refl
    where
      by : let b = get_or text a 0 in (f : Bool) → is_blank b ≡ f → (s : Bool) → starts_comment begun (line_begins text a) b ≡ s
          → GoesOn (clause h k begun (line_begins text a)) a (cond f (stands tt (suc a)) (cond s (line_end_at text (suc a)) (refused a)))
      by true p s q = there (ends_read l (omega arith) refl (run_step l (rw p) refl))
      by false p true q = goes_on {t = in_comment} (run_step l (rw (p, q)) refl) (line_end_agrees (suc a))
      by false p false q = nowhere (dead_step l (rw (p, q) (no_element h k (get_or text a 0) n)))

-- an element is read, and the blank behind it
pub record ElementRead (text : List ℕ) (h : Header) (k : ℕ) (s : State) (a : ℕ) (e : Bool × ℕ) (b : ℕ) : Type 0 where
  pub run : Run text s a (literal_of e.0 e.1 ∷ []) (clause h (closed_after k e.1) (not (eqb e.1 0)) (line_begins text b)) b
  pub small : e.1 ≤ h.variables
  pub low : a < b

-- after an element
module _ (h : Header) (k x : ℕ) where
  abbrev after_it : Bool → State
  after_it at_line = clause h (closed_after k x) (not (eqb x 0)) at_line

  end_after : (negative at_line : Bool) → accepts (digits (element h k negative) x) ≡ accepts (after_it at_line)
  end_after negative at_line = by (eqb x 0)
    where
      by : (t : Bool) → t && eqb (suc k) h.clauses ≡ not (not t) && eqb (tally t k) h.clauses
      by true = refl
      by false = refl

  -- the text's end, a blank or another byte behind its number
  behind_agrees : {text : List ℕ} {s : State} {a b : ℕ} (negative : Bool) → NumberRead text (element h k negative) s a x b
      → Agrees text s a (ElementRead text h k s a) (blank_or_end text (negative, x) b)
  behind_agrees {text} {s} {a} {b} negative r = by (dec_lt b (length text))
    where
      ends : {c : ℕ} → b ≤ c → Run text (digits (element h k negative) x) b (literal_of negative x ∷ []) (after_it (line_begins text c)) c
          → Agrees text s a (ElementRead text h k s a) (stands (negative, x) c)
      ends m g = there (record { run = run_then r.run g; small = r.small; low = omega (arith, r.low) })

      byte : (l : b < length text) (t : Bool) → is_blank (get_or text b 0) ≡ t
          → Agrees text s a (ElementRead text h k s a) (cond t (stands (negative, x) (suc b)) (refused b))
      byte l true e = ends (omega arith) (rw (line_after text b l) (run_step l (rw (r.over l, e)) (rw (r.over l))))
      byte l false e = nowhere (run_dead r.run (dead_step l (rw (r.over l, e))))

      by : Dec (b < length text) → Agrees text s a (ElementRead text h k s a) (blank_or_end text (negative, x) b)
      by (yes l) = rw (lt-ltb b (length text) l) (byte l (is_blank (get_or text b 0)) refl)
      by (no m) =
          let l : length text ≤ b = omega arith in
          rw (le-ltb b (length text) l) (ends (omega arith) (run_end l (end_after negative (line_begins text b)) refl refl))

module _ (text : List ℕ) (h : Header) (k : ℕ) where
  unsigned_agrees : (negative : Bool) (a : ℕ)
      → Agrees text (first (element h k negative)) a (λ e b. NumberRead text (element h k e.0) (first (element h k negative)) a e.1 b)
      (unsigned_at text h.variables negative a)
  unsigned_agrees negative a = agrees_then (λ x after. stands (negative, x) after) (number_agrees text (element h k negative) a) (λ x b r. there r)

  module _ {a : ℕ} (l : a < length text) (begun : Bool) (o : may_begin_number (get_or text a 0) ≡ true) (n : k ≡ h.clauses → ⊥) where
    abbrev here : State
    here = clause h k begun (line_begins text a)

    step : step_byte here (get_or text a 0) ≡ element_step h k (get_or text a 0)
    step = clause_step h k begun (line_begins text a) (get_or text a 0) o

    signed_agrees : (t : Bool) → eqb (get_or text a 0) minus ≡ t → (z : Bool) → eqb h.variables 0 ≡ z
        → Agrees text here a (λ e b. NumberRead text (element h k e.0) here a e.1 b)
        (cond t (cond z (refused a) (unsigned_at text h.variables true (suc a))) (unsigned_at text h.variables false a))
    signed_agrees true p true q = nowhere (dead_step l (step ∙ rw (ne_eqb k h.clauses n, p, q)))
    signed_agrees true p false q =
        let g : Run text here a [] (first (element h k true)) (suc a) = run_step l (step ∙ rw (ne_eqb k h.clauses n, p, q)) refl in
        agrees_map (agrees_after g (unsigned_agrees true (suc a))) (λ _ _ r. number-after g (omega arith) r)
    signed_agrees false p z q =
        let g : Run text here a [] (first (element h k false)) a = run_alike l (step ∙ rw (ne_eqb k h.clauses n, p)) refl in
        agrees_map (agrees_after g (unsigned_agrees false a)) (λ _ _ r. number-after g (omega arith) r)

    element_agrees : Agrees text here a (λ e b. NumberRead text (element h k e.0) here a e.1 b) (element_at text h.variables a)
    element_agrees = rw (lt-ltb a (length text) l) (signed_agrees (eqb (get_or text a 0) minus) refl (eqb h.variables 0) refl)

    pub element_and_blank_agrees : Agrees text here a (ElementRead text h k here a) (element_and_blank_at text h.variables a)
    element_and_blank_agrees =
        agrees_then (λ e after. blank_or_end text e after) element_agrees (λ e b r. behind_agrees h k e.1 e.0 r)
