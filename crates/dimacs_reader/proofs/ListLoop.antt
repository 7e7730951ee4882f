-- The loop that reads the list, and the header that a body tells at its end. Assumes nothing.
use Prim.Native.Nat.{ℕ, ◌≤◌, ◌<◌}
use native.Mathlib.Omega.{arith}
use native.Mathlib.Decide.{ℕ_discrete}
use borrow.Author.Tests.{eq-eqb, ne_eqb}
use lib.Dec.{eqb}
use lib.IntN.{ℤ}
use lib.ListN.{length, get_or, drop, drop_of_length-le}
use lib.Seq.{sets}
use mathlib.Core.Path.{◌≡◌, refl, sym, ◌∙◌, ap}
use mathlib.Core.Bool.{Bool, true, false, not}
use mathlib.Core.Logic.{◌⊎◌, inl, inr}
use Rattle.std.specs.Prelude.{None}
use Rattle.answers.proofs.Options.{some-none}
use mathlib.Core.List.{List, [], ◌∷◌, ◌++◌, append-nil}
use Rattle.std.specs.Prelude.{Result, Ok, Err}
use Rattle.answers.specs.Lists.{tally}
use Rattle.answers.specs.Lent.{Wrote}
use Rattle.answers.proofs.Lent.{wrote_after}
use Rattle.dimacs.specs.Automaton.{end_from, refused_from}
use Rattle.dimacs.specs.Reader.{Header, header_with, State, clause, literal_of, step_byte, accepts, list_from}
use Rattle.dimacs.specs.Tokens.{TokenAt, stands, refused, may_begin_number, line_begins, element_and_blank_at, blank_or_comment_at}
use Rattle.dimacs_cursor.specs.declared.BadByte.{BadByte}
use Rattle.dimacs_reader.specs.Lists.{list_at, listed, closed_after}
use Rattle.dimacs_reader.proofs.Runs.{header_after, Run, Dead, run_then, run_dead, dead_step, dead_end, every_place}
use Rattle.dimacs_reader.proofs.Agrees.{Agrees, there, nowhere, agrees_there, agrees_nowhere, clause_step, BlankOrCommentRead, blank_or_comment_agrees}
use Rattle.dimacs_reader.proofs.Agrees.{ElementRead, element_and_blank_agrees}

-- k clauses are closed, n elements read and written
pub record AtList (text : List ℕ) (v c a : ℕ) (before after : List ℤ) (at n k : ℕ) (begun : Bool) : Type 0 where
  pub done : List ℤ
  pub run : Run text (clause (header_with v c) 0 false true) a done (clause (header_with v c) k begun (line_begins text at)) at
  pub wrote : Wrote before 0 done after n
  pub few : n ≤ at
  pub most : k ≤ c

-- the answer, and the buffer at the end
abbrev Lists : List ℕ → Header → ℕ → List ℤ → List ℤ → Result ℕ BadByte → Type 0
Lists text h a before after r = record { value : r ≡ listed text h a; out_after : after ≡ sets before 0 (list_at text h a) }

module _ {text : List ℕ} {v c a : ℕ} {before after : List ℤ} {at n k : ℕ} {begun : Bool} (g : AtList text v c a before after at n k begun) where
  abbrev state : State
  state = clause (header_with v c) k begun (line_begins text at)

  pub list_refused : {p : ℕ} → Dead text state at [] p → Lists text (header_with v c) a before after (Err (record { at = p }))
  list_refused d =
      let e = run_dead g.run d in
      record { value = rw e.place; out_after = g.wrote.holds ∙ ap (sets before 0) (sym (e.list ∙ append-nil g.done)) }

  pub list_over : at < length text → true ≡ may_begin_number (get_or text at 0) → k ≡ c → Lists text (header_with v c) a before after (Err (record { at = at }))
  list_over h t e = list_refused (dead_step h (clause_step (header_with v c) k begun (line_begins text at) (get_or text at 0) (sym t) ∙ rw (eq-eqb k c e)))

  pub list_more : {e : Bool × ℕ} {b r j : ℕ} {new : List ℤ} → ElementRead text (header_with v c) k state at e b → (k ≡ c → ⊥)
      → Wrote after n (literal_of e.0 e.1 ∷ []) new r → j ≡ closed_after k e.1 → AtList text v c a before new b r j (not (eqb e.1 0))
  list_more {e = e} d n w q =
      rw q
      (record {
        done = g.done ++ (literal_of e.0 e.1 ∷ []);
        run = run_then g.run d.run;
        wrote = wrote_after g.wrote w;
        few = omega (arith, g.few, d.low, w.place);
        most = by (eqb e.1 0);
      })
    where
      by : (t : Bool) → tally t k ≤ c
      by true = omega (arith, g.most)
      by false = g.most

  pub list_on : {b : ℕ} → BlankOrCommentRead text (header_with v c) k begun state at b → AtList text v c a before after b n k begun
  list_on d =
      record {
        done = g.done;
        run = rw append-nil at (run_then g.run d.run);
        wrote = g.wrote;
        few = omega (arith, g.few, d.low);
        most = g.most;
      }

  -- a blank or a comment line
  module _ (h : at < length text) (o : false ≡ may_begin_number (get_or text at 0)) where
    piece : Agrees text state at (λ _ b. BlankOrCommentRead text (header_with v c) k begun state at b) (blank_or_comment_at text begun at)
    piece = blank_or_comment_agrees text (header_with v c) k begun h (sym o)

    pub piece_read : {b : ℕ} → stands tt b ≡ blank_or_comment_at text begun at → BlankOrCommentRead text (header_with v c) k begun state at b
    piece_read e = agrees_there piece (sym e)

    pub piece_refused : {p : ℕ} → refused p ≡ blank_or_comment_at text begun at → Lists text (header_with v c) a before after (Err (record { at = p }))
    piece_refused e = list_refused (agrees_nowhere piece (sym e))

  -- an element
  module _ (h : at < length text) (o : true ≡ may_begin_number (get_or text at 0)) (another : k ≡ c → ⊥) where
    element_there : Agrees text state at (ElementRead text (header_with v c) k state at) (element_and_blank_at text v at)
    element_there = element_and_blank_agrees text (header_with v c) k h begun (sym o) another

    pub element_read : {e : Bool × ℕ} {b : ℕ} → stands e b ≡ element_and_blank_at text v at → ElementRead text (header_with v c) k state at e b
    element_read e = agrees_there element_there (sym e)

    pub element_refused : {p : ℕ} → refused p ≡ element_and_blank_at text v at → Lists text (header_with v c) a before after (Err (record { at = p }))
    element_refused e = list_refused (agrees_nowhere element_there (sym e))

  -- at the text's end
  module _ (h : length text ≤ at) where
    pub list_unfinished : (begun ≡ true) ⊎ ((begun ≡ false) × (k ≡ c → ⊥)) → Lists text (header_with v c) a before after (Err (record { at = at }))
    list_unfinished (inl t) = list_refused (dead_end h (rw t) refl)
    list_unfinished (inr n) = list_refused (dead_end h (rw (n.0, ne_eqb k c n.1)) refl)

    pub list_end : begun ≡ false → k ≡ c → Lists text (header_with v c) a before after (Ok n)
    unfolding refused_from list_from
    list_end t e =
        let accepted : refused_from step_byte accepts (clause (header_with v c) 0 false true) (drop a text) a ≡ None = g.run.refused
        ∙ rw (drop_of_length-le text h, t, eq-eqb k c e) in
        let all : list_at text (header_with v c) a ≡ g.done = g.run.list
        ∙ ap (λ (rest : List ℕ). g.done ++ list_from state rest) (drop_of_length-le text h) ∙ append-nil g.done in
        record { value = rw (accepted, all) (ap Ok (omega (arith, g.wrote.place))); out_after = g.wrote.holds ∙ ap (sets before 0) (sym all) }

-- a body that is not refused tells its header
module _ (text : List ℕ) (h : Header) where
  abbrev state_at : ℕ → Bool → ℕ → State
  state_at k begun a = clause h k begun (line_begins text a)

  abbrev Tells : ℕ → Bool → ℕ → Type 0
  Tells k begun a = refused_from step_byte accepts (state_at k begun a) (drop a text) a ≡ None → header_after text (state_at k begun a) a ≡ h

  not-refused : {B : Type 0} {s : State} {a p : ℕ} {ls : List ℤ} → Dead text s a ls p → refused_from step_byte accepts s (drop a text) a ≡ None → B
  not-refused {p = p} d e = absurd (some-none p (sym d.place ∙ e))

  tells_here : {a : ℕ} → length text ≤ a → (k : ℕ) (begun : Bool) → Tells k begun a
  unfolding end_from
  tells_here l k begun e = rw (drop_of_length-le text l)

  module _ {a : ℕ} (l : a < length text) (k : ℕ) (begun : Bool) (go : (b j : ℕ) (t : Bool) → a < b → Tells j t b) where
    tells_then : {ls : List ℤ} {b j : ℕ} {t : Bool} → Run text (state_at k begun a) a ls (state_at j t b) b → a < b → Tells k begun a
    tells_then g m e = g.header ∙ go _ _ _ m (sym g.refused ∙ e)

    tells_agreed : {A : Type 0} {P : A → ℕ → Type 0} {r : TokenAt A} → Agrees text (state_at k begun a) a P r
        → ((x : A) (b : ℕ) → P x b → Tells k begun a) → Tells k begun a
    tells_agreed (there d) f = f _ _ d
    tells_agreed (nowhere d) f = λ e. not-refused d e

    tells_after : (t : Bool) → may_begin_number (get_or text a 0) ≡ t → Dec (k ≡ h.clauses) → Tells k begun a
    tells_after false o q = tells_agreed (blank_or_comment_agrees text h k begun l o) (λ _ _ d. tells_then d.run d.low)
    tells_after true o (yes q) =
        λ e. not-refused (dead_step l (clause_step h k begun (line_begins text a) (get_or text a 0) o ∙ rw (eq-eqb k h.clauses q))) e
    tells_after true o (no q) = tells_agreed (element_and_blank_agrees text h k l begun o q) (λ _ _ d. tells_then d.run d.low)

  pub body_tells : (a k : ℕ) (begun : Bool) → Tells k begun a
  body_tells =
      every_place text (λ a. (k : ℕ) (begun : Bool) → Tells k begun a) (λ a l. tells_here l)
      (λ a l go k begun. tells_after l k begun (λ b j t m. go b m j t) (may_begin_number (get_or text a 0)) refl (ℕ_discrete k h.clauses))
