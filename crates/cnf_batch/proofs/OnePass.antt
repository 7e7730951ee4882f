-- One pass over the clauses: what the loop keeps, and what it answers. Assumes nothing.
use Prim.Native.Nat.{ℕ, ◌+◌, ◌-◌, ◌^◌, ◌≤◌, ◌<◌}
use native.Mathlib.Omega.{arith}
use native.Mathlib.Numerals.{add-one}
use lib.Bits.{bit_and, bit_or, and_le_l}
use lib.IntN.{ℤ, pos}
use lib.ListN.{length, get_or, drop, drop_of_length-le}
use lib.Seq.{drop-cons}
use mathlib.Core.Path.{◌≡◌, refl, sym, ◌∙◌, ap, subst}
use mathlib.Core.Bool.{Bool, true, false, ◌||◌}
use Rattle.std.specs.Prelude.{Option, None}
use mathlib.Core.List.{List, [], ◌∷◌}
use Rattle.answers.specs.First.{found, or_else}
use Rattle.answers.specs.Outcome.{answer, refusal}
use Rattle.answers.proofs.First.{Seeking, seek_start, seek_on, seek_found, seek_none}
use Rattle.answers.proofs.Rows.{Left, left_all, left_next, left_turn, left_done}
use Rattle.cnf.specs.Literals.{closes, beyond_at, unclosed, wrong_list}
use Rattle.cnf.specs.Clauses.{value}
use Rattle.cnf_batch.specs.Words.{bit_set}
use Rattle.cnf_batch.specs.Batch.{value_list, satisfies, literal_word, satisfied_word}
use Rattle.cnf_batch.specs.Call.{reading_rows, reading_answer}
use Rattle.cnf_batch.proofs.Words.{bit_none, bit-and, bit-or, bit_ones, word_bits, word_only}
use Rattle.cnf_batch.proofs.OneList.{ListRead, list_as, list_start, list_end, list_close, list_literal}

-- each of the lists, unless the clause list is refused for its end
abbrev AllRead : List ℕ → List ℤ → ℕ → ℕ → List ℤ → Type 0
AllRead words ls satisfied clause left =
    unclosed ls ≡ false → (j : ℕ) → j < 64 → ListRead (value_list words j) ls (bit_set j satisfied) (bit_set j clause) left

-- at the head of the loop: no literal before is beyond V, and the lists are read up to here
pub record ClausesRead (words : List ℕ) (ls : List ℤ) (i satisfied clause : ℕ) : Type 0 where
  seeking : Seeking (beyond_at (length words) ls) (length ls) i
  small : satisfied < 2 ^ 64
  lists : AllRead words ls satisfied clause (drop i ls)

pub read_start : (words : List ℕ) (ls : List ℤ) → ClausesRead words ls 0 (2 ^ 64 - 1) 0
read_start words ls = record {
  seeking = seek_start;
  small = omega arith;
  lists = λ h j b. list_as (bit_ones 64 j b) (bit_none j) (list_start (value_list words j) ls h);
}

module _ (words : List ℕ) (ls : List ℤ) where
  row_16 : Left (reading_rows words ls) (answer (satisfied_word words ls) 0 0) (reading_rows words ls)
  row_16 = left_all (reading_rows words ls) (answer (satisfied_word words ls) 0 0)

module _ {words : List ℕ} {ls : List ℤ} {i satisfied clause : ℕ} (r : ClausesRead words ls i satisfied clause) where
  module _ (h : i < length ls) where
    abbrev lit : ℤ
    lit = get_or ls i (pos 0)

    -- the part left begins with the element at i
    left_at : AllRead words ls satisfied clause (lit ∷ drop (i + 1) ls)
    left_at = subst (AllRead words ls satisfied clause) (rw add-one (drop-cons ls i (pos 0) h)) r.lists

    pub read_beyond : beyond_at (length words) ls i ≡ true → refusal 16 i ≡ reading_answer words ls
    read_beyond e = left_turn (row_16 words ls) (ap (λ (o : Option ℕ). or_else o (found (unclosed ls) (length ls) None)) (seek_found r.seeking h e refl))

    module _ (within : beyond_at (length words) ls i ≡ false) where
      pub read_close : closes lit ≡ true → ClausesRead words ls (i + 1) (bit_and satisfied clause) 0
      read_close e = record {
        seeking = seek_on r.seeking h within;
        small = let b = r.small in let a = and_le_l satisfied clause in omega arith;
        lists = λ c j b. list_as (bit-and j satisfied clause) (bit_none j) (list_close (left_at c j b) e);
      }

      pub read_literal : {word : ℕ} → closes lit ≡ false → word ≡ literal_word words lit → ClausesRead words ls (i + 1) satisfied (bit_or clause word)
      read_literal {word} e p = record {
        seeking = seek_on r.seeking h within;
        small = r.small;
        lists = λ c j b.
            let v = ap (bit_set j) p ∙ word_bits 64 (λ j. value (value_list words j) lit) j b in
            list_as refl (bit-or j clause word ∙ ap (λ (t : Bool). bit_set j clause || t) v) (list_literal (left_at c j b) e);
      }

  module _ (h : length ls ≤ i) where
    ends : {t : Bool} → t ≡ unclosed ls → found t (length ls) None ≡ wrong_list (length words) ls
    ends e =
        ap (λ (t : Bool). found t (length ls) None) e
        ∙ ap (λ (o : Option ℕ). or_else o (found (unclosed ls) (length ls) None)) (seek_none r.seeking h refl)

    pub read_unclosed : true ≡ unclosed ls → refusal 16 (length ls) ≡ reading_answer words ls
    read_unclosed e = left_turn (row_16 words ls) (ends e)

    pub read_all : false ≡ unclosed ls → answer satisfied 0 0 ≡ reading_answer words ls
    read_all e =
        let left : AllRead words ls satisfied clause [] = subst (AllRead words ls satisfied clause) (drop_of_length-le ls h) r.lists in
        let w = word_only 64 satisfied (λ j. satisfies (value_list words j) ls) r.small (λ j k. list_end (left (sym e) j k)) in
        ap (λ (n : ℕ). answer n 0 0) w ∙ left_done (left_next (row_16 words ls) (ends e))
