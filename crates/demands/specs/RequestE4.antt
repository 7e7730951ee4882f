-- Document 02, E4, "Larger sheets, larger numbers", as one statement, in its order and words; what is in quotation marks is the request's.
-- What a record of a kind is, and what the reader tells of it, is said in rules_theory/specs/RecordKinds.antt, over the six numbers that set a kind apart.
-- The reader is `rules::record::read`; by its contract the outcome of what it hands out is `record_answer`, which has the kind as its third value.
use Rattle.std.specs.Prelude.{ℕ, ◌≤◌, ◌<◌, ◌^◌, ℤ, length, ◌≡◌, ◌↔◌, ◌⊎◌, List, None}
use Rattle.answers.specs.Outcome.{refusal}
use Rattle.rules.specs.Record.{record_answer, IsAccepted}
use Rattle.rules.specs.Board.{board_of}
use Rattle.rules.specs.Judge.{judge_answer}
use Rattle.rules_theory.specs.RecordKinds.{RecordKind, bytes_at, OfKind, OfOtherKind, Accepts, Refuses, SameGrid}
use Rattle.cnf.specs.Literals.{most_variables, wrong_list}
use Rattle.encoder.specs.Variables.{variable_count}
use Rattle.encoder.specs.Clauses.{clause_list}
use Rattle.encoder.specs.Bounds.{BoundedBoard}
use Rattle.encoder.specs.Encoding.{encoder_answer, encoder_leaves}
use Rattle.encoder.specs.Decoding.{decoder_answer, decoder_leaves}

-- sides to 24, one byte a cell, lower four bits the number, 0 to 15; and E5's shaded cell
abbrev pub kind_one : RecordKind
kind_one = record { kind = 1; side = 24; bytes = 1; unit = 0x10; number = 15; shaded = 0x50 }

-- sides to 45, two bytes a cell, lower twelve bits the number, 0 to 44; and E5's shaded cell
abbrev pub kind_two : RecordKind
kind_two = record { kind = 2; side = 45; bytes = 2; unit = 0x1000; number = 44; shaded = 0x5000 }

-- a record of kind 1 or 2
abbrev pub EitherKind : List ℕ → Type 0
EitherKind s = OfKind kind_one s ⊎ OfKind kind_two s

pub record RequestE4 : Type 0 where
  -- "Wall sheets reach 45 cells a side, and a number may pass 15. Kind 2 has sides 1 to 45 and two bytes a cell, little-endian: upper four bits the direction
  -- as before, lower twelve the number, 0 to 44; 0 is open; length is 6 + 2N."
  pub kind-two : Accepts kind_two
  -- "Kind 1 keeps its limits."
  pub kind-one : Accepts kind_one
  pub one_refused : Refuses kind_one
  -- "Refusal 2 is given for a kind other than 1 or 2;"
  -- (Or 3, since E12.)
  pub other_kind : (s : List ℕ) → record_answer s ≡ refusal 2 0 ↔ OfOtherKind s
  -- "refusals 3 to 5 read these limits for kind 2."
  pub two_refused : Refuses kind_two
  -- "Grids of either kind are covered through one inner form of the grid,"
  -- (But for those of kind 3 no other record is accepted. Records of the same grid have the same board, and the judge, the encoder and the decoder tell and
  -- leave the same of them.)
  pub either_kind : (s : List ℕ) → IsAccepted s → (bytes_at s 2 2 ≡ 3 → ⊥) → EitherKind s
  pub one_form : (s t : List ℕ) → EitherKind s → EitherKind t → SameGrid s t → board_of s ≡ board_of t
  pub same_judged : (s t : List ℕ) → IsAccepted s → IsAccepted t → EitherKind s → EitherKind t → SameGrid s t → (ds : List ℕ)
      → judge_answer s ds ≡ judge_answer t ds
  pub same_encoded : (s t : List ℕ) → IsAccepted s → IsAccepted t → EitherKind s → EitherKind t → SameGrid s t → (out : List ℤ)
      → (encoder_answer s out ≡ encoder_answer t out) × (encoder_leaves s out ≡ encoder_leaves t out)
  pub same_decoded : (s t : List ℕ) → IsAccepted s → IsAccepted t → EitherKind s → EitherKind t → SameGrid s t → (values lent : List ℕ)
      → (decoder_answer s values lent ≡ decoder_answer t values lent) × (decoder_leaves s values lent ≡ decoder_leaves t values lent)
  -- "with the arguments about clauses made for the larger limits."
  -- (The bounds on which the encoder's code and the arguments rest are those of 45 times 45 cells and numbers to 44. Every accepted grid keeps them: V is one
  -- that search and writer take, the list has fewer than 2^30 elements and gets no 16 for that V. The demands speak of every accepted grid.)
  pub larger_limits : (s : List ℕ) → IsAccepted s → BoundedBoard (board_of s)
  pub few_variables : (s : List ℕ) → IsAccepted s → variable_count (board_of s) ≤ most_variables
  pub short_list : (s : List ℕ) → IsAccepted s → length (clause_list (board_of s)) < 2 ^ 30
  pub list_taken : (s : List ℕ) → IsAccepted s → wrong_list (variable_count (board_of s)) (clause_list (board_of s)) ≡ None
