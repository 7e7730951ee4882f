-- Document 02's request E4 holds. What it says stands in specs/RequestE4.antt; what is cited here is proved in rules_theory and encoder. Assumes nothing.
use lib.IntN.{ℤ}
use lib.ListN.{length}
use mathlib.Core.Path.{◌≡◌, sym, ◌∙◌}
use mathlib.Core.Bool.{false}
use mathlib.Core.Logic.{◌⊎◌, inl, inr}
use mathlib.Core.List.{List}
use Prim.Native.Nat.{ℕ}
use Rattle.answers.specs.Lent.{filled, unless_refused}
use Rattle.answers.specs.Outcome.{answer}
use Rattle.rules.specs.declared.Kind.TheVariants.{One, Two, Three}
use Rattle.rules.specs.Record.{grid_of, IsAccepted}
use Rattle.rules.specs.Board.{stops_before_clues, board_of}
use Rattle.rules.specs.Judge.{judge_rows, says_yes}
use Rattle.rules_theory.specs.RecordKinds.{bytes_at, OfKind, SameGrid}
use Rattle.rules_theory.proofs.RecordKinds.{record_kind, stops_of, same_told}
use Rattle.rules_theory.proofs.Theorems as reader
use Rattle.encoder.specs.Variables.{variable_count}
use Rattle.encoder.specs.Clauses.{clauses, clause_list}
use Rattle.encoder.specs.Encoding.{encoder_grid_rows, encoder_answer}
use Rattle.encoder.specs.Decoding.{decoded, decoder_grid_rows, decoder_answer}
use Rattle.encoder.proofs.Sizes.{accepted_bounded}
use Rattle.encoder.proofs.Lengths as lengths
use Rattle.encoder_theory.proofs.Theorems.{never_refused}
use Rattle.demands.specs.RequestE4.{EitherKind, RequestE4}

-- the lines of kinds 1 and 2 do not stop at clues
pub to_edge : (s : List ℕ) → EitherKind s → stops_before_clues (grid_of s).kind ≡ false
to_edge s (inl h) = stops_of One s h
to_edge s (inr h) = stops_of Two s h

one_form : (s t : List ℕ) → EitherKind s → EitherKind t → SameGrid s t → board_of s ≡ board_of t
one_form s t k l e = reader.one_form s t e (to_edge s k ∙ sym (to_edge t l))

either_kind : (s : List ℕ) → IsAccepted s → (bytes_at s 2 2 ≡ 3 → ⊥) → EitherKind s
either_kind s a n = by (reader.each_kind s a)
  where
    by : EitherKind s ⊎ OfKind (record_kind Three) s → EitherKind s
    by (inl k) = k
    by (inr k) = absurd (n k.kind)

module _ (s t : List ℕ) (a : IsAccepted s) (c : IsAccepted t) (e : board_of s ≡ board_of t) where
  encoder : (out : List ℤ) → encoder_answer s out ≡ encoder_answer t out
  encoder out =
      same_told s t a c e (λ b. encoder_grid_rows b out) (λ b. answer (length (clause_list b)) (variable_count b) (length (clauses b)))

  decoder : (values lent : List ℕ) → decoder_answer s values lent ≡ decoder_answer t values lent
  decoder values lent = same_told s t a c e (λ b. decoder_grid_rows b values lent) (λ b. says_yes)

pub request_e4 : RequestE4
request_e4 =
    record {
      kind-two = reader.kind_accepts Two;
      kind-one = reader.kind_accepts One;
      one_refused = reader.kind_refuses One;
      other_kind = reader.refused_kind;
      two_refused = reader.kind_refuses Two;
      either_kind = either_kind;
      one_form = one_form;
      same_judged = λ s t a c k l e ds. same_told s t a c (one_form s t k l e) (λ b. judge_rows b ds) (λ b. says_yes);
      same_encoded = λ s t a c k l e out. let same = one_form s t k l e in
          (encoder s t a c same out, λ i. unless_refused (encoder s t a c same out i) out (filled out (clause_list (same i))));
      same_decoded = λ s t a c k l e values lent. let same = one_form s t k l e in (
        decoder s t a c same values lent,
        λ i. unless_refused (decoder s t a c same values lent i) lent (decoded (same i) values),
      );
      larger_limits = accepted_bounded;
      few_variables = λ s a. (never_refused s a).0;
      short_list = λ s a. lengths.short_list _ (accepted_bounded s a);
      list_taken = λ s a. (never_refused s a).2;
    }
