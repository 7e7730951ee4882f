-- How the call ends: what it tells and what it leaves in the lent list. Assumes nothing.
use Prim.Native.Nat.{ℕ, ◌≤◌, ◌<◌, ◌^◌}
use native.Mathlib.Omega.{arith}
use lib.IntN.{ℤ}
use lib.ListN.{length}
use mathlib.Core.Path.{◌≡◌, sym, ◌∙◌, ap, subst}
use mathlib.Core.List.{List}
use Rattle.answers.specs.declared.Outcome.{Outcome}
use Rattle.answers.specs.Outcome.{first_refusal}
use Rattle.answers.specs.Lent.{Wrote, filled, unless_refused}
use Rattle.answers.proofs.Lent.{wrote_filled}
use Rattle.answers.proofs.OneToOne.{number-not}
use Rattle.answers.proofs.Rows.{RowsGive, answers, passes}
use Rattle.answers.proofs.Settled.{long_enough, settled}
use Rattle.rules.specs.declared.Grid.{Grid}
use Rattle.rules.specs.declared.board.Board as code
use Rattle.rules.specs.Read.{rules_board}
use Rattle.rules.specs.Record.{record_answer, grid_answer}
use Rattle.rules.specs.Board.{Board, grid_board, board_of}
use Rattle.cnf.specs.Literals.{most_variables}
use Rattle.rules.proofs.Records.{read_grid, read_fits, is_accepted, goes_on, same_board}
use Rattle.encoder.specs.Variables.{variable_count}
use Rattle.encoder.specs.Clauses.{clause_list}
use Rattle.encoder.specs.Encoding.{encoder_grid_rows, encoder_answer, encoder_leaves}
use Rattle.encoder.specs.Bounds.{NotBeyond, BoundedBoard}
use Rattle.answers.proofs.Elements.{all_in, all_at}
use Rattle.encoder.proofs.Bounds.{few_variables, list_not_beyond}
use Rattle.encoder.proofs.Lengths.{short_list}
use Rattle.encoder.proofs.Sizes.{accepted_bounded}
use Rattle.encoder_shapes.specs.Limits.{WithinLimits}
use Rattle.encoder_numbers.proofs.Neighbours.{fits_laws}
use Rattle.encoder_size.specs.declared.Counts.{Counts}
use Rattle.encoder_size.specs.Counts.{counts_of}
use Rattle.encoder_call.specs.declared.EncodeRefusal.{EncodeRefusal}
use Rattle.encoder_call.specs.Answer.{encode_refusal_outcome, counts_outcome, Encodable}
use Rattle.encoder_call.proofs.Outcomes.{encode_numbers}

-- a refusal has a number
pub refused-number : (u : EncodeRefusal) → (encode_refusal_outcome u).number ≡ 0 → ⊥
refused-number u = number-not encode_numbers u (omega arith)

module _ {g : Grid} {s : List ℕ} (w : Encodable g s) where
  abbrev list : List ℤ
  list = clause_list (grid_board g s)

  few : length list < 2 ^ 64
  few = omega (arith, short_list (grid_board g s) w.bounded)

  -- the list can be written from its first place on
  pub list_limits : WithinLimits 0 list
  list_limits =
      let many = few_variables w.bounded in
      record {
        place = omega (arith, few);
        literals =
            all_in (NotBeyond most_variables) list
            (λ l m. let h = all_at (NotBeyond (variable_count (grid_board g s))) (list_not_beyond (grid_board g s) (fits_laws w.record_fits)) m in omega arith);
      }

  -- what the call tells after the reader's rows, and leaves
  abbrev pub GridEnds : List ℤ → Outcome → List ℤ → Type 0
  GridEnds out u new =
      (u ≡ first_refusal (encoder_grid_rows (grid_board g s) out) (counts_outcome (counts_of (grid_board g s))))
      × (new ≡ unless_refused (first_refusal (encoder_grid_rows (grid_board g s) out) (counts_outcome (counts_of (grid_board g s)))) out (filled out list))

  module _ (out : List ℤ) {c : Counts} (e : c ≡ counts_of (grid_board g s)) where
    elements : c.elements ≡ length list
    elements = ap (λ (c : Counts). c.elements) e

    ends : {u : Outcome} {new : List ℤ} → RowsGive (encoder_grid_rows (grid_board g s) out) (counts_outcome (counts_of (grid_board g s))) u
        → new ≡ unless_refused u out (filled out list) → GridEnds out u new
    ends = settled (encoder_grid_rows (grid_board g s) out) (counts_outcome (counts_of (grid_board g s))) out (filled out list)

    pub ends-listed : {new : List ℤ} {r : ℕ} → c.elements ≤ length out → Wrote out 0 list new r → GridEnds out (counts_outcome c) new
    ends-listed l x = let h : length list ≤ length out = omega (arith, elements) in rw e (ends (passes (long_enough (length out) h) answers) (wrote_filled x h))

-- what the reader sees to
pub read_encodable : (s : List ℕ) (g : Grid) → grid_answer g ≡ record_answer s → Encodable g s
read_encodable s g e =
    record {
      record_fits = read_fits s g e;
      bounded = subst (λ g. BoundedBoard (grid_board g s)) (sym (read_grid s g e)) (accepted_bounded s (is_accepted s g e));
    }

-- .. of a board that was read
pub board_encodable : (s : List ℕ) (b : code.Board) → grid_answer b.grid ≡ record_answer s → b.record.now ≡ s → Encodable b.grid b.record.now
board_encodable s b e same = subst (λ r. Encodable b.grid r) (sym same) (read_encodable s b.grid e)

-- the whole call
module _ (s : List ℕ) (out : List ℤ) where
  abbrev Ends : Outcome → List ℤ → Type 0
  Ends u new = (u ≡ encoder_answer s out) × (new ≡ encoder_leaves s out)

  pub ends_grid : (g : Grid) (e : grid_answer g ≡ record_answer s) {u : Outcome} {new : List ℤ} → GridEnds (read_encodable s g e) out u new → Ends u new
  ends_grid g e (a, b) =
      let t = goes_on s g e (λ g. encoder_grid_rows (grid_board g s) out) (counts_outcome (counts_of (board_of s))) in
      let told : Grid → Outcome = (λ g'. first_refusal (encoder_grid_rows (grid_board g s) out) (counts_outcome (counts_of (grid_board g' s)))) in
      let z : told g ≡ encoder_answer s out = ap told (read_grid s g e) ∙ t in
      (a ∙ z, b ∙ (λ i. unless_refused (z i) out (filled out (clause_list (grid_board (read_grid s g e i) s)))))

  pub ends_read : (b : code.Board) (e : grid_answer b.grid ≡ record_answer s) (same : b.record.now ≡ s) {u : Outcome} {new : List ℤ}
      → GridEnds (board_encodable s b e same) out u new → Ends u new
  ends_read b e same (a, l) =
      let told : Board → Outcome = (λ x. first_refusal (encoder_grid_rows x out) (counts_outcome (counts_of x))) in
      let to = same_board s b e same in
      let z : told (rules_board b) ≡ encoder_answer s out =
      ap told to ∙ goes_on s b.grid e (λ g. encoder_grid_rows (board_of s) out) (counts_outcome (counts_of (board_of s))) in
      (a ∙ z, l ∙ (λ i. unless_refused (z i) out (filled out (clause_list (to i)))))
