-- How the call ends: what it tells and what it leaves in the six buffers. Assumes nothing.
use Prim.Native.Nat.{ℕ}
use native.Mathlib.Omega.{arith}
use lib.IntN.{ℤ}
use mathlib.Core.Path.{◌≡◌, refl, sym, ◌∙◌, ap}
use mathlib.Core.List.{List}
use Rattle.answers.specs.declared.Outcome.{Outcome}
use Rattle.answers.specs.Outcome.{refusal, first_refusal}
use Rattle.answers.specs.Lent.{unless_refused}
use Rattle.answers.proofs.Rows.{Clear, answered_clear, clear_answered, refusals_append}
use Rattle.answers.proofs.Settled.{untouched, enough}
use Rattle.rules.specs.declared.Grid.{Grid}
use Rattle.rules.specs.Record.{record_rows, record_answer, grid_answer, size}
use Rattle.rules.specs.Board.{grid_board, board_of}
use Rattle.rules.proofs.Records.{accepted_clear, is_accepted, read_grid}
use Rattle.encoder.specs.Encoding.{encoder_leaves}
use Rattle.encoder_size.specs.declared.Counts.{Counts}
use Rattle.encoder_size.specs.Counts.{counts_of}
use Rattle.encoder_call.proofs.Ends.{GridEnds, read_encodable, ends_grid}
use Rattle.search.specs.Trail.{Slices}
use Rattle.search.specs.Run.{Done, done_outcome}
use Rattle.search_call.specs.declared.End.{End}
use Rattle.search_call.specs.Answers.{end_outcome}
use Rattle.solver.specs.SolverCall.{Lent, solved, room_rows, solver_answer, written, solver_leaves}
use Rattle.solver.proofs.Encoded.{list_filled, list_clauses, list_long}
use Rattle.solver_call.specs.declared.Needs.{Needs}
use Rattle.solver_call.specs.Room.{needs_of, short_rows}
use Rattle.solver_call.specs.GridSearch.{Fits, Ends}

module _ (s : List ℕ) (budget : ℕ) (lent : Lent) where
  abbrev done : Done
  done = solved (board_of s) budget

  abbrev CallEnds : Outcome → Lent → Type 0
  CallEnds u left = (u ≡ solver_answer s budget lent) × (left ≡ solver_leaves s budget lent)

  turned : {u : Outcome} → (u.number ≡ 0 → ⊥) → u ≡ solver_answer s budget lent → CallEnds u lent
  turned n e = (e, sym (untouched (solver_answer s budget lent) lent (written (board_of s) done lent) (λ z. n (ap (λ (t : Outcome). t.number) e ∙ z))))

  -- it is read, and room is sought
  module _ (g : Grid) (e : grid_answer g ≡ record_answer s) {counts : Counts} (counted : counts ≡ counts_of (grid_board g s)) {n : ℕ} (sized : n ≡ size g) where
    abbrev needed : Needs
    needed = record { elements = counts.elements; variables = counts.variables; cells = n }

    needed_is : record { elements = counts.elements; variables = counts.variables; cells = n } ≡ needs_of (board_of s)
    needed_is =
        (λ i. record { elements = (counted i).elements; variables = (counted i).variables; cells = sized i })
        ∙ ap (λ g. needs_of (grid_board g s)) (read_grid s g e)

    -- the rows of 6 are the grid's, and the call is left to these after the reader's
    room : (t : Outcome) → first_refusal (short_rows lent needed) t ≡ first_refusal (room_rows (board_of s) lent) t
    room t = ap (λ z. first_refusal (short_rows lent z) t) needed_is

    goes : first_refusal (short_rows lent needed) (done_outcome done) ≡ solver_answer s budget lent
    goes =
        room (done_outcome done)
        ∙ sym (refusals_append (record_rows s) (room_rows (board_of s) lent) (done_outcome done)
        ∙ clear_answered (record_rows s) _ (accepted_clear s (is_accepted s g e)))

    pub ends_short : {k : ℕ} → ((t : Outcome) → refusal 6 k ≡ first_refusal (short_rows lent needed) t) → CallEnds (refusal 6 k) lent
    ends_short says = turned (λ z. omega arith) (says _ ∙ goes)

    -- there is room, and the encoder writes the list
    module _ (says : (t : Outcome) → t ≡ first_refusal (short_rows lent needed) t) {u : Outcome} {ls : List ℤ}
        (gives : GridEnds (read_encodable s g e) lent.list u ls) where
      clear : Clear (room_rows (board_of s) lent)
      clear = answered_clear (room_rows (board_of s) lent) (done_outcome done) refl (sym (ap (λ (t : Outcome). t.number) (says _ ∙ room _)))

      wrote : ls ≡ encoder_leaves s lent.list
      wrote = (ends_grid s lent.list g e gives).1

      pub fits : Fits g s needed ls lent.slices lent.values lent.drawing
      fits =
          let (c1, (c2, (c3, (c4, (c5, (c6, c)))))) = clear in
          rw needed_is (record {
            read = e;
            needs = refl;
            clauses = list_clauses s (is_accepted s g e) lent.list c1 wrote refl;
            list = list_long s (is_accepted s g e) lent.list c1 wrote;
            trail = enough _ c2;
            marks = enough _ c3;
            numbers = enough _ c4;
            values = enough _ c5;
            drawing = enough _ c6;
          })

      pub ends-solved : {x : End} {after : Slices} {ws es : List ℕ} → Ends s budget lent.slices lent.values lent.drawing x after ws es
          → CallEnds (end_outcome x) (record { list = ls; slices = after; values = ws; drawing = es })
      ends-solved {after = after} {ws} {es} h =
          let outcome = says _ ∙ goes in
          let encoded = list_filled s (is_accepted s g e) lent.list clear.0 wrote in
          let left : record { list = ls; slices = after; values = ws; drawing = es } ≡ written (board_of s) done lent =
          (λ i. record { list = encoded i; slices = h.slices i; values = h.values i; drawing = h.drawing i }) in
          (h.outcome ∙ outcome, left ∙ ap (λ t. unless_refused t lent (written (board_of s) done lent)) outcome)
