-- How the call ends: what it tells and what it leaves in the lent buffer. Assumes nothing.
use Prim.Native.Nat.{ℕ, zero, suc, ◌≤◌, ◌<◌}
use native.Mathlib.Omega.{arith}
use borrow.Author.Tests.{eqb-true, not-false}
use lib.Ieee.Positive.{first_pos}
use lib.ListN.{length}
use mathlib.Core.Path.{◌≡◌, refl, sym, ◌∙◌, ap, subst}
use Rattle.std.specs.Prelude.{None}
use Rattle.answers.proofs.Options.{some-none}
use mathlib.Core.List.{List, [], ◌∷◌}
use Rattle.answers.specs.declared.Outcome.{Outcome}
use Rattle.answers.specs.First.{first_where, first_from}
use Rattle.answers.specs.Outcome.{Row, row, refusal, answer, first_refusal}
use Rattle.answers.specs.Lent.{Wrote, too_short, filled, unless_refused}
use Rattle.answers.proofs.Lent.{wrote_filled}
use Rattle.answers.proofs.Rows.{RowsGive, answers, refuses, passes, rows_give, refusals_append, Clear, answered_clear, clear_answered, no-cause}
use Rattle.answers.proofs.Settled.{short_by, long_enough, untouched, settles}
use Rattle.rules.specs.declared.Grid.{Grid}
use Rattle.rules.specs.declared.board.Board as code
use Rattle.rules.specs.declared.RecordRefusal.{RecordRefusal}
use Rattle.rules.specs.Record.{puzzle, grid_of, size, Sides, record_answer, record_refusal_outcome, grid_answer}
use Rattle.rules.specs.Board.{Board, grid_board}
use Rattle.rules.specs.Judge.{white_at, off_loop_at, from_first, not_one_loop, judge_rows, says_yes}
use Rattle.rules.proofs.Records.{refusal-number, passes_up, read_grid, goes_on}
use Rattle.sheet.specs.Sheet.{sheet_text, sheet_bytes, sheet_of}
use Rattle.sheet.specs.SheetCall.{sheet_grid_rows, sheet_answer, sheet_leaves}
use Rattle.sheet.proofs.Widths.{sheet_length}
use Rattle.sheet_call.proofs.LineParts.{sheet_small}

-- 1. A drawing that the judge agrees with

-- a board with one loop has a cell, so it has a row
some_cell : (b : Board) (ds : List ℕ) → not_one_loop b ds ≡ None → 0 < b.size
unfolding first_from
some_cell b ds e = by b.size e
  where
    by : (n : ℕ) → from_first (first_where (white_at b ds) n) (λ s. first_where (off_loop_at b ds s) n) ≡ None → 0 < n
    by zero e = absurd (some-none 0 e)
    by (suc n) e = omega arith

pub record Agreed (g : Grid) (s ds : List ℕ) : Type 0 where
  pub clear : Clear (judge_rows (grid_board g s) ds)
  pub drawn : length ds ≡ size g
  pub tall : 0 < g.rows

pub agreed : (g : Grid) (s ds : List ℕ) → says_yes ≡ first_refusal (judge_rows (grid_board g s) ds) says_yes → Agreed g s ds
agreed g s ds e =
    let c = answered_clear (judge_rows (grid_board g s) ds) says_yes refl (ap (λ (t : Outcome). t.number) (sym e)) in
    let (c7, (c10, (c11, (c12, (c13, (c14, (c15, z))))))) = c in
    record {
      clear = c;
      drawn = eqb-true _ _ (not-false _ (no-cause _ c7));
      tall = first_pos g.rows g.columns (some_cell (grid_board g s) ds c15);
    }

-- 2. After the reader's rows

module _ (g : Grid) (s ds out : List ℕ) where
  abbrev text : List ℕ
  text = sheet_text (puzzle g s) ds

  abbrev told : Outcome
  told = first_refusal (sheet_grid_rows g s ds out) (answer (length text) 0 0)

  -- row 6
  abbrev room : List Row
  room = row 6 (too_short (length out) (length text)) ∷ []

  abbrev pub GridEnds : Outcome → List ℕ → Type 0
  GridEnds u new = (u ≡ told) × (new ≡ unless_refused told out (filled out text))

  -- the judge agrees: it is left to row 6
  module _ (a : Agreed g s ds) (h : Sides g) {n : ℕ} (e : n ≡ sheet_bytes g) where
    left : {u : Outcome} → RowsGive room (answer (length text) 0 0) u → u ≡ told
    left r = rows_give r ∙ sym (refusals_append (judge_rows (grid_board g s) ds) room _ ∙ clear_answered (judge_rows (grid_board g s) ds) _ a.clear)

    needed : length text ≡ n
    needed = sheet_length g s ds ∙ sym e

    pub ends_short : length out < n → GridEnds (refusal 6 n) out
    ends_short l =
        settles out (filled out text)
        (ap (refusal 6) (sym needed) ∙ left (refuses (short_by (length out) (omega (arith, needed)) (omega (arith, needed, sheet_small h))))) refl

    pub ends-written : {new : List ℕ} {r : ℕ} → n ≤ length out → Wrote out 0 text new r → GridEnds (answer r 0 0) new
    ends-written {r = r} l w =
        let fits : length text ≤ length out = omega (arith, needed) in
        let all : r ≡ length text = omega (arith, w.place) in
        rw all (settles out (filled out text) (left (passes (long_enough (length out) fits) answers)) (wrote_filled w fits))

-- 3. The whole call

module _ (s ds out : List ℕ) where
  abbrev Ends : Outcome → List ℕ → Type 0
  Ends u new = (u ≡ sheet_answer s ds out) × (new ≡ sheet_leaves s ds out)

  pub ends-refused : (r : RecordRefusal) → record_refusal_outcome r ≡ record_answer s → Ends (record_refusal_outcome r) out
  ends-refused r e =
      settles out (filled out (sheet_of s ds)) (passes_up s (sheet_grid_rows (grid_of s) s ds out) _ r e)
      (sym (untouched (record_refusal_outcome r) out (filled out (sheet_of s ds)) (refusal-number r)))

  pub ends_read : (b : code.Board) → grid_answer b.grid ≡ record_answer s → b.record.now ≡ s → {u : Outcome} {new : List ℕ}
      → GridEnds b.grid b.record.now ds out u new → Ends u new
  ends_read b e same {u} {new} w =
      let (a, l) = subst (λ g. GridEnds g s ds out u new) (read_grid s b.grid e) (subst (λ r. GridEnds b.grid r ds out u new) same w) in
      let t = goes_on s b.grid e (λ g. sheet_grid_rows (grid_of s) s ds out) (answer (length (sheet_of s ds)) 0 0) in
      (a ∙ t, l ∙ ap (λ u. unless_refused u out (filled out (sheet_of s ds))) t)
