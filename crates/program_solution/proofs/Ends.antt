-- How `solve_record` ends: the record refused, and after the solver's call. Assumes nothing.
use Prim.Native.Nat.{ℕ}
use native.Mathlib.Omega.{arith}
use lib.Dec.{eqb, ltb}
use lib.IntN.{pos}
use lib.ListN.{length, replicate}
use borrow.Author.Tests.{eq-eqb, ne_eqb, le-ltb}
use mathlib.Core.Path.{◌≡◌, refl, sym, ◌∙◌, ap}
use mathlib.Core.Bool.{Bool, true, false, cond}
use mathlib.Core.List.{List}
use Rattle.std.specs.Prelude.{Result, Err, Ok}
use Rattle.answers.specs.declared.Outcome.{Outcome}
use Rattle.answers.specs.Outcome.{first_refusal}
use Rattle.answers.specs.Lent.{Wrote, filled}
use Rattle.answers.proofs.Rows.{answered_clear, clear_answered}
use Rattle.rules.specs.declared.board.Board as code
use Rattle.rules.specs.Record.{grid_of, size, most_cells}
use Rattle.rules.specs.Board.{board_of}
use Rattle.rules.proofs.Records.{accepted_fits, clear_accepted, refusal-number}
use Rattle.encoder.specs.Variables.{variable_count}
use Rattle.encoder.specs.Clauses.{clause_list}
use Rattle.search.specs.Trail.{slices}
use Rattle.search.specs.Run.{ending_number, done_outcome}
use Rattle.search.proofs.Endings.{same_ending}
use Rattle.solver.specs.SolverCall.{Lent, room_rows, solver_rows, at_found, written, solver_answer, solver_leaves}
use Rattle.search_call.specs.declared.Ending.{Ending}
use Rattle.search_call.specs.declared.Ending.TheVariants.{Found}
use Rattle.search_call.specs.declared.End.{End}
use Rattle.search_call.specs.Answers.{ending_of}
use Rattle.solver_call.specs.declared.SolveRefusal.{SolveRefusal}
use Rattle.solver_call.specs.declared.SolveRefusal.TheVariants.{Record, TooShort}
use Rattle.solver_call.specs.Answer.{solve_refusal_outcome, solved_outcome}
use Rattle.program_text.specs.Lines.{refused_line}
use Rattle.program_text.specs.Programs.{element_limit, variable_limit, needs_more, program_number, budget, searched, end_text, solution_text}
use Rattle.program_text.proofs.Limits.{limited, unrefused, same_number}
use Rattle.program_solution.specs.Solutions.{solution_drawing, WroteLine, WroteDrawing}
use Rattle.program_solution.proofs.Printing.{text_refused, text_ended}

-- the buffers that are lent to the solver
abbrev lent : List ℕ → Lent
lent ds =
    record {
      list = replicate element_limit (pos 0);
      slices = slices (replicate variable_limit (pos 0)) (replicate variable_limit 0) (replicate variable_limit 0);
      values = replicate variable_limit 0;
      drawing = ds;
    }

-- what the solver's call tells, and leaves of the drawing
pub record Called (s ds : List ℕ) (r : Result End SolveRefusal) (es : List ℕ) : Type 0 where
  pub room : length ds ≡ most_cells
  pub outcome : solved_outcome r ≡ solver_answer s budget (lent ds)
  pub left : es ≡ (solver_leaves s budget (lent ds)).drawing

-- it is called with the board that was read, whose record is the one that was given
pub called : {s read ds : List ℕ} {r : Result End SolveRefusal} {after : Lent} → length ds ≡ most_cells → read ≡ s
    → solved_outcome r ≡ solver_answer read budget (lent ds) → after ≡ solver_leaves read budget (lent ds) → Called s ds r after.drawing
called {ds = ds} room same told leaves =
    record {
      room = room;
      outcome = told ∙ ap (λ s. solver_answer s budget (lent ds)) same;
      left = ap (λ (l : Lent). l.drawing) leaves ∙ ap (λ s. (solver_leaves s budget (lent ds)).drawing) same;
    }

unsolved_number : (u : SolveRefusal) → (solve_refusal_outcome u).number ≡ 0 → ⊥
unsolved_number (Record r) e = refusal-number r e
unsolved_number (TooShort n) e = omega arith

-- the solver's refusal is the program's
same_refusal : (s ds : List ℕ) → length ds ≡ most_cells → (solver_answer s budget (lent ds)).number ≡ program_number s
same_refusal s ds room =
    same_number s (room_rows (board_of s) (lent ds)) (done_outcome (searched (board_of s)))
    (λ c.
    let few = (accepted_fits s (clear_accepted s c)).sides.few in
    by (ltb element_limit (length (clause_list (board_of s)))) refl (ltb variable_limit (variable_count (board_of s))) refl
    (le-ltb (length ds) (size (grid_of s)) (omega arith)))
  where
    by : (l : Bool) → ltb element_limit (length (clause_list (board_of s))) ≡ l → (v : Bool) → ltb variable_limit (variable_count (board_of s)) ≡ v
        → ltb (length ds) (size (grid_of s)) ≡ false
        → (first_refusal (room_rows (board_of s) (lent ds)) (done_outcome (searched (board_of s)))).number ≡ limited (needs_more (board_of s))
    by true h v k n = rw h
    by false h true k n = rw (h, k)
    by false h false k n = rw (h, k, n)

module _ {s ds es : List ℕ} {r : Result End SolveRefusal} (w : Called s ds r es) where
  number_told : (solved_outcome r).number ≡ (solver_answer s budget (lent ds)).number
  number_told = ap (λ (t : Outcome). t.number) w.outcome

  number_is : (solved_outcome r).number ≡ program_number s
  number_is = number_told ∙ same_refusal s ds w.room

  -- what is left of the drawing, by whether the solver answers
  left_by : {b : Bool} → eqb (solver_answer s budget (lent ds)).number 0 ≡ b
      → es ≡ (cond b (written (board_of s) (searched (board_of s)) (lent ds)) (lent ds)).drawing
  left_by e = w.left ∙ ap (λ b. (cond b (written (board_of s) (searched (board_of s)) (lent ds)) (lent ds)).drawing) e

  pub ends-refused : {u : SolveRefusal} {t : Outcome} {bs cs : List ℕ} {n : ℕ} → r ≡ Err u → t ≡ solve_refusal_outcome u
      → Wrote bs 0 (refused_line t.number) cs n → WroteLine s ds bs n es cs
  ends-refused {u} q t wrote =
      let is : (solve_refusal_outcome u).number ≡ (solved_outcome r).number = sym (ap (λ r. (solved_outcome r).number) q) in
      let refused : (solved_outcome r).number ≡ 0 → ⊥ = λ z. unsolved_number u (is ∙ z) in
      record {
        line = _;
        prints = λ text. text_refused s text (ap (λ (t : Outcome). t.number) t ∙ is ∙ number_is) (λ z. refused (number_is ∙ z));
        wrote = wrote;
        kept = left_by (ne_eqb _ 0 (λ z. refused (number_told ∙ z)));
      }

  -- answered: the search ends as told
  module _ {e : End} (q : r ≡ Ok e) {x : Ending} (k : e.ending ≡ x) where
    answered : (solved_outcome r).number ≡ 0
    answered = ap (λ r. (solved_outcome r).number) q

    ending : (searched (board_of s)).ending ≡ ending_of x
    ending =
        let c = answered_clear (solver_rows s (lent ds)) (done_outcome (searched (board_of s))) refl (sym number_told ∙ answered) in
        let a = w.outcome ∙ clear_answered (solver_rows s (lent ds)) (done_outcome (searched (board_of s))) c in
        let said = ap (λ r. (solved_outcome r).first) q ∙ ap (λ (y : Ending). ending_number (ending_of y)) k in
        same_ending (searched (board_of s)).ending (ending_of x) (sym (ap (λ (t : Outcome). t.first) a) ∙ said)

    unrefused_number : program_number s ≡ 0
    unrefused_number = sym number_is ∙ answered

    prints : (text : List ℕ) → solution_text s text ≡ end_text (ending_of x) text
    prints text = text_ended s text unrefused_number ending

    left_at : es ≡ at_found (ending_of x) ds (filled ds (solution_drawing s))
    left_at = left_by (eq-eqb _ 0 (sym number_told ∙ answered)) ∙ ap (λ x. at_found x ds (filled ds (solution_drawing s))) ending

    -- with a line, and the drawing's buffer as it was
    pub ends_unfound : {line bs cs : List ℕ} {n : ℕ} → ((text : List ℕ) → end_text (ending_of x) text ≡ line)
        → ((after : List ℕ) → at_found (ending_of x) ds after ≡ ds) → Wrote bs 0 line cs n → WroteLine s ds bs n es cs
    ends_unfound e kept wrote = record { line = _; prints = λ text. prints text ∙ e text; wrote = wrote; kept = left_at ∙ kept _ }

  pub ends_found : {e : End} {b : code.Board} {bs : List ℕ} → r ≡ Ok e → e.ending ≡ Found → b.grid ≡ grid_of s → b.record.now ≡ s
      → WroteDrawing s ds bs b es bs
  ends_found q k grid same =
      record {
        accepted = (unrefused s (unrefused_number q k)).0;
        prints = prints q k;
        grid = grid;
        same_record = same;
        wrote = left_at q k;
        kept = refl;
      }
