-- What is true of grids, drawings and the judge, each result in one statement. The proofs stand in the files beside this one.
-- Nothing is assumed but what a statement says.
use Prim.Native.Nat.{ℕ}
use mathlib.Core.Path.{◌≡◌, refl, sym, ◌∙◌, ap}
use mathlib.Core.Bool.{Bool, true, false}
use mathlib.Core.Logic.{◌↔◌, ◌⊎◌}
use lib.ListN.{length}
use Rattle.std.specs.Prelude.{Option, None, Some, Result, Ok, Err}
use mathlib.Core.List.{List}
use Rattle.answers.specs.declared.Outcome.{Outcome}
use Rattle.answers.specs.First.{Least}
use Rattle.answers.specs.Outcome.{refusal, first_refusal}
use Rattle.answers.proofs.Rows.{refusals_append, answered_clear, clear_answered}
use Rattle.rules.specs.declared.Grid.{Grid}
use Rattle.rules.specs.declared.board.Board as code
use Rattle.rules.specs.declared.RecordRefusal.{RecordRefusal}
use Rattle.rules.specs.declared.JudgeRefusal.{JudgeRefusal}
use Rattle.rules.specs.declared.Direction.{Direction}
use Rattle.rules.specs.declared.Direction.TheVariants.{North as north, East as east, South as south, West as west}
use Rattle.rules.specs.declared.Kind.{Kind}
use Rattle.rules.specs.declared.Kind.TheVariants.{One, Two, Three}
use Rattle.rules.specs.Record.{grid_of, puzzle, record_rows, record_answer, IsAccepted, parsed_outcome}
use Rattle.rules.specs.Read.{read_outcome, grid_read}
use Rattle.rules.specs.Board.{Board, board_of, stops_before_clues}
use Rattle.rules.specs.Drawing.{Drawing, white, Links, Solution, SolutionBytes}
use Rattle.rules.specs.Judge.{wrong_byte, clue_not_met, link_unmatched, not_two_links, not_one_loop, judge_rows, judge_answer, says_yes, verdict_outcome}
use Rattle.rules.proofs.Boards.{Wired, Laws, clues_in_order}
use Rattle.rules_theory.specs.Loop.{WholeLoop, Looped}
use Rattle.rules_theory.specs.Places.{FirstUnmet, FirstUnreached}
use Rattle.rules_theory.specs.RecordKinds.{OfKind, OfOtherKind, Accepts, Refuses, SameGrid}
use Rattle.rules.proofs.Records as records
use Rattle.rules.proofs.Outcomes.{readings, verdicts}
use Rattle.answers.proofs.OneToOne.{one_to_one}
use Rattle.rules_theory.proofs.JudgeExact.{clear_links, clear_solution, solution_clear}
use Rattle.rules_theory.proofs.Places.{unmet_place, unreached_place}
use Rattle.rules_theory.proofs.Loop.{first_north, first_east, first_south, first_west}
use Rattle.rules_theory.proofs.Whole as whole
use Rattle.rules_theory.proofs.RecordKinds as kinds

-- An accepted record's board has the laws of a board: a step stays inside and leads back, open cells and lines are on it, and so on.
pub accepted_laws : (s : List ℕ) → IsAccepted s → Laws (board_of s)
accepted_laws = records.accepted_laws

-- The judge says yes exactly of a solution. First of any board with the laws ..
pub judge_right_on : {b : Board} → Laws b → (ds : List ℕ) → first_refusal (judge_rows b ds) says_yes ≡ says_yes ↔ SolutionBytes b ds
judge_right_on {b} law ds = (
  λ e. clear_solution law ds (answered_clear (judge_rows b ds) says_yes refl (ap (λ (t : Outcome). t.number) e)),
  λ S. clear_answered (judge_rows b ds) says_yes (solution_clear law ds S),
)

-- .. and so of an accepted record, whatever numbers are handed in as its drawing.
pub judge_right : (s : List ℕ) → IsAccepted s → (ds : List ℕ) → judge_answer s ds ≡ says_yes ↔ SolutionBytes (board_of s) ds
judge_right s a ds = (λ e. right.0 (sym passed ∙ e), λ S. passed ∙ right.1 S)
  where
    right : first_refusal (judge_rows (board_of s) ds) says_yes ≡ says_yes ↔ SolutionBytes (board_of s) ds
    right = judge_right_on (accepted_laws s a) ds

    -- the record's rows refuse nothing
    passed : judge_answer s ds ≡ first_refusal (judge_rows (board_of s) ds) says_yes
    passed = refusals_append (record_rows s) (judge_rows (board_of s) ds) says_yes ∙ clear_answered (record_rows s) _ (records.accepted_clear s a)

-- What stands beside 12: the cell of the first clue, in cell order, that is not met.
pub clue_place : (s ds : List ℕ) (x : ℕ) → clue_not_met (board_of s) ds ≡ Some x ↔ FirstUnmet (board_of s).clues ds x
clue_place s = unmet_place (board_of s) (clues_in_order (puzzle (grid_of s) s))

-- What stands beside 15, where the drawing has N bytes and 10, 13 and 14 are not the cause: 0 if no cell is white, else the first white cell to which
-- links do not lead from the first white cell.
pub loop_place : (s : List ℕ) → IsAccepted s → (ds : List ℕ) → length ds ≡ (board_of s).size
    → wrong_byte (board_of s) ds ≡ None → link_unmatched (board_of s) ds ≡ None → not_two_links (board_of s) ds ≡ None
    → (x : ℕ) → not_one_loop (board_of s) ds ≡ Some x ↔ FirstUnreached (board_of s) ds x
loop_place s a ds long c10 c13 c14 = let law = accepted_laws s a in unreached_place law ds (clear_links law ds long c10 c13 c14)

-- The first white cell has its links to the east and the south, and none to the north or west.
module _ {size : ℕ} {next : Direction → ℕ → Option ℕ} {white : ℕ → Bool} {link : ℕ → Direction → Bool} {s : ℕ} where
  pub first_links : Wired size next → Links size next white link → Least white size s
      → (link s east ≡ true) × (link s south ≡ true) × (link s north ≡ false) × (link s west ≡ false)
  first_links B L F = (first_east B L F, first_south B L F, first_north B L F, first_west B L F)

-- A solution's links are one loop.
module _ {b : Board} (law : Laws b) {D : Drawing} (sol : Solution b D) where
  -- There is a first white cell.
  pub lead : (s : ℕ) × Least (white b D.black) b.size s
  lead = whole.lead law.wired sol.links sol.whole

  module _ {s : ℕ} (first : Least (white b D.black) b.size s) where
    -- The cells that the walk from it passes are the white cells, each once, each linked to the next one and the last to the first.
    pub walk_whole : WholeLoop b.size b.next (white b D.black) D.link s
    walk_whole = whole.whole_loop law.wired sol.links first (whole.lead_reaches law.wired sol.links sol.whole first)

    -- The walk step by step: eastward at first, back from the south after as many steps as there are white cells.
    pub walk_steps : (m : ℕ) × Looped b.size b.next D.link s m
    walk_steps = whole.looped law.wired sol.links first

-- Document 01's numbers and values tell the answers apart: two verdicts with the same outcome are the same, and so are two grids that were read, or two
-- refusals; of `rules::record::read`, whose boards also have the record's bytes as they were handed in, the same grids and refusals.
pub outcome_one_to_one : ((v w : Result Unit JudgeRefusal) → verdict_outcome v ≡ verdict_outcome w → v ≡ w)
    × ((p q : Result Grid RecordRefusal) → parsed_outcome p ≡ parsed_outcome q → p ≡ q)
    × ((p q : Result code.Board RecordRefusal) → read_outcome p ≡ read_outcome q → grid_read p ≡ grid_read q)
outcome_one_to_one = (one_to_one verdicts, one_to_one readings, reads)
  where
    told : (p : Result code.Board RecordRefusal) → parsed_outcome (grid_read p) ≡ read_outcome p
    told (Ok b) = refl
    told (Err r) = refl

    reads : (p q : Result code.Board RecordRefusal) → read_outcome p ≡ read_outcome q → grid_read p ≡ grid_read q
    reads p q e = one_to_one readings (grid_read p) (grid_read q) (told p ∙ e ∙ sym (told q))

-- What the reader tells of a record, in the documents' words (document 02, E4 and E12). Of a record of each kind: when it is accepted, and refusals 3 to 5;
-- that no other is accepted; and refusal 2.
pub kind_accepts : (k : Kind) → Accepts (kinds.record_kind k)
kind_accepts = kinds.accepts

pub kind_refuses : (k : Kind) → Refuses (kinds.record_kind k)
kind_refuses = kinds.refuses

pub each_kind : (s : List ℕ) → IsAccepted s → (OfKind (kinds.record_kind One) s ⊎ OfKind (kinds.record_kind Two) s) ⊎ OfKind (kinds.record_kind Three) s
each_kind = kinds.each_kind

pub refused_kind : (s : List ℕ) → record_answer s ≡ refusal 2 0 ↔ OfOtherKind s
refused_kind = kinds.refused_kind

-- Records of the same grid have the same board, whatever their kinds, if their lines stop alike.
pub one_form : (s t : List ℕ) → SameGrid s t → stops_before_clues (grid_of s).kind ≡ stops_before_clues (grid_of t).kind → board_of s ≡ board_of t
one_form = kinds.one_form
