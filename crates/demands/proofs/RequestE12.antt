-- Document 02's request E12 holds. What it says stands in specs/RequestE12.antt; what is cited here is proved in rules, rules_theory and encoder_theory.
-- Assumes nothing.
use Prim.Native.Nat.{ℕ, ◌<◌}
use native.Mathlib.Omega.{arith}
use mathlib.Core.Path.{◌≡◌, refl, sym, ◌∙◌, subst}
use mathlib.Core.Logic.{◌↔◌}
use mathlib.Core.List.{List, map}
use Rattle.answers.specs.First.{first_from}
use Rattle.answers.specs.Lists.{All, ◌∈◌}
use Rattle.answers.specs.Outcome.{refusal}
use Rattle.rules.specs.declared.Direction.{Direction}
use Rattle.rules.specs.declared.Cell.TheVariants.{Clue as Clued}
use Rattle.rules.specs.declared.Kind.TheVariants.{Three}
use Rattle.rules.specs.Record.{grid_of, size, puzzle, grid_cell, IsAccepted}
use Rattle.rules.specs.Board.{Clue, Board, outward, board_of}
use Rattle.rules.specs.Drawing.{SolutionBytes}
use Rattle.rules.specs.Judge.{judge_answer, says_yes}
use Rattle.rules.specs.Walk.{around, among}
use Rattle.rules.proofs.Boards.{Laws}
use Rattle.rules.proofs.Records.{puzzle-filled, accepted_laws}
use Rattle.rules_theory.proofs.RecordKinds.{stops_of}
use Rattle.rules_theory.proofs.Clues.{of_clues, in_clues}
use Rattle.rules_theory.proofs.Lines as lines
use Rattle.rules_theory.proofs.Shaded.{not-both, shaded_exactly}
use Rattle.rules_theory.proofs.Theorems as reader
use Rattle.encoder.specs.Variables.{same, variables, place}
use Rattle.encoder.specs.Clauses.{clauses, clause_list}
use Rattle.encoder.specs.Cases as grids
use Rattle.encoder_theory.proofs.Decoder.{decoded_is}
use Rattle.encoder_theory.proofs.Exactly as exactly
use Rattle.search.specs.Trail.{trail_of, variable_value}
use Rattle.search.specs.Step.{every_literal, over_clauses, forced_at, failed_clause, forced_place, lowest_unassigned, undo, step}
use Rattle.search.specs.Run.{run}
use Rattle.demands.specs.Stars.{GridStar, GridHolds}
use Rattle.demands.specs.RequestE12.{line_of, GivenClues, with_clues, Matched, kind_three_grids, two_clues, black_beyond, RequestE12}
use Rattle.demands.proofs.RequestE3.{request_e3}
use Rattle.demands.proofs.RequestE4.{to_edge}
use Rattle.demands.proofs.Stars.{at_each, computes, claims, none_holds}

-- a board whose clues are given
module _ {b : Board} (law : Laws b) where
  matched : Matched b
  matched =
      record {
        decodes = λ a h. subst (SolutionBytes b) (sym (decoded_is b a)) (exactly.draws_solution b law a h.gives h.satisfies);
        comes_from_one = λ ds S. (
          exactly.the b law ds S,
          record { gives = exactly.the_long b law ds S; satisfies = exactly.the_satisfies b law ds S },
          decoded_is b (exactly.the b law ds S) ∙ exactly.the_draws b law ds S,
          λ c h e. exactly.the_only b law ds S c h.gives h.satisfies (sym (decoded_is b c) ∙ e),
        );
      }

module _ (s : List ℕ) (acc : IsAccepted s) where
  one_argument : (cs : List Clue) → GivenClues (board_of s) cs → Matched (with_clues (board_of s) cs)
  one_argument cs given =
      let law = accepted_laws s acc in
      matched (record { wired = law.wired; open_stays = law.open_stays; clues_apart = given.apart; clue_stays = given.inside })

  each_rule : GivenClues (board_of s) (board_of s).clues × Matched (board_of s)
  each_rule =
      let law = accepted_laws s acc in
      let given : GivenClues (board_of s) (board_of s).clues = record { apart = law.clues_apart; inside = law.clue_stays } in
      (given, one_argument (board_of s).clues given)

clues : (s : List ℕ) (c : Clue) → c ∈ (board_of s).clues
    ↔ (c.cell < size (grid_of s)) × ((d : Direction) × (grid_cell s c.cell ≡ Clued d c.number) × (c.line ≡ line_of s d c.cell))
clues s c =
    let p = puzzle (grid_of s) s in
    let f = puzzle-filled (grid_of s) s in (
      λ m. let k = of_clues p c m in let w = k.within in (omega arith, (k.direction, k.read, k.along)),
      λ (l, (d, read, along)). in_clues p c (record { direction = d; within = omega arith; read = read; along = along }),
    )

-- the grids, computed
computed : map computes kind_three_grids ≡ map claims kind_three_grids
unfolding first_from outward same variables place clauses clause_list trail_of variable_value every_literal over_clauses forced_at failed_clause forced_place
    lowest_unassigned undo step run
computed = refl

encoded : map (λ (g : GridStar). grids.encodes g.grid) kind_three_grids ≡ map (λ g. g.grid) kind_three_grids
unfolding first_from outward same variables place clauses clause_list
encoded = refl

samples : All GridHolds kind_three_grids
samples =
    let c = at_each computes claims kind_three_grids computed in
    let e = at_each (λ (g : GridStar). grids.encodes g.grid) (λ g. g.grid) kind_three_grids encoded in
    (none_holds _ c.0 e.0 tt refl refl, (none_holds _ c.1.0 e.1.0 tt refl refl, tt))

judged_one : judge_answer (two_clues 1) black_beyond ≡ refusal 12 0
unfolding first_from outward around among
judged_one = refl

judged_three : judge_answer (two_clues 3) black_beyond ≡ says_yes
unfolding first_from outward around among
judged_three = refl

pub request_e12 : RequestE12
request_e12 =
    record {
      old_reading = λ s k d x. lines.line_to_edge (puzzle (grid_of s) s) (to_edge s k) d x;
      kind-three = reader.kind_accepts Three;
      three_refused = reader.kind_refuses Three;
      shaded-code = shaded_exactly Three;
      stop = λ s k d x. lines.line_before_clue (puzzle (grid_of s) s) (stops_of Three s k) d x;
      next_to_clue = λ s k d x y e c. lines.line_empty (puzzle (grid_of s) s) (stops_of Three s k) d x y e c;
      counting = request_e3;
      not_shaded = λ s k d x h j y l e t. lines.goes_on_past (puzzle (grid_of s) s) d x h j y l e (λ c. not-both t.shaded c.2);
      other_kind = reader.refused_kind;
      each_kind = reader.each_kind;
      clues = clues;
      tallied = λ s q. refl;
      one_argument = one_argument;
      each_rule = each_rule;
      samples = samples;
      judged_one = judged_one;
      judged_three = judged_three;
    }
