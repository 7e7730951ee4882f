-- Document 02's request E5 holds. What it says stands in specs/RequestE5.antt; what is cited here is proved in rules_theory and encoder. Assumes nothing.
use Prim.Native.Nat.{ℕ}
use lib.ListN.{get_or}
use mathlib.Core.Path.{◌≡◌, refl, sym, ◌∙◌, ap}
use mathlib.Core.Bool.{true}
use Rattle.std.specs.Prelude.{Some}
use Rattle.std.proofs.lemmas.Option.{same_Some}
use mathlib.Core.List.{List, [], ◌∷◌, map}
use Rattle.answers.specs.First.{first_from}
use Rattle.answers.specs.Lists.{All, ◌∈◌}
use Rattle.answers.specs.Outcome.{refusal}
use Rattle.answers.proofs.Bools.{clash}
use Rattle.answers.proofs.Elements.{made_at}
use Rattle.rules.specs.declared.Direction.{Direction}
use Rattle.rules.specs.declared.Kind.TheVariants.{One, Two}
use Rattle.rules.specs.Board.{board_of, outward}
use Rattle.rules.specs.Judge.{judge_answer, says_yes}
use Rattle.rules.specs.Walk.{around, among}
use Rattle.rules_theory.specs.Shaded.{ShadedAt}
use Rattle.rules_theory.proofs.Shaded as shaded
use Rattle.rules_theory.proofs.Theorems as reader
use Rattle.encoder.specs.Variables.{Variable, Z, S, E, Q, T, same, variables, place}
use Rattle.encoder.specs.Clauses.{clauses, clause_list, clue_clauses}
use Rattle.encoder.specs.Decoding.{value_of, drawn_at, drawn_byte, drawn_link, decoded}
use Rattle.encoder.specs.Cases as grids
use Rattle.encoder.proofs.Known.{Known, of_variables}
use Rattle.search.specs.Trail.{trail_of, variable_value}
use Rattle.search.specs.Step.{every_literal, over_clauses, forced_at, failed_clause, forced_place, lowest_unassigned, undo, step}
use Rattle.search.specs.Run.{run}
use Rattle.demands.specs.Stars.{GridStar, GridHolds, grid_case}
use Rattle.demands.specs.RequestE5.{variable_cell, shaded_grids, RequestE5}
use Rattle.demands.proofs.Demands.{demand_1, demand_2, demand_3}
use Rattle.demands.proofs.RequestE1.{request_e1}
use Rattle.demands.proofs.RequestE2.{request_e2}
use Rattle.demands.proofs.RequestE3.{request_e3}
use Rattle.demands.proofs.RequestE4.{to_edge, request_e4}
use Rattle.demands.proofs.Stars.{at_each, computes, claims, none_holds, one_holds, ends_none, stars_hold}

-- the grids, computed
computed : map computes shaded_grids ≡ map claims shaded_grids
unfolding first_from outward same variables place clauses clause_list trail_of variable_value every_literal over_clauses forced_at failed_clause forced_place
    lowest_unassigned undo step run
computed = refl

encoded : map (λ (g : GridStar). grids.encodes g.grid) shaded_grids ≡ map (λ g. g.grid) shaded_grids
unfolding first_from outward same variables place clauses clause_list
encoded = refl

-- the drawing of the last is judged
loop_drawn : judge_answer (grid_case 8).bytes (0x06 ∷ 0x0C ∷ 0x20 ∷ 0x03 ∷ 0x09 ∷ 0x20 ∷ []) ≡ says_yes
unfolding first_from outward around among
loop_drawn = refl

samples : All GridHolds shaded_grids
samples =
    let c = at_each computes claims shaded_grids computed in
    let e = at_each (λ (g : GridStar). grids.encodes g.grid) (λ g. g.grid) shaded_grids encoded in (
      none_holds _ c.0 e.0 tt refl refl,
      (none_holds _ c.1.0 e.1.0 tt refl refl, (one_holds _ c.1.1.0 e.1.1.0 tt refl refl loop_drawn ends_none, tt)),
    )

no-white : judge_answer (grid_case 6).bytes (0x20 ∷ []) ≡ refusal 15 0
unfolding first_from outward around among
no-white = refl

module _ (s : List ℕ) (x : ℕ) (h : ShadedAt s x) where
  not_this : (y : ℕ) → (board_of s).is_open y ≡ true → y ≡ x → ⊥
  not_this y o e = clash (ap (board_of s).is_open (sym e) ∙ o) (shaded.shut s x h)

  no_variable : (v : Variable) → v ∈ variables (board_of s) → variable_cell v ≡ x → ⊥
  no_variable v m e = by v (of_variables (board_of s) v m) e
    where
      by : (v : Variable) → Known (board_of s) v → variable_cell v ≡ x → ⊥
      by (Z y) o e = not_this y o e
      by (S y) o e = not_this y o e
      by (E y d) k e = not_this y k.0 e
      by (Q y k) o e = not_this y o.0 e
      by (T y j t) k e = shaded.no_clue s x h k.0 k.1 (k.2 ∙ e)

  none_to : (y : ℕ) (d : Direction) → (board_of s).next d y ≡ Some x → E y d ∈ variables (board_of s) → ⊥
  none_to y d e m =
      let (o, (z, next, opened)) = of_variables (board_of s) (E y d) m in
      not_this z opened (same_Some z x (sym next ∙ e))

  decoded_byte : (values : List ℕ) → get_or (decoded (board_of s) values) x 0 ≡ 0x20
  decoded_byte values =
      let b = board_of s in
      let w = value_of b values in
      made_at (drawn_at b w) 0 b.size x h.inside ∙ ap (λ t. drawn_byte t (w (Z x)) (drawn_link b w x)) (shaded.shut s x h)

pub request_e5 : RequestE5
request_e5 =
    record {
      not-black = shaded.not-black;
      no_link = shaded.no_link;
      off_loop = shaded.off_loop;
      no_clue = shaded.no_clue;
      code_one = shaded.shaded_exactly One;
      code_two = shaded.shaded_exactly Two;
      no_other_one = shaded.no_other One;
      no_other_two = shaded.no_other Two;
      solution_byte = shaded.solution_byte;
      decoded_byte = decoded_byte;
      judged_byte = shaded.judged_byte;
      no_variable = no_variable;
      none_to = none_to;
      same_clues = λ s t x d n h k. shaded.same_clues s t x d n h (to_edge s k);
      same_clauses = λ s t x d n h c. ap (λ is_open. clue_clauses is_open c) (shaded.same_open s t x d n h);
      same_solutions = λ s t x d n h k. shaded.same_solutions s t x d n h (to_edge s k);
      sorts_one = (reader.kind_accepts One).cells;
      sorts_two = (reader.kind_accepts Two).cells;
      samples = samples;
      no-white = no-white;
      not_open = shaded.not_open;
      earlier = record {
        demand_1 = demand_1;
        demand_2 = demand_2;
        demand_3 = demand_3;
        request_e1 = request_e1;
        request_e2 = request_e2;
        request_e3 = request_e3;
        request_e4 = request_e4;
        starred = stars_hold;
      };
    }
