-- The starred cases of document 01 hold, as one statement over the list of them. All is computed but the number of a grid's solutions, which follows from
-- the computed calls of the search and of `next`, and from E1. Assumes nothing.
use Prim.Native.Nat.{ℕ}
use lib.IntN.{ℤ, pos}
use lib.ListN.{get_or, drop, replicate, length-replicate}
use mathlib.Core.Path.{◌≡◌, refl, sym, ◌∙◌, ap, subst}
use Rattle.std.specs.Prelude.{Some as some}
use mathlib.Core.List.Memᴰ
use mathlib.Core.List.{List, [], ◌∷◌, ◌++◌, map}
use Rattle.answers.specs.declared.Outcome.{Outcome}
use Rattle.answers.specs.Outcome.{answer}
use Rattle.answers.specs.First.{first_from}
use Rattle.answers.specs.Lists.{All}
use Rattle.rules.specs.Record.{record_answer}
use Rattle.rules.specs.Board.{board_of, outward}
use Rattle.rules.specs.Solutions.{Solutions}
use Rattle.rules.specs.Walk.{around, among}
use Rattle.rules.specs.Judge.{judge_answer, says_yes}
use Rattle.rules_theory.proofs.Theorems.{judge_right}
use Rattle.rules_theory.specs.Cases as records
use Rattle.rules_theory.proofs.Cases.{reader_cases_hold}
use Rattle.text.specs.Decimal.{decimal_in}
use Rattle.dimacs.specs.Text.{lines}
use Rattle.encoder.specs.Variables.{same, variables, variable_count, place}
use Rattle.encoder.specs.Clauses.{clauses, clause_list}
use Rattle.encoder.specs.Cases as grids
use Rattle.encoder.proofs.Cases.{cases_hold}
use Rattle.answers.proofs.Elements.{all_append}
use Rattle.search.specs.Trail.{trail_of, variable_value}
use Rattle.search.specs.Step.{every_literal, over_clauses, forced_at, failed_clause, forced_place, lowest_unassigned, undo, step}
use Rattle.search.specs.Run.{None, ending_number, run, following}
use Rattle.search.specs.Call.{Search, Handed, search_on, Searching, by_search}
use Rattle.search.specs.Cases as lists
use Rattle.search.proofs.Cases.{cases_hold as lists-hold}
use Rattle.search_theory.specs.Listing.{none}
use Rattle.dimacs.specs.Sample.{one_cell_text}
use Rattle.search_theory.proofs.Handed.{taken_answered, ends-at}
use Rattle.solver.specs.Begun.{BegunOn}
use Rattle.solver.proofs.Begun.{begun_taken, next_hands, then_none, lists_solutions}
use Rattle.demands.specs.Stars.{GridStar, TextIs, search_of, GridHolds, grid, refused, list, Holds, grid_case, grid_stars, stars}

-- lists that were computed whole, case by case
pub at_each : {A B : Type 0} (f g : A → B) (cs : List A) → map f cs ≡ map g cs → All (λ c. f c ≡ g c) cs
at_each f g [] e = tt
at_each f g (c ∷ cs) e = (ap (λ l. get_or l 0 (f c)) e, at_each f g cs (ap (drop 1) e))

-- what is computed of a grid, and what it is to come to
pub record Facts : Type 0 where
  number : ℕ
  variables : ℕ
  clauses : List ℤ
  says : Outcome

abbrev pub computes : GridStar → Facts
computes g =
    record {
      number = (record_answer g.grid.bytes).number;
      variables = variable_count (board_of g.grid.bytes);
      clauses = clause_list (board_of g.grid.bytes);
      says = lists.from_empty (search_of g);
    }

abbrev pub claims : GridStar → Facts
claims g = record { number = 0; variables = g.grid.outcome.second; clauses = g.grid.list; says = g.says }

computed : map computes grid_stars ≡ map claims grid_stars
unfolding first_from outward same variables place clauses clause_list trail_of variable_value every_literal over_clauses forced_at failed_clause forced_place
    lowest_unassigned undo step run
computed = refl

-- 2×2 open: after "found" comes "none"
pub ends_none : (following 32 (grid_case 4).list 1000000 (run 32 (grid_case 4).list 1000000 []).trail).ending ≡ None
unfolding first_from variable_value every_literal over_clauses forced_at failed_clause forced_place lowest_unassigned undo step run following
ends_none = refl

-- and the drawing that program 2 prints is judged
square_drawn : judge_answer (grid_case 4).bytes (0x06 ∷ 0x0C ∷ 0x03 ∷ 0x09 ∷ []) ≡ says_yes
unfolding first_from outward around among
square_drawn = refl

-- the text of 1×1 open
pub printed_text : TextIs 3 (grid_case 0).list (some one_cell_text)
unfolding decimal_in lines
printed_text = refl

-- the search begun empty on its clauses
abbrev begun : GridStar → Search
begun g = let v : ℕ = g.grid.outcome.second in search_on v g.grid.list (replicate v (pos 0)) (replicate v 0) (replicate v 0) 0

-- what is computed of a grid, with the number of its solutions
module _ (g : GridStar) (e : computes g ≡ claims g) (encoded : grids.encodes g.grid ≡ g.grid)
    (text : TextIs g.grid.outcome.second g.grid.list g.text) where
  begun_on : BegunOn g.grid.bytes (begun g)
  begun_on =
      record {
        grid = ap (λ (f : Facts). f.number) e;
        variables = sym (ap (λ (f : Facts). f.variables) e);
        list = sym (ap (λ (f : Facts). f.clauses) e);
        empty = refl;
        slices =
            let v : ℕ = g.grid.outcome.second in
            record { trail = length-replicate v (pos 0); marks = length-replicate v 0; numbers = length-replicate v 0 };
      }

  says : (by_search (begun g) 1000000).outcome ≡ g.says
  says = ap (λ (f : Facts). f.says) e

  holds : {dss : List (List ℕ)} → dss ≡ g.solutions → Solutions (board_of g.grid.bytes) dss → GridHolds g
  holds q s =
      record {
        accepted = begun_on.grid;
        encoded = encoded;
        solutions = subst (Solutions (board_of g.grid.bytes)) q s;
        searched = says;
        printed = text;
      }

  pub none_holds : {n u : ℕ} → g.says ≡ answer 2 n u → [] ≡ g.solutions → GridHolds g
  none_holds h q =
      let answered = (taken_answered Searching (begun g) 1000000).0 (begun_taken g.grid.bytes (begun g) begun_on) in
      holds q (lists_solutions g.grid.bytes (begun g) begun_on [] (none 1000000 (answered, ap (λ (t : Outcome). t.first) (says ∙ h))))

  pub one_holds : {ds : List ℕ} → g.says.first ≡ 1 → ds ∷ [] ≡ g.solutions → judge_answer g.grid.bytes ds ≡ says_yes
      → (following g.grid.outcome.second g.grid.list 1000000 (run g.grid.outcome.second g.grid.list 1000000 []).trail).ending ≡ None
      → GridHolds g
  unfolding trail_of
  one_holds {ds} n q judged last =
      let v : ℕ = g.grid.outcome.second in
      let found = ap (λ (t : Outcome). t.first) says ∙ n in
      let ends = ap (λ t. (following v g.grid.list 1000000 t).ending) (ends-at (begun_taken g.grid.bytes (begun g) begun_on) 1000000) ∙ last in
      let hands = next_hands g.grid.bytes (begun g) begun_on 1000000 found 1000000 in
      let o = then_none g.grid.bytes (begun g) begun_on 1000000 found 1000000 (ap (λ (h : Handed). h.outcome.first) hands ∙ ap ending_number ends) in
      let S = (judge_right g.grid.bytes begun_on.grid ds).0 judged in
      holds q (record {
        apart = (λ y m e. Memᴰ.not-nil m, tt);
        each = (S, tt);
        all = λ es R. Memᴰ.head (o.only es R ∙ sym (o.only ds S));
      })

grids_hold : All GridHolds grid_stars
grids_hold = by (at_each computes claims grid_stars computed) (at_each grids.encodes (λ g. g) grids.cases cases_hold)
  where
    by : All (λ g. computes g ≡ claims g) grid_stars → All (λ g. grids.encodes g ≡ g) grids.cases → All GridHolds grid_stars
    by c e = (
      none_holds _ c.0 e.0 printed_text refl refl,
      (
        none_holds _ c.1.0 e.1.0 tt refl refl,
        (
          none_holds _ c.1.1.0 e.1.1.0 tt refl refl,
          (
            none_holds _ c.1.1.1.0 e.1.1.1.0 tt refl refl,
            (
              one_holds _ c.1.1.1.1.0 e.1.1.1.1.0 tt refl refl square_drawn ends_none,
              tt,
            ),
          ),
        ),
      ),
    )

pub stars_hold : All Holds stars
stars_hold =
    all_append Holds (map grid grid_stars) (map refused records.reader_cases ++ map list lists.cases) grids_hold
    (all_append Holds (map refused records.reader_cases) (map list lists.cases)
    (at_each (λ (c : records.ReaderCase). record_answer c.bytes) (λ c. c.says) records.reader_cases reader_cases_hold)
    (at_each lists.from_empty (λ c. c.says) lists.cases lists-hold))
