-- Document 02's request E11 holds. What it says stands in specs/RequestE11.antt; what is cited here is proved in solver and rules_theory. Assumes nothing.
use Prim.Native.Nat.{ℕ, ◌≤◌, ◌<◌}
use lib.Dec.{eqb}
use lib.ListN.{length, drop}
use lib.Seq.{length-take-le}
use borrow.Author.Tests.{eqb-true, eq-eqb}
use mathlib.Core.Path.{◌≡◌, refl, sym, ◌∙◌, ap, subst}
use mathlib.Core.Bool.{Bool, true, false}
use mathlib.Core.Logic.{◌↔◌}
use mathlib.Core.List.{List, ◌++◌}
use Rattle.answers.specs.Lists.{how_many, keep}
use Rattle.answers.proofs.Lent.{past_filled}
use Rattle.answers.proofs.Elements.{all_in, all_at, in_keep, of_keep, apart_keep}
use Rattle.answers.proofs.Lists.{many_length, many_kept}
use Rattle.rules.specs.declared.Cell.TheVariants.{Shaded}
use Rattle.rules.specs.declared.Grid.{Grid}
use Rattle.rules.specs.Record.{grid_of, grid_cell, size, puzzle, direction_of, IsAccepted}
use Rattle.rules.specs.Board.{Board, stops_before_clues, board_of, line}
use Rattle.rules.specs.Drawing.{SolutionBytes, black_at}
use Rattle.rules.specs.Solutions.{Solutions}
use Rattle.rules_theory.specs.Shaded.{ClueShaded}
use Rattle.rules_theory.proofs.Shaded as shaded
use Rattle.encoder.specs.Variables.{variable_count}
use Rattle.encoder.specs.Clauses.{clause_list}
use Rattle.encoder.specs.Encoding.{encoder_leaves}
use Rattle.search.specs.Trail.{Slices}
use Rattle.search.specs.Run.{None}
use Rattle.search.specs.Call.{Search, Searching}
use Rattle.solver.specs.Begun.{BegunOn}
use Rattle.solver.specs.Listing.{Carries}
use Rattle.solver.specs.Tally.{Asked, asked_line, TallyLent, tally_answer, tally_leaves}
use Rattle.solver.proofs.Begun.{begun_taken, lists_solutions, zeros, zeros_begun, some_list}
use Rattle.solver.proofs.Encoded.{list_filled}
use Rattle.solver.proofs.Listing.{carries_long}
use Rattle.solver.proofs.Tally as tally
use Rattle.demands.proofs.TallyCases.{tally_cases_hold}
use Rattle.demands.specs.RequestE4.{EitherKind}
use Rattle.demands.proofs.RequestE4.{to_edge}
use Rattle.demands.specs.RequestE11.{Answered, Tells, counter, ListedBy, begun_in, Past, RequestE11}

-- those that pass a test are the solutions of another grid
passing : {b c : Board} (p : List ℕ → Bool) {dss : List (List ℕ)} → ((ds : List ℕ) → SolutionBytes c ds ↔ SolutionBytes b ds × (p ds ≡ true))
    → Solutions b dss → Solutions c (keep p dss)
passing {b} {c} p {dss} same S =
    record {
      apart = apart_keep p dss S.apart;
      each = all_in (SolutionBytes c) (keep p dss) (λ ds m. let (k, t) = of_keep p dss m in (same ds).1 (all_at (SolutionBytes b) S.each k, t));
      all = λ ds k. let (h, t) = (same ds).0 k in in_keep p (S.all ds h) t;
    }

module _ (s : List ℕ) (q : Asked) (budget : ℕ) (lent : TallyLent) (a : Answered s q budget lent) where
  tried_out : Tells s q budget lent None → EitherKind s → (r : List ℕ) (n : ℕ) → n < 45 → ClueShaded r s q.cell (direction_of q.direction) n
      → (dss : List (List ℕ)) → Solutions (board_of r) dss → counter s q budget lent n ≡ length dss
  tried_out none kind r n small h dss R =
      let all = some_list s (tally.accepted s q budget lent a) in
      tally.counts_solutions s q budget lent a none all.0 all.1 n small ∙ sym (many_kept test all.0)
      ∙ sym (many_length (keep test all.0)) ∙ tally.same_solutions (passing test same all.1) R (λ ds. true) ∙ many_length dss
    where
      test : List ℕ → Bool
      test ds = eqb (how_many (black_at ds) (asked_line s q)) n

      edge : stops_before_clues (grid_of r).kind ≡ false
      edge = ap (λ (g : Grid). stops_before_clues g.kind) h.grid ∙ to_edge s kind

      along : line (puzzle (grid_of r) r) (direction_of q.direction) q.cell ≡ asked_line s q
      along =
          sym (shaded.same_line r s q.cell (direction_of q.direction) n h edge (direction_of q.direction) q.cell)
          ∙ ap (λ g. line (record { grid = g; cells = (puzzle (grid_of s) s).cells }) (direction_of q.direction) q.cell) h.grid

      same : (ds : List ℕ) → SolutionBytes (board_of r) ds ↔ SolutionBytes (board_of s) ds × (test ds ≡ true)
      same ds =
          let k = shaded.same_solutions r s q.cell (direction_of q.direction) n h edge ds in (
            λ S. let (t, m) = k.0 S in (t, eq-eqb _ n (sym (ap (how_many (black_at ds)) along) ∙ m)),
            λ T. k.1 (T.0, ap (how_many (black_at ds)) along ∙ eqb-true _ n T.1),
          )

  given : IsAccepted s × (grid_cell s q.cell ≡ Shaded) × (q.cell < size (grid_of s)) × (1 ≤ q.direction) × (q.direction ≤ 4)
  given =
      let is = tally.shaded s q budget lent a in
      let (low, high) = tally.directed s q budget lent a in
      (tally.accepted s q budget lent a, is, tally.shaded_inside s q.cell is, low, high)

  begins : BegunOn s (begun_in s lent.work.slices)
  begins =
      let (trail, marks, numbers) = tally.slices_room s q budget lent a in
      record {
        grid = tally.accepted s q budget lent a;
        variables = refl;
        list = refl;
        empty = refl;
        slices =
            record {
              trail = length-take-le v lent.work.slices.trail trail;
              marks = length-take-le v lent.work.slices.marks marks;
              numbers = length-take-le v lent.work.slices.numbers numbers;
            };
      }
    where
      v : ℕ
      v = variable_count (board_of s)

  listed : (c : Search) → BegunOn s c → ListedBy s q budget lent c
  listed c b =
      let (h, calls, answered, left) = tally.lists s q budget lent a b in
      let (first, later, lists, is, counts) = tally.counts_first s q budget lent a b in
      record {
        found = first;
        last = h;
        calls = subst (λ all. Carries Searching c budget all h (tally_answer s q budget lent).second) (sym is) calls;
        answered = answered;
        counters = counts;
        later = later;
        lists = lists;
        solutions = lists_solutions s c b (first ++ later) lists;
        slices = left;
      }

  list_left : (tally_leaves s q budget lent).work.list ≡ encoder_leaves s lent.work.list
  list_left =
      ap (λ (t : TallyLent). t.work.list) (tally.leaves s q budget lent a)
      ∙ sym (list_filled s (tally.accepted s q budget lent a) lent.work.list (tally.list_room s q budget lent a) refl)

  untouched : Past lent.work (tally_leaves s q budget lent).work (length (clause_list (board_of s))) (variable_count (board_of s))
  untouched =
      let acc = tally.accepted s q budget lent a in
      let b = zeros_begun s acc in
      let (h, calls, answered, left) = tally.lists s q budget lent a b in
      let long = carries_long (begun_taken s (zeros s acc) b) calls in
      record {
        list =
            ap (λ (t : TallyLent). drop (length (clause_list (board_of s))) t.work.list) (tally.leaves s q budget lent a)
            ∙ past_filled lent.work.list (clause_list (board_of s)) refl;
        trail = ap (λ (x : Slices). drop v x.trail) left ∙ past_filled lent.work.slices.trail h.slices.trail long.trail;
        marks = ap (λ (x : Slices). drop v x.marks) left ∙ past_filled lent.work.slices.marks h.slices.marks long.marks;
        numbers = ap (λ (x : Slices). drop v x.numbers) left ∙ past_filled lent.work.slices.numbers h.slices.numbers long.numbers;
      }
    where
      v : ℕ
      v = variable_count (board_of s)

pub request_e11 : RequestE11
request_e11 =
    record {
      tried_out = tried_out;
      given = given;
      fills = tally.fills;
      counts = tally.counts_solutions;
      solutions = some_list;
      no_overflow = λ s q budget lent a. (tally.few_steps s q budget lent a).2;
      adds_up = tally.adds_up;
      begins = begins;
      listed = listed;
      none_or_halted = tally.none_or_halted;
      few_steps = λ s q budget lent a. let (most, whole, c) = tally.few_steps s q budget lent a in (most, whole);
      list_left = list_left;
      sought_in_order = λ s q lent. refl;
      untouched = untouched;
      by_rows = tally.turned_down;
      wrong_23 = tally.asked_wrongly;
      samples = tally_cases_hold;
    }
