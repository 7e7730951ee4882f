-- The search on a grid's clauses: how it ends, and at "found" the trail's bytes and the drawing. Assumes nothing.
use Prim.Native.Nat.{ℕ}
use native.Mathlib.Omega.{arith}
use lib.IntN.{ℤ}
use lib.ListN.{length, take, drop}
use lib.Seq.{length-take-le}
use mathlib.Core.Path.{◌≡◌, refl, sym, ◌∙◌, ap}
use mathlib.Core.List.{List, ◌++◌}
use Rattle.answers.specs.declared.Outcome.{Outcome}
use Rattle.answers.specs.Outcome.{first_refusal}
use Rattle.answers.specs.Lent.{unless_refused}
use Rattle.rules.specs.declared.Grid.{Grid}
use Rattle.rules.specs.Record.{IsAccepted, RecordFits}
use Rattle.rules.specs.Board.{grid_board, board_of}
use Rattle.rules.specs.Judge.{says_yes}
use Rattle.rules.proofs.Records.{is_accepted, read_grid, read_fits, goes_on}
use Rattle.encoder.specs.Variables.{variable_count}
use Rattle.encoder.specs.Decoding.{decoded, decoder_leaves, decoder_grid_rows}
use Rattle.search.specs.Trail.{Slices, filled_slices, image}
use Rattle.search.specs.Run.{Ending, Found as DoneFound, None as DoneNone, Halted as DoneHalted, Done, done_outcome}
use Rattle.search.specs.Call.{Search, Handed, Searching, IsTaken, hands_done, hands_taken}
use Rattle.search.proofs.Endings.{same_ending}
use Rattle.search_call.specs.declared.Ending.{Ending as Answer}
use Rattle.search_call.specs.declared.Ending.TheVariants.{Found, None, Halted}
use Rattle.search_call.specs.declared.End.{End}
use Rattle.search_call.specs.Answers.{ending_of, end_outcome}
use Rattle.search_call.proofs.Calls.{search_in}
use Rattle.solver.specs.Begun.{BegunOn}
use Rattle.solver.specs.SolverCall.{solved, trail_bytes, at_found}
use Rattle.solver.proofs.Begun as begun
use Rattle.solver_listing.specs.Values.{literal_trail, Fillable}
use Rattle.solver_listing.proofs.TrailBytes.{full_legal, full_bytes}
use Rattle.solver_listing.proofs.Parts.{part_read, part_filled, part, whole, slices-filled}
use Rattle.solver_call.specs.declared.Needs.{Needs}
use Rattle.solver_call.specs.GridSearch.{Fits, Ends}

-- a search that ends as found says so
is_found : (x : Answer) → ending_of x ≡ DoneFound → x ≡ Found
is_found Found e = refl
is_found None e = cc
is_found Halted e = cc

kept : {A : Type 0} (x : Ending) (before after : A) → (x ≡ DoneFound → ⊥) → before ≡ at_found x before after
kept DoneFound before after n = absurd (n refl)
kept DoneNone before after n = refl
kept DoneHalted before after n = refl

module _ {g : Grid} {s : List ℕ} {needed : Needs} {ls : List ℤ} {lent : Slices} {vs ds : List ℕ} (fits : Fits g s needed ls lent vs ds) (budget : ℕ) where
  accepted : IsAccepted s
  accepted = is_accepted s g fits.read

  pub may_decode : RecordFits g s
  may_decode = read_fits s g fits.read

  abbrev v : ℕ
  v = variable_count (board_of s)

  abbrev m : ℕ
  m = needed.variables

  abbrev n : ℕ
  n = needed.cells

  abbrev done : Done
  done = solved (board_of s) budget

  variables : m ≡ v
  variables = ap (λ (n : Needs). n.variables) fits.needs

  -- the parts that are lent on have their lengths
  ts_long : length (part m lent).trail ≡ v
  ts_long = length-take-le m lent.trail fits.trail ∙ variables

  ms_long : length (part m lent).marks ≡ v
  ms_long = length-take-le m lent.marks fits.marks ∙ variables

  ns_long : length (part m lent).numbers ≡ v
  ns_long = length-take-le m lent.numbers fits.numbers ∙ variables

  vs_long : length (take m vs) ≡ v
  vs_long = length-take-le m vs fits.values ∙ variables

  ds_long : length (take n ds) ≡ (board_of s).size
  ds_long = length-take-le n ds fits.drawing ∙ ap (λ (n : Needs). n.cells) fits.needs

  -- what the search gets
  abbrev gets : Search
  gets = search_in (take needed.elements ls) (part m lent) 0

  on : BegunOn s gets
  on =
      record {
        grid = accepted;
        variables = ms_long;
        list = fits.clauses;
        empty = refl;
        slices = record { trail = ts_long ∙ sym ms_long; marks = refl; numbers = ns_long ∙ sym ms_long };
      }

  pub may_search : IsTaken Searching gets
  may_search = begun.begun_taken s gets on

  -- what the decoder leaves, over the grid that was read
  abbrev grid_leaves : Grid → List ℕ → List ℕ → List ℕ
  grid_leaves g values lent = unless_refused (first_refusal (decoder_grid_rows (grid_board g s) values lent) says_yes) lent (decoded (grid_board g s) values)

  grid-leaves : (values lent : List ℕ) → grid_leaves g values lent ≡ decoder_leaves s values lent
  grid-leaves values lent =
      λ i.
      unless_refused (goes_on s g fits.read (λ g. decoder_grid_rows (grid_board g s) values lent) says_yes i) lent
      (decoded (grid_board (read_grid s g fits.read i) s) values)

  -- after the search: what it leaves in those parts
  module _ (e : End) {after : Slices} (h : record { outcome = end_outcome e; slices = after } ≡ hands_taken Searching gets budget)
      (us-long : length after.trail ≡ length (part m lent).trail) (ms-same : length after.marks ≡ length (part m lent).marks)
      (ns-same : length after.numbers ≡ length (part m lent).numbers) where
    hands : record { outcome = end_outcome e; slices = after } ≡ hands_done v done
    hands = h ∙ begun.taken_solved s gets on budget

    outcome : end_outcome e ≡ done_outcome done
    outcome = ap (λ (h : Handed). h.outcome) hands

    ending : ending_of e.ending ≡ done.ending
    ending = same_ending (ending_of e.ending) done.ending (ap (λ (t : Outcome). t.first) outcome)

    at : after ≡ image v done.trail
    at = ap (λ (h : Handed). h.slices) hands

    left : whole m lent after ≡ filled_slices lent (image v done.trail)
    left =
        slices-filled lent after (record { trail = fits.trail; marks = fits.marks; numbers = fits.numbers }) us-long ms-same ns-same at

    pub unfound : (e.ending ≡ Found → ⊥) → Ends s budget lent vs ds e (whole m lent after) vs ds
    unfound other =
        let k : done.ending ≡ DoneFound → ⊥ = λ f. other (is_found e.ending (ending ∙ f)) in
        record { outcome = outcome; slices = left; values = kept done.ending _ _ k; drawing = kept done.ending _ _ k }

    module _ (q : e.ending ≡ Found) where
      ends_found : done.ending ≡ DoneFound
      ends_found = sym ending ∙ ap ending_of q

      full : length done.trail ≡ v
      full = begun.solved_full s accepted budget ends_found

      -- the trail that is left is full, and as long as the values, so that none of these is past it
      pub literals : Fillable (take m (after.trail ++ drop m lent.trail)) (take m vs)
      literals =
          rw (part_read lent.trail after.trail us-long fits.trail) (record {
            legal = full_legal v done.trail at full (begun.solved_legal s accepted budget);
            zeros = λ j o l. absurd (omega (arith, us-long, ts_long, vs_long));
          })

      pub found : {ws es : List ℕ} → ws ≡ trail_bytes (length (take m vs)) (literal_trail (take m (after.trail ++ drop m lent.trail)))
          → es ≡ grid_leaves g (take m (ws ++ drop m vs)) (take n ds)
          → length ws ≡ length (take m vs) → length es ≡ length (take n ds)
          → Ends s budget lent vs ds e (whole m lent after) (ws ++ drop m vs) (es ++ drop n ds)
      found {ws} {es} w d ws-long es-long =
          let given : ws ≡ trail_bytes v (literal_trail after.trail) =
          rw (vs_long, part_read lent.trail after.trail us-long fits.trail) at w in
          let bytes = given ∙ full_bytes v done.trail at full (begun.solved_legal s accepted budget) v in
          let yes = begun.decoder_says s accepted budget ends_found (take n ds) ds_long in
          let drawn = d ∙ grid-leaves (take m (ws ++ drop m vs)) (take n ds)
          ∙ ap (λ b. decoder_leaves s b (take n ds)) (part_read vs ws ws-long fits.values ∙ bytes)
          ∙ ap (λ t. unless_refused t (take n ds) (decoded (board_of s) (trail_bytes v done.trail))) yes in
          record {
            outcome = outcome;
            slices = left;
            values = rw ends_found (part_filled vs ws ws-long fits.values bytes);
            drawing = rw ends_found (part_filled ds es es-long fits.drawing drawn);
          }
