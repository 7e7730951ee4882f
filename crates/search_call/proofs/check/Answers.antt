-- `search_call::check` meets its contract: the rows of the table are passed in its order. Assumes nothing.
use native.Mathlib.Omega.{arith}
use Prim.Native.Nat.{ℕ}
use lib.IntN.{ℤ}
use lib.ListN.{drop}
use mathlib.Core.Path.{◌≡◌, sym, ◌∙◌, ap}
use mathlib.Core.Bool.{false}
use mathlib.Core.List.{List}
use Rattle.answers.specs.declared.Outcome.{Outcome}
use Rattle.answers.specs.Outcome.{cause}
use Rattle.answers.proofs.Rows.{Left, left_all, left_next, left_turn, left_done}
use Rattle.search.specs.Trail.{Slices, slices}
use Rattle.search.specs.Call.{Search, search_on, search_rows, wrong_lengths}
use Rattle.search_theory.proofs.Accepted.{sized, right_list}
use Rattle.search_call.proofs.check.Goals as goal

-- row 17 is passed
past_lengths : (q : Search) (t : Outcome) → false ≡ wrong_lengths q.variables q.slices q.used → Left (search_rows q) t (drop 1 (search_rows q))
past_lengths q t e = left_next (left_all (search_rows q) t) (ap cause e)

pub returns-then-wrong_lengths : goal.returns-then-wrong_lengths
returns-then-wrong_lengths c t =
    let rows = search_rows (search_on c.args.variables c.args.list.now c.args.trail.now c.args.marks.now c.args.numbers.now c.args.used) in
    left_turn (left_all rows t) (ap cause (sym c.if-wrong_lengths.true ∙ c.wrong_lengths.ensures c.args.numbers.now))

pub returns-in-Some : goal.returns-in-Some
returns-in-Some c t =
    let q = search_on c.args.variables c.args.list.now c.args.trail.now c.args.marks.now c.args.numbers.now c.args.used in
    left_turn (past_lengths q t (sym c.if-wrong_lengths.false ∙ c.wrong_lengths.ensures c.args.numbers.now)) c.in-Some.ensures

pub first_wrong_entry-requires : goal.first_wrong_entry-requires
first_wrong_entry-requires c =
    let z = sized (slices c.args.trail.now c.args.marks.now c.args.numbers.now) (sym (c.wrong_lengths.ensures c.args.numbers.now) ∙ c.if-wrong_lengths.false) in
    let i = z.inside in
    let n = z.trail in
    let m = z.marks in
    record { v_le_most_variables = z.few; used_in_bounds = (omega arith, omega arith) }

pub returns-in-Some-first_wrong_entry : goal.returns-in-Some-first_wrong_entry
returns-in-Some-first_wrong_entry c t =
    let q = search_on c.args.variables c.args.list.now c.args.trail.now c.args.marks.now c.args.numbers.now c.args.used in
    let past = left_next (past_lengths q t (sym c.if-wrong_lengths.false ∙ c.wrong_lengths.ensures c.args.numbers.now)) c.in_default.ensures in
    left_turn past (c.in-Some-first_wrong_entry.ensures c.args.numbers.now)

pub wrong_numbers-requires : goal.wrong_numbers-requires
wrong_numbers-requires c =
    let z = sized (slices c.args.trail.now c.args.marks.now c.args.numbers.now) (sym (c.wrong_lengths.ensures c.args.numbers.now) ∙ c.if-wrong_lengths.false) in
    let i = z.inside in
    let n = z.trail in
    let m = z.marks in
    record {
      v_le_most_variables = z.few;
      within = record { each = (right_list c.args.variables c.args.list.now (sym c.in_default.ensures)).0 };
      used_in_bounds = (omega arith, omega arith);
      used_le_v = i;
    }

pub returns-in-Some-wrong_numbers : goal.returns-in-Some-wrong_numbers
returns-in-Some-wrong_numbers c t =
    let q = search_on c.args.variables c.args.list.now c.args.trail.now c.args.marks.now c.args.numbers.now c.args.used in
    let past = left_next (past_lengths q t (sym c.if-wrong_lengths.false ∙ c.wrong_lengths.ensures c.args.numbers.now)) c.in_default.ensures in
    left_turn (left_next past (c.in_default-first_wrong_entry.ensures c.args.numbers.now)) c.in-Some-wrong_numbers.ensures

pub returns : goal.returns
returns c t =
    let q = search_on c.args.variables c.args.list.now c.args.trail.now c.args.marks.now c.args.numbers.now c.args.used in
    let past = left_next (past_lengths q t (sym c.if-wrong_lengths.false ∙ c.wrong_lengths.ensures c.args.numbers.now)) c.in_default.ensures in
    left_done (left_next (left_next past (c.in_default-first_wrong_entry.ensures c.args.numbers.now)) c.in_default-wrong_numbers.ensures)
