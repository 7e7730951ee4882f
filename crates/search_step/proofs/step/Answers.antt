-- `search_step::step` meets its contract. Assumes nothing.
use lib.IntN.{pos, negsuc}
use lib.ListN.{length, get_or}
use mathlib.Core.Path.{◌≡◌}
use Rattle.std.specs.Prelude.{None}
use Rattle.cnf.specs.Clauses.{clause_number}
use Rattle.search.specs.Trail.{entry, Trail, Slices, slices}
use Rattle.search.specs.Step.{Next, failed_clause, forced_place, step}
use Rattle.search_scan.specs.PackedValues.{packed_values}
use Rattle.search_trail.specs.Packed.{running_trail}
use Rattle.search_step.specs.Steps.{appends}
use Rattle.search_step.proofs.Chosen.{Standing, by_choice, choice_allowed, on-failed, on-forced, on_free, on_full}
use Rattle.search_step.proofs.step.Goals as goal

pub returns-in-Some : goal.returns-in-Some
returns-in-Some c =
    let lent : Slices = slices c.args.trail.now c.args.marks.now c.args.numbers.now in
    let standing : Standing c.args.list.now lent c.args.used = record { running = c.requires.running; listed = c.requires.list_fits } in
    let h = standing in
    by_choice h (on-failed h c.in-Some.ensures) c.undo.ensures

pub append_forced-requires-clause-allows : goal.append_forced-requires-clause-allows
append_forced-requires-clause-allows c =
    let lent : Slices = slices c.args.trail.now c.args.marks.now c.args.numbers.now in
    let trail : Trail = running_trail lent c.args.used in
    let standing : Standing c.args.list.now lent c.args.used = record { running = c.requires.running; listed = c.requires.list_fits } in
    let StepIs : Next → Type 0 = λ x. step (length c.args.marks.now) c.args.list.now trail ≡ x in
    let no-failed : None ≡ failed_clause (packed_values c.args.marks.now) c.args.list.now = c.in_default.ensures in
    let forced : let ls = c.args.list.now in let place = c.in-Some-forced_place.place in StepIs (appends (entry (get_or ls place (pos 0)) 0 (clause_number ls place)) trail) = on-forced standing no-failed c.in-Some-forced_place.ensures in
    choice_allowed standing forced

pub returns-in-Some-forced_place : goal.returns-in-Some-forced_place
returns-in-Some-forced_place c =
    let lent : Slices = slices c.args.trail.now c.args.marks.now c.args.numbers.now in
    let trail : Trail = running_trail lent c.args.used in
    let standing : Standing c.args.list.now lent c.args.used = record { running = c.requires.running; listed = c.requires.list_fits } in
    let StepIs : Next → Type 0 = λ x. step (length c.args.marks.now) c.args.list.now trail ≡ x in
    let no-failed : None ≡ failed_clause (packed_values c.args.marks.now) c.args.list.now = c.in_default.ensures in
    let forced : let ls = c.args.list.now in let place = c.in-Some-forced_place.place in StepIs (appends (entry (get_or ls place (pos 0)) 0 (clause_number ls place)) trail) = on-forced standing no-failed c.in-Some-forced_place.ensures in
    by_choice standing forced c.append_forced.ensures

pub returns-in_default-lowest_unassigned : goal.returns-in_default-lowest_unassigned
returns-in_default-lowest_unassigned c =
    let lent : Slices = slices c.args.trail.now c.args.marks.now c.args.numbers.now in
    let standing : Standing c.args.list.now lent c.args.used = record { running = c.requires.running; listed = c.requires.list_fits } in
    let no-failed : None ≡ failed_clause (packed_values c.args.marks.now) c.args.list.now = c.in_default.ensures in
    let no-forced : None ≡ forced_place (packed_values c.args.marks.now) c.args.list.now = c.in_default-forced_place.ensures in
    on_full standing no-failed no-forced
    c.in_default-lowest_unassigned.ensures

pub append_choice-requires-clause-allows : goal.append_choice-requires-clause-allows
append_choice-requires-clause-allows c =
    let lent : Slices = slices c.args.trail.now c.args.marks.now c.args.numbers.now in
    let trail : Trail = running_trail lent c.args.used in
    let standing : Standing c.args.list.now lent c.args.used = record { running = c.requires.running; listed = c.requires.list_fits } in
    let StepIs : Next → Type 0 = λ x. step (length c.args.marks.now) c.args.list.now trail ≡ x in
    let no-failed : None ≡ failed_clause (packed_values c.args.marks.now) c.args.list.now = c.in_default.ensures in
    let no-forced : None ≡ forced_place (packed_values c.args.marks.now) c.args.list.now = c.in_default-forced_place.ensures in
    let free : StepIs (appends (entry (negsuc c.in-Some-lowest_unassigned.index) 1 0) trail) = on_free standing no-failed no-forced c.in-Some-lowest_unassigned.ensures in
    choice_allowed standing free

pub returns : goal.returns
returns c =
    let lent : Slices = slices c.args.trail.now c.args.marks.now c.args.numbers.now in
    let trail : Trail = running_trail lent c.args.used in
    let standing : Standing c.args.list.now lent c.args.used = record { running = c.requires.running; listed = c.requires.list_fits } in
    let StepIs : Next → Type 0 = λ x. step (length c.args.marks.now) c.args.list.now trail ≡ x in
    let no-failed : None ≡ failed_clause (packed_values c.args.marks.now) c.args.list.now = c.in_default.ensures in
    let no-forced : None ≡ forced_place (packed_values c.args.marks.now) c.args.list.now = c.in_default-forced_place.ensures in
    let free : StepIs (appends (entry (negsuc c.in-Some-lowest_unassigned.index) 1 0) trail) = on_free standing no-failed no-forced c.in-Some-lowest_unassigned.ensures in
    by_choice standing free c.append_choice.ensures
