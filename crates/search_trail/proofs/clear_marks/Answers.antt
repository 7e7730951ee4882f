-- `search_trail::clear_marks` meets its contract: the elements before the index have no values. Assumes nothing.
use Rattle.std.proofs.Common.{◌%◌, rules, arith}
use Rattle.std.proofs.lemmas.Grind.{common_steps}
use Rattle.std.proofs.lemmas.List.{take-map}
use Rattle.std.proofs.lemmas.List.Edits.{map_over_more}
use Rattle.search_trail.proofs.clear_marks.Goals as goal

pub loop-mark-preserved : goal.loop-mark-preserved
loop-mark-preserved c = search (rules, map_over_more (λ m. m % 2))

pub returns : goal.returns
returns c = grind (arith, common_steps, take-map)
