-- `search_numbers::in_windows` meets its contract: the loop keeps `Below`. Assumes nothing.
use Prim.Native.Nat.{◌+◌}
use native.Mathlib.Omega.{arith}
use Rattle.search.specs.Trail.{slices}
use Rattle.search_numbers.proofs.Values.{bytes_start}
use Rattle.search_numbers.proofs.Windows.{below_few, below_start, below_on, below_all}
use Rattle.search_numbers.proofs.in_windows.Goals as goal

pub first_wrong-requires-clause-values_value : goal.first_wrong-requires-clause-values_value
first_wrong-requires-clause-values_value c = bytes_start 1 1024

pub returns-then-v-le1024 : goal.returns-then-v-le1024
returns-then-v-le1024 c =
    let s = slices c.args.trail.now c.args.marks.now c.args.numbers.now in
    below_all {s = s} c.requires.readable.inside 1025 (omega arith) (omega arith)
    (below_on below_start c.first_wrong.ensures.fact (omega arith) (omega arith))

pub loop-low-init : goal.loop-low-init
loop-low-init c = below_start

pub first_wrong-first-requires-clause-has_entries : goal.first_wrong-first-requires-clause-has_entries
first_wrong-first-requires-clause-has_entries c = below_few c.loop-low.invariant c.requires.readable.entries

pub first_wrong-first-requires-clause-values_value : goal.first_wrong-first-requires-clause-values_value
first_wrong-first-requires-clause-values_value c = bytes_start c.loop-low.low 262144

pub loop-low-preserved : goal.loop-low-preserved
loop-low-preserved c = below_on c.loop-low.invariant c.first_wrong-first.ensures.fact (omega arith) (omega arith)

pub returns-else-v-le1024 : goal.returns-else-v-le1024
returns-else-v-le1024 c = below_all c.requires.readable.inside c.loop-low.low (omega arith) (omega arith) c.loop-low.invariant

pub returns-else-v-le1024-2 : goal.returns-else-v-le1024-2
returns-else-v-le1024-2 c =
    below_all c.requires.readable.inside (c.loop-low.low + 262144) (omega arith) (omega arith)
    (below_on c.loop-low.invariant c.first_wrong-first.ensures.fact (omega arith) (omega arith))
