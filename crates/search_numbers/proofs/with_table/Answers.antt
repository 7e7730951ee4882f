-- `search_numbers::with_table` meets its contract. Assumes nothing.
use native.Mathlib.Omega.{arith}
use lib.ListN.{length}
use Rattle.search_numbers.proofs.Places.{stride_fits}
use Rattle.search_numbers.proofs.with_table.Goals as goal

pub overflow_add-stride : goal.overflow_add-stride
overflow_add-stride c = omega (arith, stride_fits c.args.list.now (length c.args.table.now) c.clause_count-clauses.ensures)
