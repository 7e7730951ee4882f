-- `cnf::clause_count` meets its contract: the parts counted and what is left have all clauses. Assumes nothing.
use Prim.Native.Nat.{◌+◌, ◌≤◌}
use lib.ListN.{length}
use mathlib.Core.Path.{◌≡◌}
use Rattle.std.specs.Slice.Iter.{chunks_rest, chunks_size}
use Rattle.cnf.specs.Clauses.{clause_count}
use Rattle.cnf.proofs.clause_count.Given as goal

abbrev pub invariant-loop-part : goal.invariant-loop-part
invariant-loop-part l = record {
  size : chunks_size l.part-iterator ≡ 2147483648;
  few : l.n + length (chunks_rest l.part-iterator) ≤ length l.list;
  rest : l.n + clause_count (chunks_rest l.part-iterator) ≡ clause_count l.list;
}
