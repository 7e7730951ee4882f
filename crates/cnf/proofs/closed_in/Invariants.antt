-- `cnf::closed_in` meets its contract: the clauses counted and those of the rest are all. Assumes nothing.
use Prim.Native.Nat.{◌+◌, ◌≤◌}
use lib.ListN.{drop}
use mathlib.Core.Path.{◌≡◌}
use Rattle.cnf.specs.Clauses.{clause_count}
use Rattle.cnf.proofs.closed_in.Given as goal

abbrev pub invariant-loop-literal : goal.invariant-loop-literal
invariant-loop-literal l = (l.n ≤ l.literal-index) × (l.n + clause_count (drop l.literal-index l.part) ≡ clause_count l.part)
