-- `search_numbers::after_clauses` meets its contract: the loop keeps `Walking`. Assumes nothing.
use Prim.Native.Nat.{◌≤◌, max}
use lib.ListN.{length}
use Rattle.search_numbers.proofs.Places.{Walking}
use Rattle.search_numbers.proofs.after_clauses.Given as goal

abbrev pub invariant-loop-j : goal.invariant-loop-j
invariant-loop-j l = (l.j ≤ max (length l.list) l.i) × Walking l.list l.i l.n l.j l.left
