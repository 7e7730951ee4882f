-- `search_scan::after_clause` meets its contract. Assumes nothing.
use mathlib.Core.Path.{◌≡◌}
use Rattle.search_scan.proofs.Scans.{Passing}
use Rattle.search_scan.proofs.after_clause.Given as goal

abbrev pub invariant-loop-j : goal.invariant-loop-j
invariant-loop-j l = Passing l.list l.i l.j × (l.after ≡ l.j)
