-- `search_numbers::clause_start` meets its contract. Assumes nothing.
use Prim.Native.Nat.{◌-◌}
use Rattle.search_numbers.proofs.Places.{look_on}
use Rattle.search_numbers.proofs.clause_start.Goals as goal

pub returns : goal.returns
returns c = look_on c.requires.table (c.args.number - 1) c.min-j.ensures c.after_clauses.ensures
