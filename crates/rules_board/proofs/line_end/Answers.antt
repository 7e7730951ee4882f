-- `rules_board::line_end` meets its contract. Assumes nothing.
use Rattle.rules.specs.Read.{puzzle_on}
use Rattle.rules_board.proofs.Steps.{out-start, out_end, out_count, out_less, out_on}
use Rattle.rules_board.proofs.line_end.Goals as goal

pub loop-next-init : goal.loop-next-init
loop-next-init c = out-start (puzzle_on c.args.board.now) c.args.d c.requires

pub loop-next-smaller : goal.loop-next-smaller
loop-next-smaller c = out_less c.loop-next.invariant c.in-Some.ensures

pub loop-next-preserved : goal.loop-next-preserved
loop-next-preserved c = out_on c.loop-next.invariant c.in-Some.ensures

pub returns-clause-cell_value : goal.returns-clause-cell_value
returns-clause-cell_value c = out_end c.loop-next.invariant c.in_default.ensures

pub returns-clause-cells_value : goal.returns-clause-cells_value
returns-clause-cells_value c = out_count c.loop-next.invariant c.in_default.ensures
