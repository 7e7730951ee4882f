-- `program_text::put_drawing` meets its contract: the cells from one on are still to be put. Assumes nothing.
use lib.ListN.{drop}
use Rattle.answers.proofs.Putting.{Putting}
use Rattle.program_text.specs.Lines.{drawing_text, drawing_from}
use Rattle.program_text.proofs.put_drawing.Given as goal

abbrev pub invariant-loop-x : goal.invariant-loop-x
invariant-loop-x l = Putting l.initial.out (drawing_text l.columns l.drawing) l.out (drawing_from l.columns l.x (drop l.x l.drawing))
