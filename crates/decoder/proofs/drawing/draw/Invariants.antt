-- `decoder::drawing::draw` meets its contract. Assumes nothing.
use Rattle.rules.specs.Read.{rules_board}
use Rattle.encoder.specs.Decoding.{value_of, drawn_at}
use Rattle.decoder.proofs.Filled.{Filling}
use Rattle.decoder.proofs.drawing.draw.Given as goal

abbrev pub invariant-loop-x : goal.invariant-loop-x
invariant-loop-x l = let b = rules_board l.numbering.board in Filling (drawn_at b (value_of b l.values)) l.initial.drawing l.drawing l.x
