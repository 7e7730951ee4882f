-- `answers::Writer::put_slice` meets its contract: element by element. Assumes nothing.
use Rattle.std.proofs.Common.{take, ◌≡◌, length}
use lib.Seq.{sets}
use Rattle.answers.specs.Writer.{Puts}
use Rattle.answers.proofs.Writer.put_slice.Given as goal

abbrev pub invariant-loop-i : goal.invariant-loop-i
invariant-loop-i g l = (l.self.buffer.ghost_name ≡ l.initial.self.buffer.ghost_name) × (l.self.place ≡ l.initial.self.place)
    × (length l.self.buffer.now ≡ length l.initial.self.buffer.now) × (l.self.buffer.now ≡ sets l.initial.self.buffer.now l.initial.self.place (take l.i l.xs))

abbrev pub invariant-loop-x : goal.invariant-loop-x
invariant-loop-x g l = Puts l.initial.self (take l.x-index l.xs) l.self
