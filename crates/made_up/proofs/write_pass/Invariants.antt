-- The loop's invariant: the program stands so in the course of the pass, whose laws say what was written, and the buffer is as long as it
-- was. Assumes nothing.
use Rattle.std.proofs.Common.{◌≡◌, length}
use Rattle.made_up_pass.specs.Course.{Stands}
use Rattle.made_up.proofs.write_pass.Given as goal

abbrev pub invariant-loop-next : goal.invariant-loop-next
invariant-loop-next g l = Stands l.fn.seed l.fn.count l.piece.word.0 l.piece.left × (length l.buffer ≡ length l.initial.buffer)

abbrev pub decreases-loop-next : goal.decreases-loop-next
decreases-loop-next g l = l.piece.left
