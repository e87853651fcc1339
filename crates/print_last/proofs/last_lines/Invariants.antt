-- The loop's invariant: the lines of the senders so far are put. Assumes nothing.
use Rattle.std.proofs.Common.{◌*◌, ◌≤◌}
use Rattle.print_lines.specs.Lines.{lines_of_sender, texts_below}
use Rattle.transit.specs.Message.{ranks}
use Rattle.print_last.specs.Last.{PutOf, sender_room}
use Rattle.print_last.proofs.last_lines.Given as goal

abbrev pub invariant-loop-from : goal.invariant-loop-from
invariant-loop-from m =
    PutOf (sender_room * m.from) m.initial.page m.slots (λ l. texts_below m.from (lines_of_sender l)) m.page × (m.from ≤ ranks)
