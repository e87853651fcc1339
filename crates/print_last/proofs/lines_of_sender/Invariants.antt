-- The loop's invariant: the lines of the receivers so far are put. Assumes nothing.
use Rattle.std.proofs.Common.{◌*◌, ◌≤◌}
use Rattle.print_lines.specs.Lines.{lines_of_pair, pair_room, texts_below}
use Rattle.transit.specs.Message.{ranks}
use Rattle.print_last.specs.Last.{PutOf}
use Rattle.print_last.proofs.lines_of_sender.Given as goal

abbrev pub invariant-loop-to : goal.invariant-loop-to
invariant-loop-to m =
    PutOf (pair_room * m.to) m.initial.page m.slots (λ l. texts_below m.to (lines_of_pair l m.from.0)) m.page × (m.to ≤ ranks)
