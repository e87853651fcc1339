-- The loop's invariant: so many whole records are run, and the page shows their lines. Assumes nothing.
use Rattle.std.proofs.Common.{◌≡◌, ◌-◌, length}
use Rattle.desk.specs.Desk.{state_of}
use Rattle.print_piece.specs.Ran.{RanSome}
use Rattle.print_piece.proofs.run_piece.Given as goal

abbrev pub invariant-loop-at : goal.invariant-loop-at
invariant-loop-at l =
    RanSome (state_of l.initial.desk) l.piece l.base (length l.initial.shown.bytes.now) (state_of l.desk) l.at l.shown.used l.steps
    l.shown.bytes.now ×
    (l.shown.bytes.ghost_name ≡ l.initial.shown.bytes.ghost_name)

abbrev pub decreases-loop-at : goal.decreases-loop-at
decreases-loop-at l = length l.piece - l.at
