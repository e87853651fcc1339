-- The loops' invariants: the slots before `i` are dead; the pairs before `p` have none. Assumes nothing.
use Rattle.transit.specs.Columns.{SLOTS}
use Rattle.transit.specs.Laws.Loads.{Emptied}
use Rattle.transit_load.proofs.empty_slots.Given as goal

abbrev pub invariant-loop-i : goal.invariant-loop-i
invariant-loop-i l = Emptied l.slots l.i 0

abbrev pub invariant-loop-p : goal.invariant-loop-p
invariant-loop-p l = Emptied l.slots SLOTS l.p
