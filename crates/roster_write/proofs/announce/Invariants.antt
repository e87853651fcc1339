-- The loop's invariant: the ranks so far are told. Assumes nothing.
use Rattle.std.proofs.Common.{◌≤◌, set}
use Rattle.transit.specs.Message.{rank, ranks}
use Rattle.base.specs.Below.{each_below}
use Rattle.broker.specs.State.{cell, with_locations}
use Rattle.roster.specs.Roster.{ranks_of, Holds}
use Rattle.roster_write.proofs.announce.Given as goal

abbrev pub invariant-loop-i : goal.invariant-loop-i
invariant-loop-i l =
    (l.i ≤ ranks) ×
    Holds l.roster
    (with_locations
    (each_below l.i (λ p xs. set xs (cell (rank p) l.r) l.vmid) (ranks_of l.initial.roster).locations)
    (ranks_of l.initial.roster))
