-- The loop's invariant: the ranks below `i` are left, and no other. Assumes nothing.
use Rattle.protocol.specs.Migrate.{leave}
use Rattle.transit.specs.Message.{rank}
use Rattle.base.specs.Below.{each_below}
use Rattle.broker.specs.State.{with_links}
use Rattle.roster.specs.Roster.{ranks_of, Holds}
use Rattle.kind_move_leaving.proofs.leave_all.Given as goal

abbrev pub invariant-loop-i : goal.invariant-loop-i
invariant-loop-i l =
    Holds l.roster
    (with_links (each_below l.i (λ k. leave l.r (rank k)) (ranks_of l.initial.roster).links) (ranks_of l.initial.roster))
