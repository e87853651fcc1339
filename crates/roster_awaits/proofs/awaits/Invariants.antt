-- The loop's invariant: `n` is the count of the awaits of the ranks below `i`. Assumes nothing.
use Rattle.std.proofs.Common.{◌≡◌, ℕ, ◌≤◌, Bool, not, List}
use Rattle.transit.specs.Message.{rank, ranks}
use Rattle.transit.specs.declared.Rank.{Rank}
use Rattle.base.specs.Below.{count_below}
use Rattle.broker.specs.Names.{is_clear}
use Rattle.broker.specs.State.{link_at}
use Rattle.roster.specs.Roster.{ranks_of}
use Rattle.roster_awaits.proofs.awaits.Given as goal

-- the rank has an await of the rank of a number
abbrev pub awaited : Rank → List ℕ → ℕ → Bool
awaited r roster k = not (is_clear (link_at (ranks_of roster).links r (rank k)).backlog)

abbrev pub invariant-loop-i : goal.invariant-loop-i
invariant-loop-i l = (l.i ≤ ranks) × (l.n ≤ l.i) × (l.n ≡ count_below l.i (awaited l.r l.roster))
