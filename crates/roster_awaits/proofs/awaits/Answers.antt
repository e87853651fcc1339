use Rattle.std.proofs.Common.{◌≡◌, arith}
use Rattle.transit.specs.Message.{ranks}
use Rattle.broker.specs.Ranks.{count_ranks}
use Rattle.roster_awaits.proofs.awaits.Goals as goal

pub returns : goal.returns
unfolding count_ranks
returns c =
    let last : c.loop-i.i ≡ ranks = omega arith in
    rw last at c.loop-i.invariant.2
