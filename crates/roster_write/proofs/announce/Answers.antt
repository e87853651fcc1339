use Rattle.std.proofs.Common.{◌≡◌, arith}
use Rattle.protocol.specs.Life.{announced}
use Rattle.transit.specs.Message.{ranks}
use Rattle.broker.specs.Ranks.{each_rank}
use Rattle.roster_write.proofs.announce.Goals as goal

pub returns : goal.returns
unfolding announced each_rank
returns c =
    let done : c.loop-i.i ≡ ranks = omega arith in
    rw done at c.loop-i.invariant.1
