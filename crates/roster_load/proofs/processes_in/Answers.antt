use Rattle.std.proofs.Common.{arith}
use Rattle.roster.specs.Laws.Loaded.{copy_whole}
use Rattle.roster.specs.Roster.{ranks_of}
use Rattle.roster_load.proofs.processes_in.Goals as goal

pub returns : goal.returns
unfolding ranks_of
returns c = copy_whole c.loop-i.invariant (omega arith)
