use Rattle.std.proofs.Common.{arith}
use Rattle.roster.specs.Laws.Loaded.{copy_whole}
use Rattle.roster_load.proofs.row_of.Goals as goal

pub returns : goal.returns
returns c = copy_whole c.loop-i.invariant (omega arith)
