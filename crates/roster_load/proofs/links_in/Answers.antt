use Rattle.std.proofs.Common.{sym, arith}
use Rattle.roster.specs.Laws.Loaded.{copy_next, copy_whole}
use Rattle.roster.specs.Roster.{ranks_of}
use Rattle.roster_load.proofs.links_in.Goals as goal

pub loop-i-preserved : goal.loop-i-preserved
loop-i-preserved c = copy_next c.loop-i.invariant (omega arith) (sym c.decode_link-link.ensures)

pub returns : goal.returns
unfolding ranks_of
returns c = copy_whole c.loop-i.invariant (omega arith)
