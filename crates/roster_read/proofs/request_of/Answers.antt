use Rattle.base.specs.Laws.Tabulate.{tabulate_at, tabulate_past}
use Rattle.broker.specs.State.{request}
use Rattle.roster.specs.Roster.{ranks_of}
use Rattle.roster_read.proofs.request_of.Goals as goal

pub returns-then-i-lt-RANKS : goal.returns-then-i-lt-RANKS
unfolding ranks_of
returns-then-i-lt-RANKS c = rw (tabulate_at _ _ _ _ c.if-i-lt-RANKS.true, request) c.decode_request.ensures

pub returns : goal.returns
unfolding ranks_of
returns c = rw (tabulate_past _ _ _ _ c.if-i-lt-RANKS.false, request)
