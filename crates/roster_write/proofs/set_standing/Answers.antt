use Rattle.std.proofs.Common.{arith}
use Rattle.base.specs.Laws.Tabulate.{tabulate_set_past}
use Rattle.roster.specs.Laws.Stores.{standing_stored}
use Rattle.roster.specs.Roster.{ranks_of}
use Rattle.roster_write.proofs.set_standing.Goals as goal

pub returns-then-i-lt-RANKS : goal.returns-then-i-lt-RANKS
returns-then-i-lt-RANKS c =
    let standing = c.encode_standing-w in
    standing_stored c.args.roster.now c.args.r standing.result (omega arith) c.if-i-lt-RANKS.true standing.ensures

pub returns-else-i-lt-RANKS : goal.returns-else-i-lt-RANKS
unfolding ranks_of
returns-else-i-lt-RANKS c = record { long = omega arith; same = rw (tabulate_set_past _ _ _ _ c.if-i-lt-RANKS.false) }
