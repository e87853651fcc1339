-- The pair's first message has left. Assumes nothing.
use Rattle.transit.specs.InPlace.{unread}
use Rattle.roster.specs.Roster.{ranks_of}
use Rattle.kind_take.specs.Laws.Done.{take_done}
use Rattle.kind_take.proofs.take.Goals as goal

pub returns-clause-does : goal.returns-clause-does
returns-clause-does c = λ roster ok.
    let gone = c.remove-left.ensures in
    rw c.widened.ensures
    (take_done c.args.a c.args.b (ranks_of roster) (unread c.args.desk.now.mail) gone.first gone.rest gone.left
    c.requires.a_lt_ranks.0 c.requires.a_lt_ranks.1 c.requires.nonzero ok)
