use Rattle.transit.specs.InPlace.{unread}
use Rattle.roster.specs.Roster.{ranks_of}
use Rattle.kind_heed.specs.Laws.Done.{heed_done}
use Rattle.kind_heed.proofs.heed.Goals as goal

pub returns-clause-does : goal.returns-clause-does
returns-clause-does c =
    let ranks = ranks_of c.args.desk.now.roster in
    let read = c.relabel_mail_between-moved.ensures in
    rw c.widened.ensures
    (heed_done ranks (unread c.args.desk.now.mail) c.args.b c.args.r read.all read.moved c.connect.ensures.same c.awaiting.ensures.same)
