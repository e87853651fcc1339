use Rattle.transit.specs.InPlace.{unread}
use Rattle.roster.specs.Roster.{ranks_of}
use Rattle.kind_part.specs.Laws.Parted.{part_done}
use Rattle.kind_part.proofs.part.Goals as goal

pub returns-clause-does : goal.returns-clause-does
returns-clause-does c =
    let ranks = ranks_of c.args.desk.now.roster in
    let read = c.relabel_mail_between-to_first.ensures in
    let both = c.relabel_mail_between-to_second.ensures in
    let before = unread c.args.desk.now.mail in
    rw (c.widened.ensures, c.widened-2.ensures)
    (part_done c.args.a c.args.b c.requires.apart before ranks read.all read.moved both.all both.moved c.connect_both.ensures.same)
