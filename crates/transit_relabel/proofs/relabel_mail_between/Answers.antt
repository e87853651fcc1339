use Rattle.std.proofs.Common.{refl}
use Rattle.transit.specs.Laws.Promise.{relabelled_unread}
use Rattle.transit_relabel.proofs.relabel_mail_between.Goals as goal

pub invariant_of-mail : goal.invariant_of-mail
invariant_of-mail c =
    let m = c.args.mail.now in
    record { kept = (c.relabel_between.ensures m.contents m.kept).kept }

pub returns : goal.returns
returns c =
    let m = c.args.mail.now in
    let p = c.relabel_between.ensures m.contents m.kept in
    record { all = relabelled_unread p; moved = p.moved; contents = refl }
