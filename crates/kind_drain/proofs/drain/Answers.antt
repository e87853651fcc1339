-- A message on the channel is read into the mover's list. Assumes nothing.
use Rattle.std.proofs.Common.{◌∙◌, sym}
use Rattle.transit.specs.InPlace.{unread}
use Rattle.roster.specs.Roster.{ranks_of}
use Rattle.kind_drain.specs.Laws.Done.{drain_message}
use Rattle.kind_drain.proofs.drain.Goals as goal

pub returns-in-Some-clause-does : goal.returns-in-Some-clause-does
returns-in-Some-clause-does c =
    let d = c.args.desk.now in
    let found = sym c.in-Some.is ∙ c.first_at.ensures in
    drain_message (ranks_of d.roster) (unread d.mail) c.args.r c.args.p c.in-Some.m found c.relabel_first.ensures.first
