-- `kind_land::land` meets its contract: the arrival has the mover's list, and runs. Assumes nothing.
use Rattle.std.proofs.Common.{ap, ◌∙◌}
use Rattle.broker.specs.Names.{endpoint}
use Rattle.broker.specs.State.{with_status}
use Rattle.broker.specs.declared.process.Status.TheVariants.{Running}
use Rattle.broker.specs.declared.process.Vmid.{Vmid}
use Rattle.transit.specs.InPlace.{unread}
use Rattle.roster.specs.Roster.{ranks_of}
use Rattle.kind_land.specs.Laws.Done.{land_done}
use Rattle.kind_land.proofs.land.Goals as goal

pub returns-clause-does : goal.returns-clause-does
returns-clause-does c =
    let d = c.args.desk.now in
    let ranks = ranks_of d.roster in
    let target = c.endpoint-target.ensures ∙ ap endpoint c.standing_of.ensures in
    let runs = c.set_standing.ensures.same ∙ ap (λ (v : Vmid). with_status c.args.r (Running v) ranks) target in
    let after = c.relabel_mail_to.new.mail in
    rw c.widened.ensures
    (land_done ranks (unread d.mail) c.args.r c.relabel_mail_to.ensures.all runs (c.count_to-listed.ensures after.contents after.kept))
