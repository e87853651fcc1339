use Rattle.std.proofs.Common.{◌∙◌}
use Rattle.transit.specs.Laws.Mail.{unread_in_lem}
use Rattle.transit_count.proofs.unread.Goals as goal

pub returns : goal.returns
returns c = λ v d. c.from.ensures ∙ unread_in_lem d
