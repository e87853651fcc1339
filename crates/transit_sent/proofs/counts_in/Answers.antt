use Rattle.std.proofs.Common.{◌∙◌}
use Rattle.transit.specs.Laws.Sent.{counts_read}
use Rattle.transit_sent.proofs.counts_in.Goals as goal

pub returns : goal.returns
returns c = let m = c.args.mail.now in c.copy_from_slice.ensures.after ∙ counts_read m.contents m.kept.contents_long
