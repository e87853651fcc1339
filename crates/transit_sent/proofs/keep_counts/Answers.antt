use Rattle.std.proofs.Common.{rules, ◌≡◌, length}
use Rattle.transit.specs.Columns.{contents_length}
use Rattle.transit.specs.Laws.Sent.{kept_counts}
use Rattle.transit.specs.Message.{cells}
use Rattle.transit_sent.proofs.keep_counts.Goals as goal

pub returns : goal.returns
returns c =
    let v = c.args.contents.now in
    let long : length v ≡ contents_length = search rules in
    let size : length c.args.counts ≡ cells = search rules in
    rw c.copy_from_slice.ensures.after (kept_counts v c.args.counts long size)
