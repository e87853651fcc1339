use Rattle.std.proofs.Common.{arith, rules, sym, ◌≡◌, length}
use Rattle.std.proofs.Math.ListN.{get_or-eq_default}
use Rattle.transit.specs.Columns.{sent_in, contents_length}
use Rattle.transit.specs.Laws.Sent.{sent_at_lem, sent_long}
use Rattle.transit_sent.proofs.sent_between.Goals as goal

pub returns-then-pair-lt-CELLS : goal.returns-then-pair-lt-CELLS
returns-then-pair-lt-CELLS c = rw (c.from.ensures, c.from-2.ensures) (sym (sent_at_lem c.args.contents.now _))

-- Past the pairs nothing was sent.
pub returns : goal.returns
returns c =
    let v = c.args.contents.now in
    let size : length v ≡ contents_length = search rules in
    let long = sent_long v size in
    let past = c.if-pair-lt-CELLS.false in
    sym (get_or-eq_default (sent_in v) 0 (omega (arith, long, past, c.from.ensures, c.from-2.ensures)))
