use Rattle.std.proofs.Common.{arith, ◌+◌, get_or, set}
use Rattle.transit.specs.Columns.{SENT}
use Rattle.transit.specs.Laws.Sent.{sent_at_lem, counts_one, mail_before}
use Rattle.transit.specs.Sent.{Counted}
use Rattle.transit_sent.proofs.count_one.Goals as goal
use Rattle.transit_sent.proofs.count_one.Goals.{After-pair_of-pair}

-- The pair is counted.
counted : (c : After-pair_of-pair) →
    let v = c.args.mail.now.contents in
    let p = c.pair_of-pair.result in
    Counted c.args.a c.args.b v (get_or v (SENT + p) 0 + 1) (set v (SENT + p) (get_or v (SENT + p) 0 + 1))
counted c =
    let m = c.args.mail.now in rw c.pair_of-pair.ensures (counts_one m.contents c.args.a c.args.b m.kept.contents_long)

pub overflow_add-n-2 : goal.overflow_add-n-2
overflow_add-n-2 c =
    let few = rw (sent_at_lem c.args.mail.now.contents, ← c.pair_of-pair.ensures) at c.requires.contents_bound in
    omega (arith, few)

pub invariant_of-mail : goal.invariant_of-mail
invariant_of-mail c =
    let n = counted (goal.at.invariant_of-mail c).After-pair_of-pair in
    record { kept = mail_before _ c.args.mail.now.kept n.long n.before }

pub returns-clause-counted : goal.returns-clause-counted
returns-clause-counted c = counted (goal.at.returns-clause-counted c).After-pair_of-pair
