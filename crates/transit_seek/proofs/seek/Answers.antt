use Rattle.std.proofs.Common.{arith}
use Rattle.transit.proofs.Laws.Search.{walk_first, walk_on, walk_next, walk_there}
use Rattle.transit_seek.proofs.seek.Goals as goal

pub loop-at-init : goal.loop-at-init
loop-at-init c =
    let m = c.args.mail.now in
    rw c.from-at.ensures (walk_first m.slots m.kept.index c.requires)

pub returns-then-mail-at : goal.returns-then-mail-at
returns-then-mail-at c =
    let m = c.args.mail.now in
    walk_there m.slots m.kept.index c.requires c.loop-at.invariant (omega arith) c.if-mail-at.true

pub loop-at-preserved : goal.loop-at-preserved
loop-at-preserved c =
    let m = c.args.mail.now in
    rw c.from-at-in-loop-at.ensures
    (walk_next m.slots m.kept.index c.requires c.loop-at.invariant (omega arith) c.if-mail-at.false)

pub loop-at-smaller : goal.loop-at-smaller
loop-at-smaller c =
    let m = c.args.mail.now in
    let on = walk_on m.slots m.kept.index c.requires c.loop-at.invariant (omega arith) in
    omega (arith, c.from-at-in-loop-at.ensures, on)
