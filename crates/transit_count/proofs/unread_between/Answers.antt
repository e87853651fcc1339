use Rattle.std.proofs.Common.{length, sym, ap}
use Rattle.transit.specs.Laws.Mail.{count_in, none_in, between_past}
use Rattle.transit_count.proofs.unread_between.Goals as goal

pub returns-then-a-ge-LIMIT : goal.returns-then-a-ge-LIMIT
returns-then-a-ge-LIMIT c =
    λ v d. sym (ap length (none_in c.args.slots.now v _ (λ x. between_past c.args.a c.args.b x c.then-a-ge-LIMIT.either)))

pub returns : goal.returns
returns c = λ v d. rw c.pair_of.ensures (count_in c.args.a c.args.b d c.if-a-ge-LIMIT.false c.if-b-ge-LIMIT.false)
