use Rattle.std.proofs.Common.{sym, ap}
use Rattle.transit.specs.Message.{picks}
use Rattle.transit.specs.Unread.{head}
use Rattle.transit.specs.declared.Selection.TheVariants.{To}
use Rattle.transit.proofs.Laws.Earliest.{Earliest, earliest_nothing, earliest_live, earliest_found}
use Rattle.transit.specs.Laws.Mail.{none_in, receiver_past}
use Rattle.transit.proofs.Laws.Oldest.{oldest_earliest}
use Rattle.transit_find.proofs.first_to.Goals as goal
use Rattle.transit_find.proofs.first_to.Goals.{After-from-at}

-- The slot found is the first of a message to the receiver.
is_earliest : (c : After-from-at) →
    let m = c.args.mail.now in Earliest m.slots m.contents (picks (To c.args.r)) c.from-at.result
is_earliest c =
    rw c.from-at.ensures
    (oldest_earliest c.args.mail.now.kept c.args.r c.if-r-ge-LIMIT.false (rw c.from.ensures at c.oldest.ensures))

pub returns-then-r-ge-LIMIT : goal.returns-then-r-ge-LIMIT
returns-then-r-ge-LIMIT c =
    let m = c.args.mail.now in
    sym (ap head (none_in m.slots m.contents _ (λ x. receiver_past c.args.r x c.if-r-ge-LIMIT.true)))

pub returns-then-at-ge-SLOTS : goal.returns-then-at-ge-SLOTS
returns-then-at-ge-SLOTS c =
    let there = is_earliest (goal.at.returns-then-at-ge-SLOTS c).After-from-at in
    sym (ap head (earliest_nothing c.args.mail.now.kept there c.if-at-ge-SLOTS.true))

pub message_at-requires-clause-live : goal.message_at-requires-clause-live
message_at-requires-clause-live c =
    earliest_live c.args.mail.now.kept (is_earliest (goal.at.message_at-requires-clause-live c).After-from-at) c.if-at-ge-SLOTS.false

pub returns : goal.returns
returns c =
    rw c.message_at.ensures
    (sym (earliest_found c.args.mail.now.kept (is_earliest (goal.at.returns c).After-from-at) c.if-at-ge-SLOTS.false))
