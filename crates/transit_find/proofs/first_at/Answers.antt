use Rattle.std.proofs.Common.{sym, ap}
use Rattle.transit.specs.Message.{picks}
use Rattle.transit.specs.Unread.{head}
use Rattle.transit.specs.declared.Selection.TheVariants.{BetweenAt}
use Rattle.transit.proofs.Laws.Earliest.{Earliest, earliest_nothing, earliest_live, earliest_found}
use Rattle.transit.specs.Laws.Mail.{none_in, between_past}
use Rattle.transit.proofs.Laws.Search.{reached_earliest}
use Rattle.transit_find.proofs.first_at.Goals as goal
use Rattle.transit_find.proofs.first_at.Goals.{After-seek-at}

-- The walk came to the first slot of a message of the pair at the place.
is_earliest : (c : After-seek-at) →
    let m = c.args.mail.now in
    Earliest m.slots m.contents (picks (BetweenAt c.args.a c.args.b c.args.place)) c.seek-at.result
is_earliest c =
    let a = c.args in
    reached_earliest a.mail.now.kept a.a a.b c.if-a-ge-LIMIT.false c.if-b-ge-LIMIT.false a.place
    (rw (c.pair_of.ensures, c.from.ensures, c.number.ensures) at c.seek-at.ensures)

pub returns-then-a-ge-LIMIT : goal.returns-then-a-ge-LIMIT
returns-then-a-ge-LIMIT c =
    let a = c.args in
    let m = a.mail.now in
    sym (ap head (none_in m.slots m.contents _ (λ x h. rw (between_past a.a a.b x c.then-a-ge-LIMIT.either h))))

pub returns-then-at-ge-SLOTS : goal.returns-then-at-ge-SLOTS
returns-then-at-ge-SLOTS c =
    let there = is_earliest (goal.at.returns-then-at-ge-SLOTS c).After-seek-at in
    sym (ap head (earliest_nothing c.args.mail.now.kept there c.if-at-ge-SLOTS.true))

pub message_at-requires-clause-live : goal.message_at-requires-clause-live
message_at-requires-clause-live c =
    earliest_live c.args.mail.now.kept (is_earliest (goal.at.message_at-requires-clause-live c).After-seek-at) c.if-at-ge-SLOTS.false

pub returns : goal.returns
returns c =
    rw c.message_at.ensures
    (sym (earliest_found c.args.mail.now.kept (is_earliest (goal.at.returns c).After-seek-at) c.if-at-ge-SLOTS.false))
