use Rattle.std.proofs.Common.{refl, ◌+◌, ◌-◌, ◌<◌, ◌≤◌, get_or, set, ap, arith}
use Rattle.transit.specs.Columns.{sent_in, NEXT, FIRST, COUNT, UNREAD, SLOTS, DEAD}
use Rattle.transit.specs.Mail.{Left}
use Rattle.transit.specs.Unread.{counted}
use Rattle.transit.proofs.Laws.Left.{reads_inside, first_live, has_left}
use Rattle.transit_remove.proofs.remove.Goals as goal
use Rattle.transit_remove.proofs.remove.Goals.{After-from-at, After-message_at-message}

-- The pair's first slot is one, and the pair's count and the number of unread are at least 1.
inside : (c : After-from-at) → let s = c.args.mail.now.slots in
    (c.from-at.result < SLOTS) × (1 ≤ get_or s (COUNT + c.pair_of-pair.result) 0) × (1 ≤ get_or s UNREAD 0)
inside c =
    let r = c.requires in
    rw (c.from-at.ensures, c.pair_of-pair.ensures)
    (reads_inside c.args.a c.args.b c.args.mail.now.kept r.a_lt_ranks r.b_lt_ranks r.nonzero)

-- What has left.
left : (c : After-message_at-message) →
    let s = c.args.mail.now.slots in
    let p = c.pair_of-pair.result in
    let at = c.from-at.result in
    Left c.args.a c.args.b s c.args.mail.now.contents c.message_at-message.result (get_or s (COUNT + p) 0 - 1)
    (set (set (set (set s at DEAD) (FIRST + p) (get_or s (NEXT + at) 0)) (COUNT + p) (get_or s (COUNT + p) 0 - 1)) UNREAD
    (get_or s UNREAD 0 - 1))
left c =
    let r = c.requires in
    rw (c.message_at-message.ensures, c.from-at.ensures, c.pair_of-pair.ensures)
    (has_left c.args.a c.args.b c.args.mail.now.kept r.a_lt_ranks r.b_lt_ranks r.nonzero)

-- The slot is read, the counts can be one less, and the slot can be written.
pub message_at-message-requires-clause-at_lt_slots : goal.message_at-message-requires-clause-at_lt_slots
message_at-message-requires-clause-at_lt_slots c = (inside (goal.at.message_at-message-requires-clause-at_lt_slots c).After-from-at).0

-- The pair's first slot is live.
pub message_at-message-requires-clause-live : goal.message_at-message-requires-clause-live
message_at-message-requires-clause-live c =
    let r = c.requires in
    rw (c.from-at.ensures, c.pair_of-pair.ensures)
    (first_live c.args.a c.args.b c.args.mail.now.kept r.a_lt_ranks r.b_lt_ranks r.nonzero)

pub bounds-mail-at : goal.bounds-mail-at
bounds-mail-at c = omega (arith, (inside (goal.at.bounds-mail-at c).After-from-at).0)

pub overflow_sub-left : goal.overflow_sub-left
overflow_sub-left c = omega (arith, (inside (goal.at.overflow_sub-left c).After-from-at).1)

pub overflow_sub-unread : goal.overflow_sub-unread
overflow_sub-unread c = omega (arith, (inside (goal.at.overflow_sub-unread c).After-from-at).2)

pub bounds-mail-at-2 : goal.bounds-mail-at-2
bounds-mail-at-2 c = omega (arith, (inside (goal.at.bounds-mail-at-2 c).After-from-at).0)

pub invariant_of-mail : goal.invariant_of-mail
invariant_of-mail c = record { kept = (left (goal.at.invariant_of-mail c).After-message_at-message).kept }

pub returns : goal.returns
returns c =
    let l = left (goal.at.returns c).After-message_at-message in
    record { first = l.found; rest = ap (counted (sent_in c.args.mail.now.contents)) l.same; left = l.pair; contents = refl }
