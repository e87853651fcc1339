use Rattle.std.proofs.Common.{sym}
use Rattle.transit.specs.Mail.{Roomy, Put}
use Rattle.transit.specs.Laws.Promise.{appended_unread}
use Rattle.transit.specs.Laws.Sent.{numbered_put}
use Rattle.transit_append.proofs.append.Goals as goal

pub returns-clause-last : goal.returns-clause-last
returns-clause-last c =
    let m = c.args.mail.now in
    let roomed = c.make_room.new.mail in
    let counted = c.count_one-sequence.new.mail in
    let last = c.put.new.mail in
    let room = c.make_room.ensures in
    let stands = c.put.ensures in
    let roomy : Roomy m.slots m.contents roomed.slots roomed.contents =
    record { kept = roomed.kept; same = room.same; counts = room.counts; room = room.room } in
    let put : Put c.new.result counted.slots counted.contents c.put.result last.slots last.contents =
    record { kept = last.kept; same = stands.same; pair = stands.pair; counts = stands.counts } in
    sym
    (appended_unread
    (numbered_put roomy c.count_one-sequence.ensures.counted (rw (c.new.ensures, c.count_one-sequence.ensures.slots) at put))
    c.requires.contents_len_bound)
