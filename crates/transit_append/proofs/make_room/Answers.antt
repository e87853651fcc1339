use Rattle.std.proofs.Common.{arith, ap, sym, length, ◌∙◌}
use Rattle.transit.specs.Laws.Columns.{tail_is}
use Rattle.transit.specs.Laws.Mail.{ranked_in}
use Rattle.transit.specs.Unread.{Unread}
use Rattle.transit_append.proofs.make_room.Goals as goal

-- There is room.
pub returns-then-mail-lt-NONE-clause-room : goal.returns-then-mail-lt-NONE-clause-room
returns-then-mail-lt-NONE-clause-room c = omega (arith, tail_is c.args.mail.now.slots, c.if-mail-lt-NONE.true)

-- The messages are unloaded and loaded again.
pub load_into-requires-clause-t_value : goal.load_into-requires-clause-t_value
load_into-requires-clause-t_value c =
    let list = ap (λ (u : Unread). u.messages) c.unload-packed.ensures in
    rw list (ranked_in c.args.mail.now.slots c.args.mail.now.contents)

pub load_into-requires-clause-counted : goal.load_into-requires-clause-counted
load_into-requires-clause-counted c =
    ap (λ (u : Unread). u.count) c.unload-packed.ensures ∙
    sym (ap (λ (u : Unread). length u.messages) c.unload-packed.ensures)
