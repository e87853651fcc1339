-- Send, take and look: what each does to the state and answers. Paper 01, "The step log", kinds 04, 05 and 0C; paper 02, changes 4
-- and 6. Assumes nothing.
use Rattle.std.specs.Prelude.{ℕ}
use Rattle.base.specs.Lists.{tally}
use Rattle.transit.specs.Message.{between}
use Rattle.transit.specs.Unread.{appended, next_message, sent_at, AfterRemove, removed, value_in, sequence_in, sender_in, first_sent}
use Rattle.transit.specs.declared.Message.{Message}
use Rattle.transit.specs.declared.Place.{Place}
use Rattle.transit.specs.declared.Place.TheVariants.{SourceChannel, Channel}
use Rattle.transit.specs.declared.Rank.{Rank}
use Rattle.transit.specs.declared.Selection.TheVariants.{To, Between}
use Rattle.protocol.specs.Done.{Done, done}
use Rattle.broker.specs.State.{State, connection, messages, with_unread}
use Rattle.broker.specs.declared.link.Connection.{Connection}
use Rattle.broker.specs.declared.link.Connection.TheVariants.{Closed, Open, Closing}

-- "place 3 on a plain line, place 1 on a notice line"; where there is no line nothing is sent
abbrev pub place_over : Connection → Place
place_over Closed = Channel
place_over Open = Channel
place_over Closing = SourceChannel

-- "unread of the pair"
abbrev pub unread_between : Rank → Rank → State → ℕ
unread_between a b s = tally (between a b) (messages s)

-- "the count sent" of the pair
abbrev pub sent_between : Rank → Rank → State → ℕ
sent_between a b s = sent_at a b s.unread.sent

-- the message that a send makes, "from 1 in order of sending"
abbrev pub sent_message : Rank → Rank → ℕ → State → Message
sent_message a b v s = next_message a b (place_over (connection s a b)) v s.unread.sent

-- the state with the message among the unread
abbrev pub after_send : Rank → Rank → ℕ → State → State
after_send a b v s = with_unread (appended s.unread a b (place_over (connection s a b)) v).unread s

-- "v1 unread of the pair afterwards"
unfoldable pub send : Rank → Rank → ℕ → State → Done
send a b v s = done (after_send a b v s) (unread_between a b (after_send a b v s)) 0 0

abbrev pub after_take : Rank → Rank → State → AfterRemove
after_take b a s = removed (Between a b) s.unread

-- "the first unread message from a to b in place order leaves. v1 value, v2 unread of the pair afterwards." Paper 02, change 4, of the
-- running number: "A take gives it as v3"
unfoldable pub take : Rank → Rank → State → Done
take b a s =
    done
    (with_unread (after_take b a s).unread s)
    (value_in (after_take b a s).found)
    (unread_between a b (with_unread (after_take b a s).unread s))
    (sequence_in (after_take b a s).found)

-- Paper 02, change 6: "Look now names the sender of the message sent first of all those unread by r, whatever its place." The messages are
-- one list in order of sending, so that order over all pairs is in step with each pair's
abbrev pub oldest_sender : Rank → State → Rank
oldest_sender r s = sender_in (first_sent (To r) s.unread)

unfoldable pub look : Rank → State → Done
look r s = done s (oldest_sender r s).0 0 0
