-- What a `Transit` holds, and what each routine makes of it. Paper 01, "Names and places"; paper 02, change 4.
-- Assumes nothing.
use Rattle.std.specs.Prelude.{
  Option,
  Some,
  None,
  Bool,
  true,
  false,
  cond,
  ◌&&◌,
  List,
  [],
  ◌∷◌,
  ◌++◌,
  map,
  ℕ,
  ◌+◌,
  ltb,
  length,
  take,
  get_or,
  set,
  replicate,
}
use Rattle.base.specs.Lists.{select, without, change_first, change_each}
use Rattle.transit.specs.Message.{rank, message, picks, place_order, relabelled, at, pair_of, cells}
use Rattle.transit.specs.declared.Message.{Message}
use Rattle.transit.specs.declared.Place.{Place}
use Rattle.transit.specs.declared.Rank.{Rank}
use Rattle.transit.specs.declared.Selection.{Selection}
use Rattle.transit.specs.declared.Transit.{Transit}

-- the unread messages in order of sending, and the count as it is stored: the two agree in a sound state; and how many messages each pair
-- has sent
pub record Unread : Type 0 where
  pub messages : List Message
  pub count : ℕ
  pub sent : List ℕ

-- the slots past the count mean nothing
abbrev pub unread_of : Transit → Unread
unread_of t = record { messages = take t.count t.messages; count = t.count; sent = t.sent }

-- "At most 1,024 are unread in the whole desk."
abbrev pub limit : ℕ
limit = 1024

-- "A fresh desk has .. no messages"
abbrev pub nothing : Unread
nothing = record { messages = []; count = 0; sent = replicate cells 0 }

-- a list of messages, counted, with the counts sent
abbrev pub counted : List ℕ → List Message → Unread
counted counts l = record { messages = l; count = length l; sent = counts }

-- how many messages a has sent to b
abbrev pub sent_at : Rank → Rank → List ℕ → ℕ
sent_at a b counts = get_or counts (pair_of a b) 0

-- the counts once a has sent b one more
abbrev pub one_message_more : Rank → Rank → List ℕ → List ℕ
one_message_more a b counts = set counts (pair_of a b) (sent_at a b counts + 1)

-- Paper 02, change 4: "The number of a message within its ordered pair, from 1 in order of sending, is now kept with the message"
abbrev pub next_message : Rank → Rank → Place → ℕ → List ℕ → Message
next_message a b p v counts = message a b p v (sent_at a b counts + 1)

-- "when the pair has already sent 4,294,967,295"
abbrev pub most_sent : ℕ
most_sent = 4294967295

-- whether it was full, and what is unread afterwards
pub record AfterAppend : Type 0 where
  pub full : Bool
  pub unread : Unread

-- a new message from a to b at the place comes last, or all is as it was
unfoldable pub appended : Unread → Rank → Rank → Place → ℕ → AfterAppend
appended u a b p v =
    cond (ltb u.count limit)
    (record {
      full = false;
      unread =
          record {
            messages = u.messages ++ (next_message a b p v u.sent ∷ []);
            count = u.count + 1;
            sent = one_message_more a b u.sent;
          };
    })
    (record { full = true; unread = u })

-- the head of a list of messages
abbrev pub head : List Message → Option Message
head [] = None
head (m ∷ ms) = Some m

-- the value of what was found, and 0 of nothing
abbrev pub value_in : Option Message → ℕ
value_in None = 0
value_in (Some m) = m.value

-- the running number of what was found, and 0 of nothing
abbrev pub sequence_in : Option Message → ℕ
sequence_in None = 0
sequence_in (Some m) = m.sequence

-- the sender of what was found, and rank 0 of nothing
abbrev pub sender_in : Option Message → Rank
sender_in None = rank 0
sender_in (Some m) = m.sender

-- the selected message that was sent first
abbrev pub first_sent : Selection → Unread → Option Message
first_sent s u = head (select (picks s) u.messages)

-- each selected message at the place
abbrev pub each_to : Selection → Place → List Message → List Message
each_to s p l = map (change_each (picks s) (relabelled p)) l

-- the selected message that was sent first at the place
abbrev pub first_to : Selection → Place → List Message → List Message
first_to s p l = change_first (picks s) (relabelled p) l

-- each selected message goes to the place
unfoldable pub relabel_all : Selection → Place → Unread → Unread
relabel_all s p u = record { messages = each_to s p u.messages; count = u.count; sent = u.sent }

-- the selected message that was sent first goes to the place
unfoldable pub relabel_first : Selection → Place → Unread → Unread
relabel_first s p u = record { messages = first_to s p u.messages; count = u.count; sent = u.sent }

-- what a removal found, and what is unread afterwards
pub record AfterRemove : Type 0 where
  pub found : Option Message
  pub unread : Unread

-- the messages without the first of the selected ones at a message's place
abbrev pub take_out : Selection → Message → List Message → List Message
take_out s m l = without (λ x. picks s x && at m.place x) l

-- the message leaves that was sent first of the selected ones at its place
abbrev pub leave : Selection → Unread → Option Message → AfterRemove
leave s u None = record { found = None; unread = u }
leave s u (Some m) = record { found = Some m; unread = counted u.sent (take_out s m u.messages) }

-- "the first unread message .. in place order leaves"
unfoldable pub removed : Selection → Unread → AfterRemove
removed s u = leave s u (head (place_order s u.messages))
