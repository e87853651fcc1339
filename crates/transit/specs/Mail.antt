-- The unread messages in place: what the lent arrays hold, when they hold it, and what each routine makes of it.
-- Paper 01, "Names and places"; paper 02, change 4. Assumes nothing.
use Rattle.std.specs.Prelude.{Some, List, [], ◌∷◌, ◌++◌, ◌≡◌, ℕ, ◌<◌, ◌≤◌, length, get_or}
use Rattle.transit.specs.Columns.{columns_of, sent_in, SLOTS, slots_length, contents_length}
use Rattle.transit.specs.Index.{Index}
use Rattle.base.specs.Lists.{select, tally, without}
use Rattle.transit.specs.Message.{between, picks, cells}
use Rattle.transit.specs.Slots.{messages_of}
use Rattle.transit.specs.Unread.{Unread, counted, next_message, one_message_more, limit, head, each_to, first_to}
use Rattle.transit.specs.declared.Message.{Message}
use Rattle.transit.specs.declared.Place.{Place}
use Rattle.transit.specs.declared.Rank.{Rank}
use Rattle.transit.specs.declared.Selection.{Selection}

-- the unread messages in order of sending
unfoldable pub messages_in : List ℕ → List ℕ → List Message
messages_in slots contents = messages_of (columns_of slots) contents

-- the unread messages, counted, and what each pair has sent
abbrev pub unread_in : List ℕ → List ℕ → Unread
unread_in slots contents = counted (sent_in contents) (messages_in slots contents)

-- what holds of the lent arrays before and after each routine
pub record IsMail (slots contents : List ℕ) : Type 0 where
  pub slots_long : length slots ≡ slots_length
  pub contents_long : length contents ≡ contents_length
  pub index : Index (columns_of slots)
  pub placed : (k : ℕ) → k < SLOTS → get_or (columns_of slots).pairs k 0 < cells → get_or (columns_of slots).places k 0 < 4
  pub within : (columns_of slots).tail ≤ SLOTS
  pub stored : (columns_of slots).unread ≡ length (messages_in slots contents)
  pub few : length (messages_in slots contents) ≤ limit

-- the arrays hold just these messages, packed to the front, and these counts sent
pub record Loaded (l : List Message) (counts slots contents : List ℕ) : Type 0 where
  pub kept : IsMail slots contents
  pub same : messages_in slots contents ≡ l
  pub packed : (columns_of slots).tail ≡ length l
  pub counted : sent_in contents ≡ counts

-- the messages and the counts sent are as they were, and there is room at the tail
pub record Roomy (slots contents slots' contents' : List ℕ) : Type 0 where
  pub kept : IsMail slots' contents'
  pub same : messages_in slots' contents' ≡ messages_in slots contents
  pub counts : sent_in contents' ≡ sent_in contents
  pub room : (columns_of slots').tail < SLOTS

-- the message is behind all others; n of its pair are unread, and the counts sent are as they were
pub record Put (m : Message) (slots contents : List ℕ) (n : ℕ) (slots' contents' : List ℕ) : Type 0 where
  pub kept : IsMail slots' contents'
  pub same : messages_in slots' contents' ≡ messages_in slots contents ++ (m ∷ [])
  pub pair : n ≡ tally (between m.sender m.receiver) (messages_in slots' contents')
  pub counts : sent_in contents' ≡ sent_in contents

-- a message from a to b is behind all others with the next number of its pair, which has sent one more; n of the pair are unread
pub record Appended (a b : Rank) (p : Place) (v : ℕ) (slots contents : List ℕ) (n : ℕ) (slots' contents' : List ℕ) : Type 0 where
  pub kept : IsMail slots' contents'
  pub same : messages_in slots' contents' ≡ messages_in slots contents ++ (next_message a b p v (sent_in contents) ∷ [])
  pub pair : n ≡ tally (between a b) (messages_in slots' contents')
  pub counts : sent_in contents' ≡ one_message_more a b (sent_in contents)

-- the first message of the pair has left, and how many of the pair are left
pub record Left (a b : Rank) (slots contents : List ℕ) (m : Message) (rest : ℕ) (slots' : List ℕ) : Type 0 where
  pub kept : IsMail slots' contents
  pub same : messages_in slots' contents ≡ without (between a b) (messages_in slots contents)
  pub found : head (select (between a b) (messages_in slots contents)) ≡ Some m
  pub pair : rest ≡ tally (between a b) (messages_in slots' contents)

-- the selected messages, n of them, are at the place
pub record Relabelled (s : Selection) (p : Place) (slots contents : List ℕ) (n : ℕ) (slots' : List ℕ) : Type 0 where
  pub kept : IsMail slots' contents
  pub same : messages_in slots' contents ≡ each_to s p (messages_in slots contents)
  pub moved : n ≡ tally (picks s) (messages_in slots contents)

-- the selected message that was sent first is at the place
pub record FirstRelabelled (s : Selection) (p : Place) (slots contents : List ℕ) (slots' : List ℕ) : Type 0 where
  pub kept : IsMail slots' contents
  pub same : messages_in slots' contents ≡ first_to s p (messages_in slots contents)
