-- The messages in the lent arrays: their ranks, what the stored numbers count, and that a change of places alone keeps the arrays in order.
-- Assumes nothing.
use Rattle.std.specs.Prelude.{Bool, true, false, not, List, [], ◌≡◌, ℕ, ◌+◌, ◌<◌, ◌≤◌, ltb, length, get_or}
use Rattle.std.proofs.Common.{sym, ◌∙◌, arith, ne_eqb, ltb-true}
use Rattle.std.proofs.Math.Logic.{◌⊎◌, inl, inr}
use Rattle.transit.specs.Columns.{columns_of, with_places, COUNT, UNREAD, SLOTS, slots_length}
use Rattle.base.specs.Lists.{select, tally, every}
use Rattle.transit.specs.Mail.{messages_in, IsMail}
use Rattle.transit.specs.Message.{is_same_rank, to, between, ranks, cells, pair_of}
use Rattle.transit.specs.Slots.{ranked}
use Rattle.transit.specs.Unread.{limit}
use Rattle.transit.specs.declared.Message.{Message}
use Rattle.transit.specs.declared.Rank.{Rank}
use Rattle.transit.specs.Laws.Columns.{count_at, unread_is}
use Rattle.transit.specs.Laws.Links.{index_places}
use Rattle.base.specs.Laws.Lists.{every_wider, select_none, tally_bounded}
use Rattle.transit.specs.Laws.Messages.{held_ranked, pair_small, count_messages}
use Rattle.base.specs.Laws.Tests.{by_test, both_left, both_right}

-- Both ranks of each message are below sixteen.
pub ranked_in : (s v : List ℕ) → every ranked (messages_in s v) ≡ true
unfolding messages_in
ranked_in s v = held_ranked (columns_of s).places v (columns_of s).pairs

-- The number stored is how many messages are unread.
pub unread_in_lem : {s v : List ℕ} → IsMail s v → get_or s UNREAD 0 ≡ length (messages_in s v)
unread_in_lem {s} {v} d = sym (unread_is s) ∙ d.stored

-- The number stored for a pair is how many of its messages are unread.
pub count_in : {s v : List ℕ} (a b : Rank) → IsMail s v → a.0 < ranks → b.0 < ranks
    → get_or s (COUNT + pair_of a b) 0 ≡ tally (between a b) (messages_in s v)
unfolding messages_in
count_in {s} {v} a b d small_a small_b =
    sym (count_at s (pair_of a b) (pair_small a b small_a small_b)) ∙ count_messages a b small_a small_b d.index v

-- How many messages pass a test never passes 1,024.
pub tally_limit : {s v : List ℕ} → IsMail s v → (q : Message → Bool) → tally q (messages_in s v) ≤ limit
tally_limit {s} {v} d q = omega (arith, tally_bounded q (messages_in s v), d.few)

-- Paper 02, change 3: "The unread count of a pair never passes 1,024." The number stored for it.
pub count_limit : {s v : List ℕ} (a b : Rank) → IsMail s v → a.0 < ranks → b.0 < ranks → get_or s (COUNT + pair_of a b) 0 ≤ limit
count_limit a b d small_a small_b = omega (arith, count_in a b d small_a small_b, tally_limit d (between a b))

-- What passes at no message between ranks passes at none.
pub none_in : (s v : List ℕ) (q : Message → Bool) → ((m : Message) → ranked m ≡ true → q m ≡ false) → select q (messages_in s v) ≡ []
none_in s v q never =
    select_none q (messages_in s v) (every_wider ranked (λ m. not (q m)) (λ m h. rw (never m h)) (messages_in s v) (ranked_in s v))

-- No message is from a rank past the sixteen.
pub sender_past : (a : Rank) (m : Message) → ranks ≤ a.0 → ranked m ≡ true → is_same_rank m.sender a ≡ false
sender_past a m past h =
    ne_eqb m.sender.0 a.0 (λ e. omega (arith, e, ltb-true m.sender.0 ranks (both_left (ltb m.sender.0 ranks) _ h)))

-- No message is to a rank past the sixteen.
pub receiver_past : (b : Rank) (m : Message) → ranks ≤ b.0 → ranked m ≡ true → to b m ≡ false
receiver_past b m past h =
    ne_eqb m.receiver.0 b.0
    (λ e. omega (arith, e, ltb-true m.receiver.0 ranks (both_right (ltb m.sender.0 ranks) _ h)))

-- No message is of a pair whose sender is past the sixteen.
pub between_past_sender : (a b : Rank) (m : Message) → ranks ≤ a.0 → ranked m ≡ true → between a b m ≡ false
between_past_sender a b m past h = rw (sender_past a m past h)

-- No message is of a pair whose receiver is past the sixteen.
pub between_past_receiver : (a b : Rank) (m : Message) → ranks ≤ b.0 → ranked m ≡ true → between a b m ≡ false
between_past_receiver a b m past h =
    by_test (is_same_rank m.sender a) (λ e. rw (e, receiver_past b m past h)) (λ e. rw e)

-- No message is of a pair of which a rank is past the sixteen.
pub between_past : (a b : Rank) (m : Message) → (ranks ≤ a.0) ⊎ ((a.0 < ranks) × (ranks ≤ b.0)) → ranked m ≡ true → between a b m ≡ false
between_past a b m (inl past) h = between_past_sender a b m past h
between_past a b m (inr past) h = between_past_receiver a b m past.1 h

-- Where the places alone change, to places, and as many messages are unread, the arrays hold what they must.
pub mail_places : {s v s' l : List ℕ} → IsMail s v → length s' ≡ slots_length → columns_of s' ≡ with_places (columns_of s) l
    → ((k : ℕ) → k < SLOTS → get_or (columns_of s).pairs k 0 < cells → get_or l k 0 < 4)
    → length (messages_in s' v) ≡ length (messages_in s v) → IsMail s' v
mail_places {l = l} d long changed placed same = record {
  slots_long = long;
  contents_long = d.contents_long;
  index = rw changed (index_places l d.index);
  placed = λ k h live. rw changed (placed k h (rw changed at live));
  within = rw changed d.within;
  stored = rw changed (d.stored ∙ sym same);
  few = omega (arith, d.few);
}
