-- The first live slot whose message passes a test: what is found there, what is left where it dies, and what becomes of the messages
-- where it alone changes its place. Assumes nothing.
use Rattle.std.specs.Prelude.{Some, Bool, true, false, List, [], ◌≡◌, ℕ, ◌+◌, ◌<◌, ◌≤◌, length, get_or, set}
use Rattle.std.proofs.Common.{ap, arith, get_or-set_same, get_or-set_other}
use Rattle.transit.specs.Columns.{columns_of, with_places, PLACES, SEQUENCES, SLOTS, DEAD}
use Rattle.base.specs.Lists.{select, without, change_first}
use Rattle.transit.specs.Mail.{messages_in, IsMail}
use Rattle.transit.specs.Message.{place_number, relabelled, cells}
use Rattle.transit.specs.Slots.{held, message_of, message_at, messages_of}
use Rattle.transit.specs.Unread.{head}
use Rattle.transit.specs.declared.Message.{Message}
use Rattle.transit.specs.declared.Place.{Place}
use Rattle.transit.specs.Laws.Columns.{column_sizes, pair_at, place_at}
use Rattle.transit.specs.Laws.Held.{held_first, held_without, held_changed, held_none}
use Rattle.transit.specs.Laws.Messages.{place_back_lem}

-- the message of a slot, whatever its pair
abbrev pub slot_message : List ℕ → List ℕ → ℕ → Message
slot_message s v k = message_at (columns_of s).places v k (get_or (columns_of s).pairs k 0)

-- at is the first live slot whose message passes the test, or 2,048 where none does
pub record Earliest (s v : List ℕ) (q : Message → Bool) (at : ℕ) : Type 0 where
  pub live : at < SLOTS → get_or (columns_of s).pairs at 0 < cells
  pub passes : at < SLOTS → q (slot_message s v at) ≡ true
  pub others : (k : ℕ) → k < at → k < SLOTS → get_or (columns_of s).pairs k 0 < cells → q (slot_message s v k) ≡ false

module _ {s v : List ℕ} {q : Message → Bool} {at : ℕ} (d : IsMail s v) (x : Earliest s v q at) where
  -- Where there is none, no message passes.
  pub earliest_nothing : SLOTS ≤ at → select q (messages_in s v) ≡ []
  unfolding messages_in
  earliest_nothing end =
      let long = (column_sizes s d.slots_long).pairs_long in
      held_none (message_at (columns_of s).places v) q (columns_of s).pairs (λ k h live. x.others k (omega arith) (omega arith) live)

  module _ (inside : at < SLOTS) where
    -- It is a slot.
    fits : at < length (columns_of s).pairs
    fits = omega (arith, (column_sizes s d.slots_long).pairs_long)

    -- No slot before it passes.
    before : (k : ℕ) → k < at → get_or (columns_of s).pairs k 0 < cells → q (slot_message s v k) ≡ false
    before k h live = x.others k h (omega arith) live

    -- It is of a pair.
    pub earliest_live : get_or s at 0 < cells
    earliest_live = rw (pair_at s at inside) at (x.live inside)

    -- It holds the message that passes and was sent first.
    pub earliest_found : head (select q (messages_in s v)) ≡
        Some (message_of (get_or s at 0) (get_or s (PLACES + at) 0) (get_or v at 0) (get_or v (SEQUENCES + at) 0))
    unfolding messages_in
    earliest_found =
        rw (pair_at s at inside, place_at s at inside) at
        (ap head (held_first (message_at (columns_of s).places v) q (columns_of s).pairs at fits (x.live inside) (x.passes inside) before))

    -- Where it dies, that message has left.
    pub earliest_without : held (message_at (columns_of s).places v) 0 (set (columns_of s).pairs at DEAD) ≡ without q (messages_in s v)
    unfolding messages_in
    earliest_without =
        held_without (message_at (columns_of s).places v) q (columns_of s).pairs at fits (x.live inside) (x.passes inside) before

    -- Where it alone goes to a place, that message does.
    pub earliest_changed : (target : Place)
        → messages_of (with_places (columns_of s) (set (columns_of s).places at (place_number target))) v
        ≡ change_first q (relabelled target) (messages_in s v)
    unfolding messages_in
    earliest_changed target =
        let c = columns_of s in
        let n = place_number target in
        held_changed (message_at c.places v) q c.pairs at fits (x.live inside) (x.passes inside) before
        (message_at (set c.places at n) v) (relabelled target)
        (rw (get_or-set_same c.places at n 0 (omega (arith, (column_sizes s d.slots_long).places_long)), place_back_lem target))
        (λ k p ne. rw (get_or-set_other c.places at k n 0 ne))
