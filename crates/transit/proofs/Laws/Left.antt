-- The first message of a pair leaves: four stores in the slots.
-- Assumes nothing.
use Rattle.std.specs.Prelude.{List, ◌≡◌, ℕ, ◌+◌, ◌-◌, ◌<◌, ◌≤◌, length, get_or, set}
use Rattle.std.proofs.Common.{ap, ◌∙◌, arith, eq-eqb, ne_eqb, length-set}
use Rattle.transit.specs.Columns.{columns_of, PLACES, NEXT, FIRST, COUNT, UNREAD, SEQUENCES, SLOTS, DEAD}
use Rattle.base.specs.Lists.{tally, without}
use Rattle.transit.specs.Mail.{messages_in, IsMail, Left}
use Rattle.transit.specs.Message.{between, ranks, cells, pair_of}
use Rattle.transit.specs.Slots.{message_of}
use Rattle.transit.specs.declared.Rank.{Rank}
use Rattle.transit.specs.Laws.Columns.{
  column_sizes,
  store_pair,
  store_first,
  store_count,
  store_unread,
  first_at,
  next_at,
  count_at,
  unread_is,
}
use Rattle.transit.proofs.Laws.Earliest.{Earliest, earliest_live, earliest_found, earliest_without}
use Rattle.transit.specs.Laws.Links.{first_some}
use Rattle.base.specs.Laws.Lists.{tally_bounded, length_without, tally_without}
use Rattle.base.specs.Laws.Stores.{read_set}
use Rattle.transit.specs.Laws.Mail.{count_in}
use Rattle.transit.specs.Laws.Messages.{pair_small, between_pair}
use Rattle.transit.specs.Laws.Take.{front, taken, take_index}

-- the slots after the four stores, for the pair of a number
abbrev pub without_first : List ℕ → ℕ → List ℕ
without_first s p =
    let at = get_or s (FIRST + p) 0 in
    set (set (set (set s at DEAD) (FIRST + p) (get_or s (NEXT + at) 0)) (COUNT + p) (get_or s (COUNT + p) 0 - 1)) UNREAD
    (get_or s UNREAD 0 - 1)

module _ {s v : List ℕ} (a b : Rank) (d : IsMail s v) (small_a : a.0 < ranks) (small_b : b.0 < ranks)
    (some : 0 < tally (between a b) (messages_in s v)) where
  -- The pair has a pair's number.
  small : pair_of a b < cells
  small = pair_small a b small_a small_b

  -- The pair's count is what is unread of it.
  count_is : get_or s (COUNT + pair_of a b) 0 ≡ tally (between a b) (messages_in s v)
  count_is = count_in a b d small_a small_b

  -- The pair has a first slot.
  first_inside : front (columns_of s) (pair_of a b) < SLOTS
  first_inside =
      first_some d.index (column_sizes s d.slots_long) (pair_of a b) small (omega (arith, count_is, count_at s (pair_of a b) small))

  -- The pair's first slot is one, and the pair's count and the number of unread are at least 1.
  pub reads_inside : (get_or s (FIRST + pair_of a b) 0 < SLOTS) × (1 ≤ get_or s (COUNT + pair_of a b) 0) × (1 ≤ get_or s UNREAD 0)
  reads_inside = (
    omega (arith, first_at s (pair_of a b) small, first_inside),
    omega (arith, count_is, some),
    omega (arith, unread_is s, d.stored, tally_bounded (between a b) (messages_in s v), some),
  )

  -- It holds the pair's first message.
  first_earliest : Earliest s v (between a b) (front (columns_of s) (pair_of a b))
  first_earliest =
      let f = d.index.firsts (pair_of a b) small in
      record {
        live = λ inside. omega (arith, f.here inside, small);
        passes = λ inside.
            between_pair a b small_a small_b _ (omega (arith, f.here inside, small)) ∙ eq-eqb _ (pair_of a b) (f.here inside);
        others = λ k h _ live. between_pair a b small_a small_b _ live ∙ ne_eqb _ (pair_of a b) (f.apart k (omega arith) h);
      }

  -- It is live.
  pub first_live : get_or s (get_or s (FIRST + pair_of a b) 0) 0 < cells
  first_live = rw (first_at s (pair_of a b) small) at (earliest_live d first_earliest first_inside)

  -- The columns after the four stores.
  columns_left : columns_of (without_first s (pair_of a b)) ≡ taken (columns_of s) (pair_of a b)
  columns_left =
      let p = pair_of a b in
      let at = get_or s (FIRST + p) 0 in
      let inside = reads_inside.0 in
      let s1 = set s at DEAD in
      let s2 = set s1 (FIRST + p) (get_or s (NEXT + at) 0) in
      let unread = store_unread (set s2 (COUNT + p) (get_or s (COUNT + p) 0 - 1)) (get_or s UNREAD 0 - 1) (simp length-set d.slots_long) in
      let count = store_count s2 p (get_or s (COUNT + p) 0 - 1) small in
      let first = store_first s1 p (get_or s (NEXT + at) 0) small in
      rw (unread, count, first, store_pair s at DEAD inside, first_at s p small, next_at s at inside, count_at s p small, unread_is s)

  -- The pair's first message is no longer there.
  same_left : messages_in (without_first s (pair_of a b)) v ≡ without (between a b) (messages_in s v)
  unfolding messages_in
  same_left = rw columns_left (earliest_without d first_earliest first_inside)

  -- The arrays hold what they must.
  kept_left : IsMail (without_first s (pair_of a b)) v
  kept_left =
      let c = columns_of s in
      let z = column_sizes s d.slots_long in
      let p = pair_of a b in
      let fewer = length_without (between a b) (messages_in s v) some in
      let same = ap length same_left in
      record {
        slots_long = simp length-set d.slots_long;
        contents_long = d.contents_long;
        index = rw columns_left (take_index d.index z p small first_inside);
        placed = λ k h live.
            rw columns_left (d.placed k h
            (read_set c.pairs (front c p) DEAD 0 (omega (arith, z.pairs_long, first_inside))
            (λ q. q < cells → get_or c.pairs k 0 < cells) k (λ _ l. absurd (omega arith)) (λ _ l. l) (rw columns_left at live)));
        within = rw columns_left d.within;
        stored = rw columns_left (omega (arith, d.stored));
        few = omega (arith, d.few);
      }

  -- What has left.
  pub has_left : let at = get_or s (FIRST + pair_of a b) 0 in
      Left a b s v (message_of (get_or s at 0) (get_or s (PLACES + at) 0) (get_or v at 0) (get_or v (SEQUENCES + at) 0))
      (get_or s (COUNT + pair_of a b) 0 - 1) (without_first s (pair_of a b))
  has_left =
      let found = earliest_found d first_earliest first_inside in
      let fewer = tally_without (between a b) (between a b) (λ x e. e) (messages_in s v) some in
      record {
        kept = kept_left;
        same = same_left;
        found = rw (first_at s (pair_of a b) small) at found;
        pair = rw same_left (omega (arith, count_is));
      }
