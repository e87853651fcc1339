-- A message put at the tail: eight stores in the slots, two in the contents.
-- Assumes nothing.
use Rattle.std.specs.Prelude.{true, List, [], ◌∷◌, ◌++◌, ◌≢◌, ◌≡◌, refl, ℕ, ◌+◌, ◌<◌, ◌≤◌, length, get_or, set}
use Rattle.std.proofs.Common.{sym, ap, ◌∙◌, arith, eq-eqb, length-set, length-append, get_or-set_other}
use Rattle.transit.specs.Columns.{
  columns_of,
  with_pairs,
  with_places,
  with_next,
  with_first,
  PLACES,
  NEXT,
  FIRST,
  LAST,
  COUNT,
  TAIL,
  UNREAD,
  SEQUENCES,
  SLOTS,
  slots_length,
}
use Rattle.transit.specs.Index.{Sizes}
use Rattle.base.specs.Lists.{tally}
use Rattle.transit.specs.Mail.{messages_in, IsMail, Put}
use Rattle.transit.specs.Message.{between, place_number, ranks, cells, pair_of}
use Rattle.transit.specs.Unread.{limit}
use Rattle.transit.specs.declared.Message.{Message}
use Rattle.transit.specs.Laws.Columns.{
  column_sizes,
  store_pair,
  store_place,
  store_next,
  store_first,
  store_last,
  store_count,
  store_tail,
  store_unread,
  first_at,
  last_at,
  count_at,
  tail_is,
  unread_is,
}
use Rattle.transit.specs.Laws.Mail.{count_in, count_limit, unread_in_lem}
use Rattle.transit.specs.Laws.Messages.{pair_small, put_messages}
use Rattle.base.specs.Laws.Lists.{tally_append}
use Rattle.transit.specs.Laws.Order.{place_below_four}
use Rattle.transit.specs.Laws.Sent.{sent_before}
use Rattle.transit.specs.Laws.Put.{filled, Joined, joined_first, joined_behind, last_inside, put_index}
use Rattle.base.specs.Laws.Stores.{read_set}
use Rattle.base.specs.Laws.Tests.{both}

-- a message can be put at the tail: p is the number of its pair, n that of its place
pub record Room (s v : List ℕ) (m : Message) (p n : ℕ) : Type 0 where
  pub mail : IsMail s v
  pub room : (columns_of s).tail < SLOTS
  pub few : length (messages_in s v) < limit
  pub from : m.sender.0 < ranks
  pub to : m.receiver.0 < ranks
  pub of_pair : p ≡ pair_of m.sender m.receiver
  pub at_place : n ≡ place_number m.place

-- the slots after the stores of the slot at the tail: its pair, its place and no next
abbrev pub begun : List ℕ → ℕ → ℕ → List ℕ
begun s p n =
    let t = get_or s TAIL 0 in
    set (set (set s t p) (PLACES + t) n) (NEXT + t) SLOTS

-- the slots after the stores of the pair's last slot and count, of the tail and of the number of unread
abbrev pub ended : List ℕ → List ℕ → ℕ → List ℕ
ended s x p =
    let t = get_or s TAIL 0 in
    set (set (set (set x (LAST + p) t) (COUNT + p) (get_or s (COUNT + p) 0 + 1)) TAIL (t + 1)) UNREAD (get_or s UNREAD 0 + 1)

-- the contents after the stores of the message's value and running number
abbrev pub filled_in : List ℕ → ℕ → Message → List ℕ
filled_in v t m = set (set v t m.value) (SEQUENCES + t) m.sequence

-- the slots between the two: the links joined, and nothing else changed since
pub record Branched (s : List ℕ) (p n : ℕ) (x : List ℕ) : Type 0 where
  pub next : List ℕ
  pub first : List ℕ
  pub long : length x ≡ slots_length
  pub joined : Joined (columns_of s) p next first
  pub columns : let c = columns_of s in
      columns_of x ≡ with_first (with_next (with_places (with_pairs c (set c.pairs c.tail p)) (set c.places c.tail n)) next) first

module _ {s v : List ℕ} {m : Message} {p n : ℕ} (r : Room s v m p n) where
  -- Its pair has a pair's number.
  small : p < cells
  small = omega (arith, r.of_pair, pair_small m.sender m.receiver r.from r.to)

  -- The columns have their lengths.
  sized : Sizes (columns_of s)
  sized = column_sizes s r.mail.slots_long

  -- The tail is a slot.
  pub tail_inside : get_or s TAIL 0 < SLOTS
  tail_inside = omega (arith, tail_is s, r.room)

  -- A pair has at most 1,024 messages unread, and fewer are unread in all.
  pub counts_few : (get_or s (COUNT + p) 0 ≤ limit) × (get_or s UNREAD 0 < limit)
  counts_few = (
    rw r.of_pair (count_limit m.sender m.receiver r.mail r.from r.to),
    omega (arith, unread_in_lem r.mail, r.few),
  )

  -- The columns after the first stores.
  begun_columns : let c = columns_of s in
      columns_of (begun s p n)
      ≡ with_next (with_places (with_pairs c (set c.pairs c.tail p)) (set c.places c.tail n)) (set c.next c.tail SLOTS)
  begun_columns =
      let t = get_or s TAIL 0 in
      let linked = store_next (set (set s t p) (PLACES + t) n) t SLOTS tail_inside in
      rw (linked, store_place (set s t p) t n tail_inside, store_pair s t p tail_inside, tail_is s)

  -- The pair had none: the slot is its first.
  pub begins : get_or s (FIRST + p) 0 ≡ SLOTS → Branched s p n (set (begun s p n) (FIRST + p) (get_or s TAIL 0))
  begins none =
      let c = columns_of s in
      record {
        next = set c.next c.tail SLOTS;
        first = set c.first p c.tail;
        long = simp length-set r.mail.slots_long;
        joined = joined_first r.mail.index sized p small r.room (first_at s p small ∙ none);
        columns = rw (store_first (begun s p n) p (get_or s TAIL 0) small, begun_columns, tail_is s);
      }

  module _ (some : get_or s (FIRST + p) 0 ≢ SLOTS) where
    -- The pair has a first slot.
    has_first : get_or (columns_of s).first p 0 ≢ SLOTS
    has_first e = some (sym (first_at s p small) ∙ e)

    -- The last slot of a pair that has some is one.
    pub before_inside : get_or s (LAST + p) 0 < SLOTS
    before_inside = omega (arith, last_at s p small, last_inside r.mail.index sized p small r.room has_first)

    -- The pair had some: the slot is behind its last.
    pub goes_behind : Branched s p n (set (begun s p n) (NEXT + get_or s (LAST + p) 0) (get_or s TAIL 0))
    goes_behind =
        let c = columns_of s in
        let linked = store_next (begun s p n) (get_or s (LAST + p) 0) (get_or s TAIL 0) before_inside in
        record {
          next = set (set c.next c.tail SLOTS) (get_or c.last p 0) c.tail;
          first = c.first;
          long = simp length-set r.mail.slots_long;
          joined = joined_behind r.mail.index sized p small r.room has_first;
          columns = rw (linked, begun_columns, last_at s p small, tail_is s);
        }

  module _ (x : List ℕ) (g : Branched s p n x) where
    -- The columns after all stores.
    ended_columns : columns_of (ended s x p) ≡ filled (columns_of s) p (set (columns_of s).places (columns_of s).tail n) g.next g.first
    ended_columns =
        let t = get_or s TAIL 0 in
        let k = get_or s (COUNT + p) 0 + 1 in
        let x1 = set x (LAST + p) t in
        let x2 = set x1 (COUNT + p) k in
        let unread = store_unread (set x2 TAIL (t + 1)) (get_or s UNREAD 0 + 1) (simp length-set g.long) in
        let tail = store_tail x2 (t + 1) (simp length-set g.long) in
        rw (unread, tail, store_count x1 p k small, store_last x p t small, g.columns, count_at s p small, tail_is s, unread_is s)

    -- The message comes last.
    put_same : messages_in (ended s x p) (filled_in v (get_or s TAIL 0) m) ≡ messages_in s v ++ (m ∷ [])
    unfolding messages_in
    put_same =
        rw (ended_columns, ← tail_is s, r.of_pair, r.at_place)
        (put_messages v g.next g.first m r.mail.index sized r.mail.contents_long r.room r.from r.to)

    -- The arrays hold what they must.
    put_kept : IsMail (ended s x p) (filled_in v (get_or s TAIL 0) m)
    put_kept =
        let c = columns_of s in
        let d = r.mail in
        let more = simp length-append at (ap length put_same) in
        record {
          slots_long = simp length-set g.long;
          contents_long = simp length-set d.contents_long;
          index =
              rw ended_columns
              (put_index d.index sized p small r.room (set c.places c.tail n) g.next g.first g.joined);
          placed = λ k h live.
              rw ended_columns (read_set c.places c.tail n 0 (omega (arith, sized.places_long, r.room)) (λ y. y < 4) k
              (λ _. omega (arith, r.at_place, place_below_four m.place))
              (λ ne. d.placed k h (rw (get_or-set_other c.pairs c.tail k p 0 ne) at (rw ended_columns at live))));
          within = rw ended_columns (omega (arith, r.room));
          stored = rw ended_columns (omega (arith, d.stored));
          few = omega (arith, r.few);
        }

    -- What is put.
    pub has_put : Put m s v (get_or s (COUNT + p) 0 + 1) (ended s x p) (filled_in v (get_or s TAIL 0) m)
    has_put =
        let own = between m.sender m.receiver in
        let own_one : own m ≡ true = both (eq-eqb m.sender.0 m.sender.0 refl) (eq-eqb m.receiver.0 m.receiver.0 refl) in
        let one : tally own (m ∷ []) ≡ 1 = rw own_one in
        let were = rw (← r.of_pair) at (count_in m.sender m.receiver r.mail r.from r.to) in
        let t = get_or s TAIL 0 in
        record {
          kept = put_kept;
          same = put_same;
          pair = rw (put_same, tally_append) (omega (arith, were, one));
          counts =
              sent_before (set v t m.value) (SEQUENCES + t) m.sequence (omega (arith, tail_inside))
              ∙ sent_before v t m.value (omega (arith, tail_inside));
        }

    -- The tail is one further.
    pub tail_further : (columns_of (ended s x p)).tail ≡ (columns_of s).tail + 1
    tail_further = rw ended_columns
