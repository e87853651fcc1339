-- The slots emptied: slot by slot, pair by pair, and in the end without a message.
-- Assumes nothing.
use Rattle.std.specs.Prelude.{List, [], ◌≡◌, refl, ℕ, ◌+◌, ◌<◌, length, get_or, set}
use Rattle.std.proofs.Common.{◌∙◌, arith, length-set}
use Rattle.transit.specs.Columns.{
  columns_of,
  sent_in,
  with_tail,
  with_unread,
  FIRST,
  COUNT,
  TAIL,
  UNREAD,
  SLOTS,
  DEAD,
  slots_length,
  contents_length,
}
use Rattle.transit.specs.Mail.{messages_in, Loaded}
use Rattle.transit.specs.Slots.{message_at}
use Rattle.transit.specs.Laws.Columns.{column_sizes, store_pair, store_first, store_count, store_tail, store_unread}
use Rattle.transit.specs.Laws.Held.{held_dead}
use Rattle.transit.specs.Laws.Links.{index_none}
use Rattle.base.specs.Laws.Stores.{read_set}
use Rattle.transit.specs.Message.{cells}

-- the first n numbers are x
abbrev Filled : List ℕ → ℕ → ℕ → Type 0
Filled l x n = (k : ℕ) → k < n → get_or l k 0 ≡ x

-- One number more is.
fill_next : (l : List ℕ) (x n : ℕ) → n < length l → Filled l x n → Filled (set l n x) x (n + 1)
fill_next l x n inside f k h = read_set l n x 0 inside (λ y. y ≡ x) k (λ _. refl) (λ ne. f k (omega (arith, ne)))

-- the slots before i are dead, and the pairs before p have none
pub record Emptied (s : List ℕ) (i p : ℕ) : Type 0 where
  pub long : length s ≡ slots_length
  pub dead : (k : ℕ) → k < i → get_or (columns_of s).pairs k 0 ≡ DEAD
  pub firsts : (k : ℕ) → k < p → get_or (columns_of s).first k 0 ≡ SLOTS
  pub counts : (k : ℕ) → k < p → get_or (columns_of s).count k 0 ≡ 0

-- At first nothing is emptied.
pub empty_none : (s : List ℕ) → length s ≡ slots_length → Emptied s 0 0
empty_none s long =
    record { long = long; dead = λ k h. absurd (omega arith); firsts = λ k h. absurd (omega arith); counts = λ k h. absurd (omega arith) }

module _ {s : List ℕ} {i p : ℕ} (e : Emptied s i p) where
  -- A slot more dies.
  pub empty_slot : i < SLOTS → Emptied (set s i DEAD) (i + 1) p
  empty_slot inside =
      let fits : i < length (columns_of s).pairs = omega (arith, (column_sizes s e.long).pairs_long) in
      let stored = store_pair s i DEAD inside in
      record {
        long = simp length-set e.long;
        dead = rw stored (fill_next (columns_of s).pairs DEAD i fits e.dead);
        firsts = rw stored e.firsts;
        counts = rw stored e.counts;
      }

  -- A pair more has none.
  pub empty_pair : p < cells → Emptied (set (set s (FIRST + p) SLOTS) (COUNT + p) 0) i (p + 1)
  empty_pair inside =
      let z = column_sizes s e.long in
      let stored = rw (store_first s p SLOTS inside) at (store_count (set s (FIRST + p) SLOTS) p 0 inside) in
      record {
        long = simp length-set e.long;
        dead = rw stored e.dead;
        firsts = rw stored (fill_next (columns_of s).first SLOTS p (omega (arith, z.first_long)) e.firsts);
        counts = rw stored (fill_next (columns_of s).count 0 p (omega (arith, z.count_long)) e.counts);
      }

-- Emptied slots hold no message.
pub emptied : {s : List ℕ} (v : List ℕ) → Emptied s SLOTS cells → length v ≡ contents_length
    → Loaded [] (sent_in v) (set (set s TAIL 0) UNREAD 0) v
unfolding messages_in
emptied {s} v e long =
    let c = columns_of s in
    let z = column_sizes s e.long in
    let stored : columns_of (set (set s TAIL 0) UNREAD 0) ≡ with_unread (with_tail c 0) 0 =
    store_unread (set s TAIL 0) 0 (length-set s TAIL 0 ∙ e.long) ∙ rw (store_tail s 0 e.long) in
    let none : messages_in (set (set s TAIL 0) UNREAD 0) v ≡ [] =
    rw stored (held_dead (message_at c.places v) 0 c.pairs (λ k h. e.dead k (omega (arith, z.pairs_long)))) in
    record {
      kept = record {
        slots_long = simp length-set e.long;
        contents_long = long;
        index = rw stored (index_none z.pairs_long e.dead e.firsts e.counts);
        placed = λ k h. rw stored (λ live. absurd (omega (arith, e.dead k h)));
        within = rw stored (omega arith);
        stored = rw (none, stored);
        few = rw none (omega arith);
      };
      same = none;
      packed = rw stored;
      counted = refl;
    }
