-- The index after a pair's first slot dies.
-- Assumes nothing.
use Rattle.std.specs.Prelude.{◌≢◌, ◌≡◌, refl, ℕ, suc, ◌-◌, ◌<◌, eqb, length, get_or, set}
use Rattle.std.proofs.Common.{sym, ap, ◌∙◌, arith, eq-eqb, ne_eqb, get_or-set_same, get_or-set_other}
use Rattle.transit.specs.Columns.{Columns, SLOTS, DEAD}
use Rattle.transit.specs.Index.{Next, Index, Sizes}
use Rattle.transit.specs.Laws.Links.{Linked, next_outside, linked_other, index_of}
use Rattle.base.specs.Laws.Stores.{read_set, tally_set}
use Rattle.base.specs.Laws.Tests.{by_equal, by_less}
use Rattle.transit.specs.Message.{cells}

-- the first slot of a pair
abbrev pub front : Columns → ℕ → ℕ
front c p = get_or c.first p 0

-- the slot behind it
abbrev pub second : Columns → ℕ → ℕ
second c p = get_or c.next (front c p) 0

-- the columns with a pair's first slot dead
abbrev pub taken : Columns → ℕ → Columns
taken c p = record {
  pairs = set c.pairs (front c p) DEAD;
  places = c.places;
  next = c.next;
  first = set c.first p (second c p);
  last = c.last;
  count = set c.count p (get_or c.count p 0 - 1);
  tail = c.tail;
  unread = c.unread - 1;
}

module _ {c : Columns} (x : Index c) (z : Sizes c) (p : ℕ) (small : p < cells) (some : front c p < SLOTS) where
  -- The slot is of the pair.
  own : get_or c.pairs (front c p) 0 ≡ p
  own = (x.firsts p small).here some

  -- It is a slot.
  fits : front c p < length c.pairs
  fits = omega (arith, z.pairs_long)

  -- The slot behind it is the next of the pair.
  behind : Next c.pairs p (suc (front c p)) (second c p)
  behind = x.nexts p (front c p) small some own

  -- Every other slot is of the pair that it was.
  other_slot : (k : ℕ) → k ≢ front c p → get_or (set c.pairs (front c p) DEAD) k 0 ≡ get_or c.pairs k 0
  other_slot k ne = get_or-set_other c.pairs (front c p) k DEAD 0 ne

  -- The slot behind it is the first.
  take_front : Next (set c.pairs (front c p) DEAD) p 0 (second c p)
  take_front = record {
    past = omega arith;
    within = behind.within;
    apart = λ k a b. read_set c.pairs (front c p) DEAD 0 fits (λ y. y ≢ p) k
        (λ _ e. omega (arith, e))
        (λ ne. by_less k (front c p) ((x.firsts p small).apart k a) (λ past. behind.apart k (omega (arith, ne)) b));
    here = λ b. other_slot (second c p) (λ e. omega (arith, e, behind.past)) ∙ behind.here b;
  }

  -- A slot of the pair that is left leads on as before.
  take_links : (i : ℕ) → i < SLOTS → get_or (set c.pairs (front c p) DEAD) i 0 ≡ p
      → Next (set c.pairs (front c p) DEAD) p (suc i) (get_or c.next i 0)
  take_links i inside mine =
      let dead = get_or-set_same c.pairs (front c p) DEAD 0 fits in
      let ne : i ≢ front c p = (λ e. omega (arith, ap (λ (k : ℕ). get_or (set c.pairs (front c p) DEAD) k 0) e)) in
      let was : get_or c.pairs i 0 ≡ p = sym (other_slot i ne) ∙ mine in
      let after : front c p < i =
      by_less i (front c p) (λ d. absurd ((x.firsts p small).apart i (omega arith) d was)) (λ d. omega (arith, ne)) in
      next_outside c.pairs (front c p) DEAD p (suc i) (get_or c.next i 0) (λ k a _ e. omega (arith, e)) (x.nexts p i small inside was)

  -- What the index says of the pair.
  take_own : Linked (taken c p).pairs c.next (taken c p).first c.last (taken c p).count p
  take_own =
      let first = get_or-set_same c.first p (second c p) 0 (omega (arith, z.first_long)) in
      let l = x.lasts p small some in
      let less = tally_set (λ y. eqb y p) c.pairs (front c p) DEAD 0 fits in
      record {
        front = rw first take_front;
        links = take_links;
        end = λ left.
            let more : second c p < SLOTS = rw first at left in
            let ne : get_or c.last p 0 ≢ front c p = (λ e. omega (arith, ap (λ (k : ℕ). get_or c.next k 0) e, l.over)) in
            record { within = l.within; own = other_slot (get_or c.last p 0) ne ∙ l.own; over = l.over };
        counted =
            rw (get_or-set_same c.count p (get_or c.count p 0 - 1) 0 (omega (arith, z.count_long)), x.counts p small)
            (omega (arith, rw (eq-eqb (get_or c.pairs (front c p) 0) p own, ne_eqb DEAD p (λ e. omega (arith, e))) at less));
      }

  -- The index after a pair's first slot died.
  pub take_index : Index (taken c p)
  take_index =
      index_of
      (λ q b. by_equal q p (λ e. rw e take_own) (λ ne.
      linked_other x (front c p) DEAD fits c.next (taken c p).first c.last (taken c p).count q b
      (λ e. ne (sym e ∙ own)) (λ e. omega (arith, e))
      (get_or-set_other c.first p q (second c p) 0 ne) (λ i _ _. refl) refl
      (get_or-set_other c.count p q (get_or c.count p 0 - 1) 0 ne)))
      (λ k a b. read_set c.pairs (front c p) DEAD 0 fits (λ y. y ≡ DEAD) k (λ _. refl) (λ _. x.dead k a b))
