-- The index after a slot is filled behind all others.
-- Assumes nothing.
use Rattle.std.specs.Prelude.{List, ◌≢◌, ◌≡◌, refl, ℕ, suc, ◌+◌, ◌<◌, ◌≤◌, eqb, length, get_or, set}
use Rattle.std.proofs.Common.{sym, ap, ◌∙◌, arith, eq-eqb, ne_eqb, get_or-set_same, get_or-set_other, lt-length-set}
use Rattle.transit.specs.Columns.{Columns, SLOTS}
use Rattle.transit.specs.Index.{Next, Index, Sizes}
use Rattle.transit.specs.Laws.Links.{Linked, next_outside, next_none, linked_other, index_of}
use Rattle.base.specs.Laws.Stores.{tally_set}
use Rattle.base.specs.Laws.Tests.{by_equal, by_less}
use Rattle.transit.specs.Message.{cells}

-- the columns with a slot of the pair at the tail: its place, the links and the firsts as given
abbrev pub filled : Columns → ℕ → List ℕ → List ℕ → List ℕ → Columns
filled c p places next first = record {
  pairs = set c.pairs c.tail p;
  places = places;
  next = next;
  first = first;
  last = set c.last p c.tail;
  count = set c.count p (get_or c.count p 0 + 1);
  tail = c.tail + 1;
  unread = c.unread + 1;
}

-- what the links and the firsts become
pub record Joined (c : Columns) (p : ℕ) (next first : List ℕ) : Type 0 where
  pub new : get_or next c.tail 0 ≡ SLOTS
  pub behind : get_or c.first p 0 < SLOTS → get_or next (get_or c.last p 0) 0 ≡ c.tail
  pub kept : (i : ℕ) → i ≢ c.tail → (get_or c.first p 0 < SLOTS → i ≢ get_or c.last p 0) → get_or next i 0 ≡ get_or c.next i 0
  pub begins : SLOTS ≤ get_or c.first p 0 → get_or first p 0 ≡ c.tail
  pub stays : get_or c.first p 0 < SLOTS → get_or first p 0 ≡ get_or c.first p 0
  pub others : (q : ℕ) → q ≢ p → get_or first q 0 ≡ get_or c.first q 0

module _ {c : Columns} (x : Index c) (z : Sizes c) (p : ℕ) (small : p < cells) (inside : c.tail < SLOTS) where
  -- The pair had none: the slot is its first.
  pub joined_first : get_or c.first p 0 ≡ SLOTS → Joined c p (set c.next c.tail SLOTS) (set c.first p c.tail)
  joined_first none = record {
    new = get_or-set_same c.next c.tail SLOTS 0 (omega (arith, z.next_long));
    behind = λ some. absurd (omega arith);
    kept = λ i ne _. get_or-set_other c.next c.tail i SLOTS 0 ne;
    begins = λ _. get_or-set_same c.first p c.tail 0 (omega (arith, z.first_long));
    stays = λ some. absurd (omega arith);
    others = λ q ne. get_or-set_other c.first p q c.tail 0 ne;
  }

  module _ (some : get_or c.first p 0 ≢ SLOTS) where
    -- It has a first slot.
    has : get_or c.first p 0 < SLOTS
    has = omega (arith, some, (x.firsts p small).within)

    -- A pair's last slot is one.
    pub last_inside : get_or c.last p 0 < SLOTS
    last_inside = (x.lasts p small has).within

    -- That slot is not the one at the tail.
    last_apart : get_or c.last p 0 ≢ c.tail
    last_apart e =
        omega (arith, ap (λ (k : ℕ). get_or c.pairs k 0) e, (x.lasts p small has).own, x.dead c.tail (omega arith) inside)

    -- The pair had some: the slot is behind its last.
    pub joined_behind : Joined c p (set (set c.next c.tail SLOTS) (get_or c.last p 0) c.tail) c.first
    joined_behind =
        let before = get_or c.last p 0 in
        let marked = set c.next c.tail SLOTS in
        let fits : before < length c.next = omega (arith, last_inside, z.next_long) in
        record {
          new =
              get_or-set_other marked before c.tail c.tail 0 (λ e. last_apart (sym e))
              ∙ get_or-set_same c.next c.tail SLOTS 0 (omega (arith, z.next_long));
          behind = λ _. get_or-set_same marked before c.tail 0 (lt-length-set c.next c.tail SLOTS fits);
          kept = λ i ne apart.
              get_or-set_other marked before i c.tail 0 (apart has) ∙ get_or-set_other c.next c.tail i SLOTS 0 ne;
          begins = λ none. absurd (omega (arith, none, has));
          stays = λ _. refl;
          others = λ q _. refl;
        }

  -- The tail is a slot.
  fits : c.tail < length c.pairs
  fits = omega (arith, z.pairs_long)

  -- The slot at the tail was of no pair.
  was_dead : (q : ℕ) → q < cells → get_or c.pairs c.tail 0 ≢ q
  was_dead q b e = omega (arith, e, x.dead c.tail (omega arith) inside)

  -- A slot of a pair is before the tail.
  live_before : (q i : ℕ) → q < cells → i < SLOTS → get_or c.pairs i 0 ≡ q → i < c.tail
  live_before q i b slot mine = by_less i c.tail (λ h. h) (λ past. absurd (omega (arith, x.dead i past slot, mine)))

  -- Where the pair had no more, the slot is the next.
  next_end : (i : ℕ) → i ≤ c.tail → Next c.pairs p i SLOTS → Next (set c.pairs c.tail p) p i c.tail
  next_end i before n = record {
    past = before;
    within = omega arith;
    apart = λ k a b. rw (get_or-set_other c.pairs c.tail k p 0 (λ e. omega (arith, e))) (n.apart k a (omega arith));
    here = λ b. get_or-set_same c.pairs c.tail p 0 fits;
  }

  -- Where it had one, that is still the next.
  next_before : (i j : ℕ) → j < SLOTS → Next c.pairs p i j → Next (set c.pairs c.tail p) p i j
  next_before i j ends n =
      let before = live_before p j small ends (n.here ends) in
      next_outside c.pairs c.tail p p i j (λ k _ b e. omega (arith, e)) n

  -- Nothing is behind the slot.
  next_new : Next (set c.pairs c.tail p) p (suc c.tail) SLOTS
  next_new =
      next_outside c.pairs c.tail p p (suc c.tail) SLOTS (λ k a _ e. omega (arith, e))
      (next_none c.pairs p (suc c.tail) inside (λ k a b e. omega (arith, e, x.dead k (omega arith) b)))

  -- Only the last slot of a pair has none behind it.
  not_last : (i : ℕ) → i < SLOTS → get_or c.pairs i 0 ≡ p → get_or c.first p 0 < SLOTS → i ≢ get_or c.last p 0
      → get_or c.next i 0 < SLOTS
  not_last i slot mine some ne =
      let l = x.lasts p small some in
      let m = get_or c.last p 0 in
      by_less (get_or c.next i 0) SLOTS (λ h. h) (λ end. by_less i m
      (λ d. absurd ((x.nexts p i small slot mine).apart m d (omega (arith, l.within)) l.own))
      (λ d. absurd ((x.nexts p m small l.within l.own).apart i (omega (arith, ne)) (omega (arith, l.over)) mine)))

  module _ (places next first : List ℕ) (j : Joined c p next first) where
    -- A slot of the pair leads to the new one, or on as before.
    put_links : (i : ℕ) → i < SLOTS → i ≢ c.tail → get_or c.pairs i 0 ≡ p → Next (set c.pairs c.tail p) p (suc i) (get_or next i 0)
    put_links i slot apart mine =
        let was = get_or c.first p 0 in
        let some : was < SLOTS =
        by_less was SLOTS (λ h. h) (λ end. absurd ((x.firsts p small).apart i (omega arith) (omega arith) mine)) in
        let n = x.nexts p i small slot mine in
        by_equal i (get_or c.last p 0)
        (λ e.
        let over : get_or c.next i 0 ≡ SLOTS = ap (λ (k : ℕ). get_or c.next k 0) e ∙ (x.lasts p small some).over in
        rw (ap (λ (k : ℕ). get_or next k 0) e ∙ j.behind some) (next_end (suc i) (live_before p i small slot mine) (rw over at n)))
        (λ ne. rw (j.kept i apart (λ _. ne)) (next_before (suc i) (get_or c.next i 0) (not_last i slot mine some ne) n))

    -- What the index says of the pair.
    put_own : Linked (set c.pairs c.tail p) next first (set c.last p c.tail) (set c.count p (get_or c.count p 0 + 1)) p
    put_own =
        let was = get_or c.first p 0 in
        let f = x.firsts p small in
        let here = get_or-set_same c.pairs c.tail p 0 fits in
        let more = tally_set (λ y. eqb y p) c.pairs c.tail p 0 fits in
        record {
          front = by_less was SLOTS
              (λ some. rw (j.stays some) (next_before 0 was some f))
              (λ none. let end : was ≡ SLOTS = omega (arith, f.within) in rw (j.begins none) (next_end 0 (omega arith) (rw end at f)));
          links = λ i slot mine. by_equal i c.tail
              (λ e. rw (e, j.new) next_new)
              (λ ne. put_links i slot ne (sym (get_or-set_other c.pairs c.tail i p 0 ne) ∙ mine));
          end = λ _.
              rw (get_or-set_same c.last p c.tail 0 (omega (arith, z.last_long)))
              (record { within = inside; own = here; over = j.new });
          counted =
              rw (get_or-set_same c.count p (get_or c.count p 0 + 1) 0 (omega (arith, z.count_long)), x.counts p small)
              (omega (arith, rw (ne_eqb (get_or c.pairs c.tail 0) p (was_dead p small), eq-eqb p p refl) at more));
        }

    -- The index after a slot is filled.
    pub put_index : Index (filled c p places next first)
    put_index =
        index_of
        (λ q b. by_equal q p (λ e. rw e put_own) (λ ne.
        linked_other x c.tail p fits next first (set c.last p c.tail) (set c.count p (get_or c.count p 0 + 1)) q b
        (was_dead q b) (λ e. ne (sym e)) (j.others q ne)
        (λ i apart mine. j.kept i apart (λ some e. ne (sym mine ∙ ap (λ (k : ℕ). get_or c.pairs k 0) e ∙ (x.lasts p small some).own)))
        (get_or-set_other c.last p q c.tail 0 ne) (get_or-set_other c.count p q (get_or c.count p 0 + 1) 0 ne)))
        (λ k a b. get_or-set_other c.pairs c.tail k p 0 (λ e. omega (arith, e)) ∙ x.dead k (omega arith) b)
