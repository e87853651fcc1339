-- The links of pairs and how many slots a pair has, after one store in the pairs; and the index of slots that are all dead.
-- Assumes nothing.
use Rattle.std.specs.Prelude.{List, [], ◌∷◌, ◌≢◌, ◌≡◌, refl, ℕ, suc, ◌<◌, ◌≤◌, eqb, length, get_or, set}
use Rattle.std.proofs.Common.{sym, ap, ◌∙◌, arith, ne_eqb, get_or-set_other}
use Rattle.transit.specs.Columns.{Columns, with_places, SLOTS, DEAD}
use Rattle.transit.specs.Index.{Next, Last, Dead, slots_of, Index, Sizes}
use Rattle.base.specs.Laws.Stores.{read_set, tally_set}
use Rattle.base.specs.Laws.Tests.{by_less}
use Rattle.transit.specs.Message.{cells}

module _ (l : List ℕ) (t v : ℕ) (q i j : ℕ) where
  -- A store outside of a stretch between two slots of a pair leaves their link.
  pub next_outside : ((k : ℕ) → i ≤ k → k ≤ j → k ≢ t) → Next l q i j → Next (set l t v) q i j
  next_outside apart n = record {
    past = n.past;
    within = n.within;
    apart = λ k a b. rw (get_or-set_other l t k v 0 (apart k a (omega arith))) (n.apart k a b);
    here = λ b. get_or-set_other l t j v 0 (apart j n.past (omega arith)) ∙ n.here b;
  }

  -- A slot that is not of a pair, before and after, is none of its links.
  pub next_other : t < length l → get_or l t 0 ≢ q → v ≢ q → Next l q i j → Next (set l t v) q i j
  next_other inside was is n = record {
    past = n.past;
    within = n.within;
    apart = λ k a b. read_set l t v 0 inside (λ x. x ≢ q) k (λ _. is) (λ _. n.apart k a b);
    here = λ b. get_or-set_other l t j v 0 (λ e. was (ap (λ (x : ℕ). get_or l x 0) (sym e) ∙ n.here b)) ∙ n.here b;
  }

-- A pair of which no slot is left has no next.
pub next_none : (l : List ℕ) (q i : ℕ) → i ≤ SLOTS → ((k : ℕ) → i ≤ k → k < SLOTS → get_or l k 0 ≢ q) → Next l q i SLOTS
next_none l q i past apart = record { past = past; within = omega arith; apart = apart; here = λ h. absurd (omega arith) }

-- what the index says of one pair
pub record Linked (pairs next first last count : List ℕ) (q : ℕ) : Type 0 where
  pub front : Next pairs q 0 (get_or first q 0)
  pub links : (i : ℕ) → i < SLOTS → get_or pairs i 0 ≡ q → Next pairs q (suc i) (get_or next i 0)
  pub end : get_or first q 0 < SLOTS → Last pairs next q (get_or last q 0)
  pub counted : get_or count q 0 ≡ slots_of q pairs

-- The index is what it says of each pair, and that the slots from the tail on are dead.
pub index_of : {c : Columns} → ((q : ℕ) → q < cells → Linked c.pairs c.next c.first c.last c.count q)
    → Dead c.pairs c.tail → Index c
index_of each dead = record {
  firsts = λ q b. (each q b).front;
  nexts = λ q i b. (each q b).links i;
  lasts = λ q b. (each q b).end;
  counts = λ q b. (each q b).counted;
  dead = dead;
}

-- What the index says of a pair stays, where a slot that is not of it, before and after, is stored, and its links, ends and count stay.
pub linked_other : {c : Columns} → Index c → (t v : ℕ) → t < length c.pairs → (next first last count : List ℕ) (q : ℕ) → q < cells
    → get_or c.pairs t 0 ≢ q → v ≢ q → get_or first q 0 ≡ get_or c.first q 0
    → ((i : ℕ) → i ≢ t → get_or c.pairs i 0 ≡ q → get_or next i 0 ≡ get_or c.next i 0)
    → get_or last q 0 ≡ get_or c.last q 0 → get_or count q 0 ≡ get_or c.count q 0 → Linked (set c.pairs t v) next first last count q
linked_other {c} x t v inside next first last count q b was is first_same next_same last_same count_same =
    let apart : (i : ℕ) → get_or c.pairs i 0 ≡ q → i ≢ t = (λ i own e. was (ap (λ (k : ℕ). get_or c.pairs k 0) (sym e) ∙ own)) in
    record {
      front = rw first_same (next_other c.pairs t v q 0 (get_or c.first q 0) inside was is (x.firsts q b));
      links = λ i h own.
          let mine = read_set c.pairs t v 0 inside (λ y. y ≡ q → get_or c.pairs i 0 ≡ q) i (λ _ e. absurd (is e)) (λ _ e. e) own in
          rw (next_same i (apart i mine) mine)
          (next_other c.pairs t v q (suc i) (get_or c.next i 0) inside was is (x.nexts q i b h mine));
      end = λ some.
          let m = get_or c.last q 0 in
          let l = x.lasts q b (rw first_same at some) in
          let ne = apart m l.own in
          rw last_same (record {
            within = l.within;
            own = get_or-set_other c.pairs t m v 0 ne ∙ l.own;
            over = next_same m ne l.own ∙ l.over;
          });
      counted =
          let stays = rw (ne_eqb (get_or c.pairs t 0) q was, ne_eqb v q is) at (tally_set (λ y. eqb y q) c.pairs t v 0 inside) in
          omega (arith, count_same, x.counts q b, stays);
    }

-- Where no slot is of the pair, it has none.
slots_none : (p : ℕ) (l : List ℕ) → ((k : ℕ) → k < length l → get_or l k 0 ≢ p) → slots_of p l ≡ 0
slots_none p [] apart = refl
slots_none p (x ∷ l) apart = rw (ne_eqb x p (apart 0 (omega arith))) (slots_none p l (λ k h. apart (suc k) (omega arith)))

module _ {c : Columns} (x : Index c) (z : Sizes c) (p : ℕ) (small : p < cells) where
  -- A pair that has some has a first slot.
  pub first_some : 0 < get_or c.count p 0 → get_or c.first p 0 < SLOTS
  first_some some =
      by_less (get_or c.first p 0) SLOTS (λ inside. inside)
      (λ end.
      let none = slots_none p c.pairs (λ k h. (x.firsts p small).apart k (omega arith) (omega (arith, z.pairs_long))) in
      absurd (omega (arith, x.counts p small)))

-- The index does not look at the places.
pub index_places : {c : Columns} (l : List ℕ) → Index c → Index (with_places c l)
index_places l x = record { firsts = x.firsts; nexts = x.nexts; lasts = x.lasts; counts = x.counts; dead = x.dead }

-- The index of dead slots, of pairs that have none.
pub index_none : {c : Columns} → length c.pairs ≡ SLOTS → ((k : ℕ) → k < SLOTS → get_or c.pairs k 0 ≡ DEAD)
    → ((p : ℕ) → p < cells → get_or c.first p 0 ≡ SLOTS) → ((p : ℕ) → p < cells → get_or c.count p 0 ≡ 0) → Index c
index_none {c} long dead firsts counts = record {
  firsts = λ p b. rw (firsts p b) (next_none c.pairs p 0 (omega arith) (λ k _ h e. omega (arith, e, dead k h)));
  nexts = λ p i b h own. absurd (omega (arith, own, dead i h));
  lasts = λ p b some. absurd (omega (arith, firsts p b, some));
  counts = λ p b. counts p b ∙ sym (slots_none p c.pairs (λ k h e. omega (arith, e, dead k (omega arith))));
  dead = λ k _ h. dead k h;
}
