-- The messages in slots: their ranks, how many a pair has, and what they are after a slot is filled.
-- Assumes nothing.
use Rattle.std.specs.Prelude.{Bool, true, List, [], ◌∷◌, ◌++◌, ◌≢◌, ◌≡◌, refl, ℕ, suc, ◌+◌, ◌/◌, ◌%◌, ◌<◌, eqb, length, get_or, set}
use Rattle.std.proofs.Common.{sym, ap, ◌∙◌, arith, eq-eqb, ne_eqb, lt-ltb, le-ltb, length-set, get_or-set_same, get_or-set_other}
use Rattle.transit.specs.Columns.{Columns, SLOTS, SEQUENCES, contents_length}
use Rattle.transit.specs.Index.{slots_of, Index, Sizes}
use Rattle.base.specs.Lists.{tally, every}
use Rattle.transit.specs.Message.{between, place_number, ranks, cells, pair_of}
use Rattle.transit.specs.Slots.{held, place_of, message_of, message_at, messages_of, ranked}
use Rattle.transit.specs.declared.Message.{Message}
use Rattle.transit.specs.declared.Place.{Place}
use Rattle.transit.specs.declared.Place.TheVariants.{SourceList, SourceChannel, EndList, Channel}
use Rattle.transit.specs.declared.Rank.{Rank}
use Rattle.transit.specs.Laws.Held.{held_every, held_put}
use Rattle.transit.specs.Laws.Put.{filled}
use Rattle.base.specs.Laws.Tests.{by_equal, by_less, both}

-- A place is the place of its number.
pub place_back_lem : (p : Place) → place_of (place_number p) ≡ p
place_back_lem SourceList = refl
place_back_lem SourceChannel = refl
place_back_lem EndList = refl
place_back_lem Channel = refl

-- The messages in slots are between ranks.
pub held_ranked : (places values ps : List ℕ) → every ranked (held (message_at places values) 0 ps) ≡ true
held_ranked places values ps =
    held_every (message_at places values) ranked ps
    (λ k _ live. both (lt-ltb (get_or ps k 0 / ranks) ranks (omega arith)) (lt-ltb (get_or ps k 0 % ranks) ranks (omega arith)))

-- There are as many messages of a pair as slots.
held_tally : {A : Type 0} (f : ℕ → ℕ → A) (q : A → Bool) (p : ℕ) → p < cells → ((k x : ℕ) → x < cells → q (f k x) ≡ eqb x p)
    → (i : ℕ) (ps : List ℕ) → tally q (held f i ps) ≡ slots_of p ps
held_tally f q p small tells i [] = refl
held_tally f q p small tells i (x ∷ ps) =
    let rest = held_tally f q p small tells (suc i) ps in
    by_less x cells
    (λ live. by_equal x p
    (λ e. rw (lt-ltb x cells live, tells i x live, eq-eqb x p e) (ap suc rest))
    (λ ne. rw (lt-ltb x cells live, tells i x live, ne_eqb x p ne) rest))
    (λ dead. rw (le-ltb x cells dead, ne_eqb x p (λ e. omega (arith, e))) rest)

module _ (a b : Rank) (small_a : a.0 < ranks) (small_b : b.0 < ranks) where
  -- The pair of two ranks has a pair's number.
  pub pair_small : pair_of a b < cells
  pair_small = omega arith

  -- A message is between two ranks if its slot is of their pair, whatever else it is.
  pub between_pair : (p : ℕ) → p < cells → between a b (message_of p 0 0 0) ≡ eqb p (pair_of a b)
  between_pair p small =
      by_equal (p / ranks) a.0
      (λ e. by_equal (p % ranks) b.0
      (λ f. rw (eq-eqb (p / ranks) a.0 e, eq-eqb (p % ranks) b.0 f, eq-eqb p (pair_of a b) (omega (arith, e, f))))
      (λ f. rw (eq-eqb (p / ranks) a.0 e, ne_eqb (p % ranks) b.0 f, ne_eqb p (pair_of a b) (λ h. f (omega (arith, h))))))
      (λ e. rw (ne_eqb (p / ranks) a.0 e, ne_eqb p (pair_of a b) (λ h. e (omega (arith, h)))))

  -- How many messages of a pair are unread.
  pub count_messages : {c : Columns} (x : Index c) (values : List ℕ)
      → get_or c.count (pair_of a b) 0 ≡ tally (between a b) (messages_of c values)
  count_messages {c} x values =
      x.counts (pair_of a b) pair_small
      ∙ sym (held_tally (message_at c.places values) (between a b) (pair_of a b) pair_small (λ k p h. between_pair p h) 0 c.pairs)

-- Where a slot is filled behind all others, its message comes last.
pub put_messages : {c : Columns} (contents next first : List ℕ) (m : Message) → Index c → Sizes c → length contents ≡ contents_length
    → c.tail < SLOTS → m.sender.0 < ranks → m.receiver.0 < ranks
    → messages_of
    (filled c (pair_of m.sender m.receiver) (set c.places c.tail (place_number m.place)) next first)
    (set (set contents c.tail m.value) (SEQUENCES + c.tail) m.sequence)
    ≡ messages_of c contents ++ (m ∷ [])
put_messages {c} contents next first m x z long inside small_a small_b =
    let t = c.tail in
    let n = place_number m.place in
    let p = pair_of m.sender m.receiver in
    let valued = set contents t m.value in
    let g = message_at (set c.places t n) (set valued (SEQUENCES + t) m.sequence) in
    let other : (k : ℕ) → k ≢ t → k ≢ SEQUENCES + t → get_or (set valued (SEQUENCES + t) m.sequence) k 0 ≡ get_or contents k 0 =
    λ k ne far. get_or-set_other valued (SEQUENCES + t) k m.sequence 0 far ∙ get_or-set_other contents t k m.value 0 ne in
    let from : p / ranks ≡ m.sender.0 = omega arith in
    let to : p % ranks ≡ m.receiver.0 = omega arith in
    let place = get_or-set_same c.places t n 0 (omega (arith, z.places_long)) in
    let value : get_or (set valued (SEQUENCES + t) m.sequence) t 0 ≡ m.value =
    get_or-set_other valued (SEQUENCES + t) t m.sequence 0 (λ e. omega (arith, e)) ∙ get_or-set_same contents t m.value 0 (omega arith) in
    let sequence = get_or-set_same valued (SEQUENCES + t) m.sequence 0 (omega (arith, length-set contents t m.value)) in
    let made : g t p ≡ m = rw (from, to, place, value, sequence, place_back_lem m.place) in
    held_put (message_at c.places contents) g t p c.pairs (omega (arith, z.pairs_long)) (omega arith)
    (λ k h b. x.dead k h (omega (arith, z.pairs_long)))
    (λ k q h.
    let ne : k ≢ t = (λ e. omega (arith, e)) in
    let number = other (SEQUENCES + k) (λ e. omega (arith, e)) (λ e. omega (arith, e)) in
    rw (get_or-set_other c.places t k n 0 ne, other k ne (λ e. omega (arith, e)), number))
    ∙ ap (λ (y : Message). messages_of c contents ++ (y ∷ [])) made
