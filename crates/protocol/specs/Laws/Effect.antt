-- The effect of a step on the views of all pairs, those of which it is about the first rank and all others; and what follows where its
-- change keeps every view fit: the pairs stay sound, and every message stays fit. Assumes nothing.
use Rattle.std.specs.Prelude.{◌≡◌, Bool, true, false, cond, not, ◌&&◌, map, ◌<◌}
use Rattle.std.proofs.Common.{ltb-true}
use Rattle.std.proofs.lemmas.Bool.{not-true}
use Rattle.base.specs.Laws.Lists.{every_and, every_both, every_select, every_selected}
use Rattle.base.specs.Laws.Rising.{never_falls_kept}
use Rattle.base.specs.Laws.Tests.{by_test, both, both_left, both_right}
use Rattle.base.specs.Lists.{every, select, never_falls}
use Rattle.transit.specs.Message.{is_same_rank, relabelled, is_rank, ranks, between, place_index}
use Rattle.transit.specs.declared.Message.{Message}
use Rattle.transit.specs.declared.Place.{Place}
use Rattle.transit.specs.declared.Rank.{Rank}
use Rattle.protocol.specs.Laws.Fit.{
  pair_fits_lem,
  pair_kept_lem,
  pair_kept_back,
  message_kept_lem,
  message_kept_back,
  order_kept_lem,
  order_kept_back,
  pairs_from_fits,
  messages_fit,
  fits,
}
use Rattle.protocol.specs.Laws.Links.{sender_of, receiver_of}
use Rattle.protocol.specs.Laws.Sound.{AtPairs, Facts, Pairs, is_named}
use Rattle.protocol.specs.Laws.State.{same_rank_turned}
use Rattle.protocol.specs.Laws.View.{Side, side, nothing, Change, pair_fits, message_fits, given, up_to, keeps}
use Rattle.broker.specs.State.{State, messages}

-- a pair's first side anew, and the place of a message to it, by whether the step is about the first rank, and about the second
abbrev pub side_anew : Change → Bool → Bool → Side → Side → Side
side_anew c p q x y = cond p (c.own x y) (cond q (c.other x y) x)

abbrev pub place_anew : Change → Bool → Bool → Place → Place
place_anew c p q x = cond p (c.place x) (cond q (c.place_back x) x)

-- the effect of a step, from one state to the next
pub record Effect (s s' : State) (c : Change) (about : Rank → Rank → Bool) : Type 0 where
  pub kept : keeps c ≡ true
  pub once : (a b : Rank) → is_same_rank a b ≡ false → about a b ≡ true → about b a ≡ false
  pub asked : (a b : Rank) → a.0 < ranks → b.0 < ranks → about a b ≡ true → c.asked (side s a b) (side s b a) ≡ true
  pub sides : (a b : Rank) → a.0 < ranks → b.0 < ranks → side s' a b ≡ side_anew c (about a b) (about b a) (side s a b) (side s b a)
  pub self : (a : Rank) → a.0 < ranks → nothing (side s' a a) ≡ true

module _ {s s' : State} {c : Change} {about : Rank → Rank → Bool} (f : Facts s) (e : Effect s s' c about) where
  -- two ranks' sides fit afterwards, and so does each message at its place anew
  record After (a b : Rank) : Type 0 where
    pair : pair_fits (side s' a b) (side s' b a) ≡ true
    message : (p : Place) → message_fits p (side s a b) (side s b a) ≡ true → not (about a b && c.bars p) ≡ true
        → message_fits (place_anew c (about a b) (about b a) p) (side s' a b) (side s' b a) ≡ true
    order : (p q : Place) → up_to p q ≡ true → message_fits p (side s a b) (side s b a) ≡ true
        → message_fits q (side s a b) (side s b a) ≡ true
        → up_to (place_anew c (about a b) (about b a) p) (place_anew c (about a b) (about b a) q) ≡ true

  demand : (a b : Rank) → a.0 < ranks → b.0 < ranks → about a b ≡ true → given c (side s a b) (side s b a) ≡ true
  demand a b ha hb is = both (both (pair_fits_lem s f.pairs a b ha hb) (pair_fits_lem s f.pairs b a hb ha)) (e.asked a b ha hb is)

  after : (a b : Rank) → a.0 < ranks → b.0 < ranks → is_same_rank a b ≡ false → After a b
  after a b ha hb d =
      by_test (about a b)
      (λ is.
      let g = demand a b ha hb is in
      let back = e.once a b d is in
      record {
        pair = rw (e.sides a b ha hb, e.sides b a hb ha, is, back) (pair_kept_lem c e.kept s a b g);
        message = λ p m n. rw (e.sides a b ha hb, e.sides b a hb ha, is, back) (message_kept_lem c e.kept s a b g p m (rw is at n));
        order = λ p q o m n. rw is (order_kept_lem c e.kept s a b g p q o m n);
      })
      (λ no. by_test (about b a)
      (λ is.
      let g = demand b a hb ha is in
      record {
        pair = rw (e.sides a b ha hb, e.sides b a hb ha, no, is) (pair_kept_back c e.kept s b a g);
        message = λ p m n. rw (e.sides a b ha hb, e.sides b a hb ha, no, is) (message_kept_back c e.kept s b a g p m);
        order = λ p q o m n. rw (no, is) (order_kept_back c e.kept s b a g p q o m n);
      })
      (λ neither.
      record {
        pair = rw (e.sides a b ha hb, e.sides b a hb ha, no, neither) (pair_fits_lem s f.pairs a b ha hb);
        message = λ p m n. rw (e.sides a b ha hb, e.sides b a hb ha, no, neither) m;
        order = λ p q o m n. rw (no, neither) o;
      }))

  pub pairs_stay : Pairs s'
  pairs_stay = pairs_from_fits s' e.self (λ a b ha hb d. (after a b ha hb d).pair)

  abbrev pub placed_anew : Message → Message
  placed_anew m = relabelled (place_anew c (about m.receiver m.sender) (about m.sender m.receiver) m.place) m

  -- no message is where the step bars it
  abbrev pub Unbarred : Type 0
  Unbarred = every (λ m. not (about m.receiver m.sender && c.bars m.place)) (messages s) ≡ true

  after_of : (m : Message) → is_named m ≡ true → After m.receiver m.sender
  after_of m name =
      let ranked = both_left (is_rank m.sender && is_rank m.receiver) _ name in
      let from = ltb-true m.sender.0 ranks (both_left (is_rank m.sender) (is_rank m.receiver) ranked) in
      let to = ltb-true m.receiver.0 ranks (both_right (is_rank m.sender) (is_rank m.receiver) ranked) in
      let d = not-true (is_same_rank m.sender m.receiver) (both_right (is_rank m.sender && is_rank m.receiver) _ name) in
      after m.receiver m.sender to from (same_rank_turned m.sender m.receiver d)

  all_known : every (λ m. is_named m && fits s m) (messages s) ≡ true
  all_known = every_and is_named (fits s) (messages s) f.mail.named (messages_fit s f.mail)

  pub messages_stay : Unbarred → every (λ m. fits s' (placed_anew m)) (messages s) ≡ true
  messages_stay =
      every_both (λ m. is_named m && fits s m) _ (λ m. fits s' (placed_anew m))
      (λ m h. (after_of m (both_left (is_named m) (fits s m) h)).message m.place (both_right (is_named m) (fits s m) h))
      (messages s) all_known

  -- the places of each pair never fall
  pub order_stays : AtPairs (λ a b. never_falls (map (λ m. place_index (placed_anew m)) (select (between a b) (messages s))))
  order_stays a b ha hb =
      never_falls_kept place_index (λ m. place_index (placed_anew m)) (λ m. between a b m && (is_named m && fits s m))
      (λ x y kx ky o.
      let here = both_right (between a b x) _ kx in
      let is = both_left (between a b x) _ kx in
      let too = both_left (between a b y) _ ky in
      let g : After b a = rw (sender_of a b x is, receiver_of a b x is) at (after_of x (both_left (is_named x) (fits s x) here)) in
      rw (sender_of a b x is, receiver_of a b x is, sender_of a b y too, receiver_of a b y too)
      (g.order x.place y.place o (rw (sender_of a b x is, receiver_of a b x is) at (both_right (is_named x) (fits s x) here))
      (rw (sender_of a b y too, receiver_of a b y too) at (both_right (is_named y) (fits s y) (both_right (between a b y) _ ky)))))
      (select (between a b) (messages s))
      (every_and (between a b) _ (select (between a b) (messages s)) (every_selected (between a b) (messages s))
      (every_select (λ m. is_named m && fits s m) (between a b) (messages s) all_known))
      (f.mail.places_rise_lem a b ha hb)
