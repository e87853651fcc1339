-- The unread messages counted, named and, within each pair, at places that never fall and with running numbers that rise up to the count
-- sent: what keeps them so where a message is added, where one leaves, and where one is read off the lane to the mover. Assumes nothing.
use Rattle.std.specs.Prelude.{◌≡◌, refl, Bool, true, false, not, ◌&&◌, ◌||◌, [], ◌∷◌, ◌++◌, ℕ, ◌+◌, ◌<◌, ◌≤◌, eqb, leb, length}
use Rattle.std.proofs.Common.{◌∙◌, arith, eqb-true}
use Rattle.std.proofs.lemmas.Bool.{eqb-false}
use Rattle.base.specs.Lists.{select, every, without, never_falls, rises_within}
use Rattle.base.specs.Laws.Lists.{
  every_append,
  every_map,
  every_without,
  every_change_first,
  every_selected,
  without_other,
  without_same,
  change_first_same,
  change_first_other,
  change_first_unseen,
}
use Rattle.base.specs.Laws.Numbers.{rises_next, rises_without}
use Rattle.base.specs.Laws.Rising.{every_chosen, without_shorter, never_falls_append, never_falls_without, never_falls_change_first}
use Rattle.base.specs.Laws.Tests.{by_test, both, both_left, both_right}
use Rattle.transit.specs.Laws.Operations.{relabels_first}
use Rattle.transit.specs.Laws.Pairs.{places, sequences, append_length, append_own, append_other, first_to_length}
use Rattle.transit.specs.Message.{place_index, is_same_rank, at, between, relabelled, ranks, cells}
use Rattle.transit.specs.Unread.{Unread, limit, counted, sent_at, one_message_more, next_message, relabel_first}
use Rattle.transit.specs.declared.Message.{Message}
use Rattle.transit.specs.declared.Place.{Place}
use Rattle.transit.specs.declared.Place.TheVariants.{SourceList, SourceChannel}
use Rattle.transit.specs.declared.Rank.{Rank}
use Rattle.transit.specs.declared.Selection.TheVariants.{BetweenAt}
use Rattle.protocol.specs.Laws.Links.{sender_of, receiver_of}
use Rattle.protocol.specs.Laws.Sound.{AtPairs, is_named}
use Rattle.protocol.specs.Laws.State.{sent_after}

-- the five facts
pub record InOrder (u : Unread) : Type 0 where
  pub few : u.count ≤ limit
  pub counted : length u.messages ≡ u.count
  pub named : every is_named u.messages ≡ true
  pub places_rise_lem : AtPairs (λ a b. never_falls (places a b u.messages))
  pub numbers_rise_lem : AtPairs (λ a b. rises_within 0 (sent_at a b u.sent) (sequences a b u.messages))

-- the message is of the pair and at the place
abbrev standing : Rank → Rank → Place → Message → Bool
standing a b p m = between a b m && at p m

-- Such a message is of another pair exactly where the two pairs are the same.
standing_of : (a b : Rank) (p : Place) (c d : Rank) (m : Message) → standing a b p m ≡ true
    → between c d m ≡ (is_same_rank a c && is_same_rank b d)
standing_of a b p c d m h = let is = both_left (between a b m) (at p m) h in rw (sender_of a b m is, receiver_of a b m is)

module _ (u : Unread) (o : InOrder u) where
  -- A message is added with the next number of its pair, at a place that none of its pair is past.
  module _ (a b : Rank) (p : Place) (v : ℕ) (ha : a.0 < ranks) (hb : b.0 < ranks) (long : length u.sent ≡ cells) where
    abbrev new : Message
    new = next_message a b p v u.sent

    append_rises : AtPairs (λ c d. rises_within 0 (sent_at c d (one_message_more a b u.sent)) (sequences c d (u.messages ++ new ∷ [])))
    append_rises c d hc hd =
        rw (sent_after u.sent a b c d long ha hb hd)
        (by_test (between c d new)
        (λ e.
        rw (append_own (λ m. m.sequence) c d u.messages new e, e, ← sender_of c d new e, ← receiver_of c d new e)
        (rises_next 0 (sent_at a b u.sent) (sequences a b u.messages) (omega arith) (o.numbers_rise_lem a b ha hb)))
        (λ e. rw (append_other (λ m. m.sequence) c d u.messages new e, e) (o.numbers_rise_lem c d hc hd)))

    pub append_keeps : u.count < limit → is_named new ≡ true
        → every (λ x. not (between a b x) || leb (place_index x) (place_index new)) u.messages ≡ true
        → InOrder (record { messages = u.messages ++ new ∷ []; count = u.count + 1; sent = one_message_more a b u.sent })
    append_keeps room name last =
        record {
          few = omega arith;
          counted = rw append_length (omega arith);
          named = rw every_append (both o.named (both name refl));
          places_rise_lem = λ c d hc hd.
              by_test (between c d new)
              (λ e.
              rw (append_own place_index c d u.messages new e)
              (never_falls_append (places c d u.messages) (place_index new) (o.places_rise_lem c d hc hd)
              (rw every_map
              (every_chosen (between c d) _ (λ x. leb (place_index x) (place_index new))
              (λ x is h. rw (sender_of c d new e, receiver_of c d new e, is) at h) u.messages last))))
              (λ e. rw (append_other place_index c d u.messages new e) (o.places_rise_lem c d hc hd));
          numbers_rise_lem = append_rises;
        }

  -- The first message of a pair at a place leaves.
  pub without_keeps : (a b : Rank) (p : Place) → InOrder (counted u.sent (without (standing a b p) u.messages))
  without_keeps a b p =
      record {
        few = omega (arith, without_shorter (standing a b p) u.messages);
        counted = refl;
        named = every_without is_named (standing a b p) u.messages o.named;
        places_rise_lem = λ c d hc hd.
            by_test (is_same_rank a c && is_same_rank b d)
            (λ e.
            rw (without_same (between c d) (standing a b p) (λ m h. standing_of a b p c d m h ∙ e) u.messages)
            (never_falls_without place_index (standing a b p) (select (between c d) u.messages) (o.places_rise_lem c d hc hd)))
            (λ e.
            rw (without_other (between c d) (standing a b p) (λ m h. standing_of a b p c d m h ∙ e) u.messages)
            (o.places_rise_lem c d hc hd));
        numbers_rise_lem = λ c d hc hd.
            by_test (is_same_rank a c && is_same_rank b d)
            (λ e.
            rw (without_same (between c d) (standing a b p) (λ m h. standing_of a b p c d m h ∙ e) u.messages)
            (rises_without (λ m. m.sequence) (standing a b p) 0 (sent_at c d u.sent) (select (between c d) u.messages)
            (o.numbers_rise_lem c d hc hd)))
            (λ e.
            rw (without_other (between c d) (standing a b p) (λ m h. standing_of a b p c d m h ∙ e) u.messages)
            (o.numbers_rise_lem c d hc hd));
      }

  -- The first message of a pair on the lane to the mover goes to the mover's list: of the pair, those before it are there already.
  pub first_keeps : (a b : Rank) → InOrder (relabel_first (BetweenAt a b SourceChannel) SourceList u)
  first_keeps a b =
      let lane : Message → Bool = standing a b SourceChannel in
      let to_list : Message → Message = relabelled SourceList in
      rw (relabels_first (BetweenAt a b SourceChannel) u SourceList) record {
        few = o.few;
        counted = first_to_length (BetweenAt a b SourceChannel) SourceList u.messages ∙ o.counted;
        named = every_change_first is_named lane to_list (λ m h e. h) u.messages o.named;
        places_rise_lem = λ c d hc hd.
            by_test (is_same_rank a c && is_same_rank b d)
            (λ e.
            rw (change_first_same (between c d) lane to_list (λ m. refl) (λ m h. standing_of a b SourceChannel c d m h ∙ e) u.messages)
            (never_falls_change_first place_index (between c d) lane to_list (λ m. refl) (λ m h. omega arith) (above c d)
            (select (between c d) u.messages) (every_selected (between c d) u.messages) (o.places_rise_lem c d hc hd)))
            (λ e.
            rw (change_first_other (between c d) lane to_list (λ m. refl) (λ m h. standing_of a b SourceChannel c d m h ∙ e) u.messages)
            (o.places_rise_lem c d hc hd));
        numbers_rise_lem = λ c d hc hd.
            rw (change_first_unseen (λ m. m.sequence) (between c d) lane to_list (λ m. refl) (λ m. refl) u.messages)
            (o.numbers_rise_lem c d hc hd);
      }
    where
      above : (c d : Rank) (x y : Message) → between c d x ≡ true → between c d y ≡ true
          → standing a b SourceChannel x ≡ false → standing a b SourceChannel y ≡ true → place_index x ≤ place_index y → place_index x ≤ 0
      above c d x y is_x is_y off on before =
          let mine : between a b x ≡ true =
          rw (sender_of c d x is_x, receiver_of c d x is_x, ← sender_of c d y is_y, ← receiver_of c d y is_y)
          (both_left (between a b y) _ on) in
          let elsewhere : eqb (place_index x) 1 ≡ false = rw mine at off in
          let there = eqb-true (place_index y) 1 (both_right (between a b y) (at SourceChannel y) on) in
          omega (arith, eqb-false (place_index x) 1 elsewhere, there)
