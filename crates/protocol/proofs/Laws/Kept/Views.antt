-- Every accepted record keeps the pairs sound, every message's place fit, and the messages counted, named and in order.
-- Assumes nothing.
use Rattle.std.specs.Prelude.{Option, Some, None, ◌≡◌, cond, not, ◌&&◌, ℕ, eqb, length}
use Rattle.std.proofs.Math.Path.{refl}
use Rattle.std.proofs.Common.{sym, ap, ◌∙◌, arith}
use Rattle.std.proofs.Math.Bool.{Bool, true, false, and_comm, and-true, and-false}
use mathlib.Core.List.{List, [], ◌∷◌, map, map-map, map-id, map_congr_left}
use Rattle.std.proofs.Math.Option.{none}
use borrow.Author.Tests.{eqb-true, lt-ltb}
use Rattle.std.proofs.lemmas.List.{length-map}
use Rattle.transit.specs.Laws.Operations.{appends, relabels, relabels_first, removes}
use Rattle.base.specs.Laws.Lists.{
  every_always,
  every_append,
  every_change_first,
  every_map,
  every_without,
  every_wider,
  none_passes,
  select_map,
}
use Rattle.base.specs.Laws.Tests.{by_test, both, both_left, both_right, not_both, same_either, if_so_lem}
use Rattle.base.specs.Lists.{every, change_each, select}
use Rattle.protocol.specs.Checks.{refusal}
use Rattle.transit.specs.Message.{relabelled, picks, at, between, same_place, is_same_rank, to, place_order, ranks}
use Rattle.transit.specs.Unread.{Unread, relabel_first, first_sent, appended, head, leave}
use Rattle.transit.specs.declared.Message.{Message}
use Rattle.transit.specs.declared.Place.{Place}
use Rattle.transit.specs.declared.Place.TheVariants.{SourceList, SourceChannel, EndList, Channel}
use Rattle.transit.specs.declared.Rank.{Rank}
use Rattle.transit.specs.declared.Selection.TheVariants.{ToAt, Between}
use Rattle.protocol.specs.Connect.{call, route, part, on_channel}
use Rattle.protocol.proofs.Laws.Accepted
use Rattle.protocol.specs.Laws.Changes.{shift}
use Rattle.protocol.specs.Laws.Effect.{Effect, pairs_stay, placed_anew, Unbarred, messages_stay, order_stays}
use Rattle.protocol.specs.Laws.Fit.{
  at_place,
  guarded,
  tested_seen,
  tested_pair,
  stands,
  pair_fits_lem,
  pairs_from_fits,
  messages_fit,
  fits,
}
use Rattle.protocol.proofs.Laws.Kept.Effects
use Rattle.protocol.proofs.Laws.Kept.Order.{InOrder, append_keeps, without_keeps, first_keeps}
use Rattle.protocol.specs.Laws.Links.{sender_of, receiver_of}
use Rattle.protocol.specs.Laws.Sound.{Facts, Pairs}
use Rattle.protocol.specs.Laws.Standings.{route_unseen}
use Rattle.protocol.specs.Laws.View.{Side, side, Change, pair_fits, message_fits, stands_so, places, if_so, up_to}
use Rattle.protocol.specs.Life.{start, end}
use Rattle.protocol.specs.Messages.{send, take, look, sent_message, place_over}
use Rattle.protocol.specs.Migrate.{move, heed, drain, land, drain_found, on_source_channel}
use Rattle.broker.specs.Names.{is_ended, is_closed, is_unheeded, same_vmid, endpoint, posted_to}
use Rattle.broker.specs.State.{State, messages, status, request, backlog, with_unread}
use Rattle.protocol.specs.Step.{apply}
use Rattle.record.specs.declared.Record.{Record}
use Rattle.record.specs.declared.Record.TheVariants.{Start, Call, Route, Send, Take, Move, Heed, Drain, Land, Part, End, Look}

-- the pairs, each message at its place, and the order of all
pub record Views (s : State) : Type 0 where
  pub pairs : Pairs s
  pub placed : every (fits s) (messages s) ≡ true
  pub order : InOrder s.unread

facts_order : (s : State) → Facts s → InOrder s.unread
facts_order s f =
    let mail = f.mail in
    record {
      few = mail.few;
      counted = mail.counted;
      named = mail.named;
      places_rise_lem = mail.places_rise_lem;
      numbers_rise_lem = mail.numbers_rise_lem;
    }

-- a message whose place is changed, if it is in scope and at the place p
changed_as : (scope : Bool) (p q : Place) (m : Message)
    → cond (scope && at p m) (relabelled q m) m ≡ relabelled (cond scope (shift p q m.place) m.place) m
changed_as scope p q m = by_test scope (λ e. rw e (by_test (at p m) (λ h. rw h) (λ h. rw h))) (λ e. rw e)

-- twice is as good as once
shift_again : (x : Place) → shift Channel EndList (shift Channel EndList x) ≡ shift Channel EndList x
shift_again x = by_test (same_place x Channel) (λ e. rw e) (λ e. rw (e, e))

-- over a line that stands a message that is sent fits, and none of its pair is past it: of the receiver's side and the sender's
sent_fits : (x y : Side) → stands_so x ≡ true → stands_so y ≡ true → pair_fits x y ≡ true → pair_fits y x ≡ true
    → (y.runs && not (is_closed y.link.connection)) ≡ true
    → (message_fits (place_over y.link.connection) x y
    && every (λ p. if_so (message_fits p x y) (up_to p (place_over y.link.connection))) places) ≡ true
unfolding pair_fits message_fits
sent_fits x y sx sy p q h =
    tested_pair (λ x y. pair_fits x y && pair_fits y x && (y.runs && not (is_closed y.link.connection)))
    (λ x y. message_fits (place_over y.link.connection) x y
    && every (λ p. if_so (message_fits p x y) (up_to p (place_over y.link.connection))) places) refl x y sx sy p q (both (both p q) h)

-- a message that is drained fits
drained_fits : (x y : Side) (p : Place) → same_place p SourceChannel ≡ true → message_fits p x y ≡ true → message_fits SourceList x y ≡ true
unfolding message_fits
drained_fits x y SourceList e h = h
drained_fits x y SourceChannel e h = tested_seen (message_fits SourceChannel) (message_fits SourceList) refl x y h
drained_fits x y EndList e h = absurd (not_both e refl)
drained_fits x y Channel e h = absurd (not_both e refl)

-- the message is on the lane from p to r's mover
abbrev on_lane : Rank → Rank → Message → Bool
on_lane p r m = between p r m && at SourceChannel m

-- where no first is found, nothing passes
nothing_found : (l : List Message) → head l ≡ None → l ≡ []
nothing_found [] e = refl
nothing_found (m ∷ l) e = cc

none_of : (l : List Message) → eqb (length l) 0 ≡ true → l ≡ []
none_of [] e = refl
none_of (m ∷ l) e = let z = eqb-true (length (m ∷ l)) 0 e in absurd (omega arith)

-- a step with an effect on the views: where each message gets its place anew, and where none does
module _ {s s' : State} {c : Change} {about : Rank → Rank → Bool} (f : Facts s) (e : Effect s s' c about) where
  -- the unread with other messages in their stead
  abbrev among : List Message → Unread
  among l = record { messages = l; count = s.unread.count; sent = s.unread.sent }

  views_anew : (g : Message → Message) → s'.unread ≡ among (map g (messages s)) → ((m : Message) → g m ≡ placed_anew f e m) → Unbarred f e
      → Views s'
  views_anew g list same unbarred =
      let placed : s'.unread ≡ among (map (placed_anew f e) (messages s)) =
      list ∙ ap among (map_congr_left {f = g} {g = placed_anew f e} {l = messages s} (λ m _. same m)) in
      let anew = placed_anew f e in
      let selected : (a b : Rank) → select (between a b) (map anew (messages s)) ≡ map anew (select (between a b) (messages s)) =
      λ a b. select_map (between a b) anew (λ m. refl) (messages s) in
      record {
        pairs = pairs_stay f e;
        placed = rw (placed, every_map) (messages_stay f e unbarred);
        order =
            rw placed record {
              few = f.mail.few;
              counted = length-map (messages s) (placed_anew f e) ∙ f.mail.counted;
              named = rw every_map f.mail.named;
              places_rise_lem = λ a b ha hb. rw (selected a b, map-map) (order_stays f e a b ha hb);
              numbers_rise_lem = λ a b ha hb. rw (selected a b, map-map) (f.mail.numbers_rise_lem a b ha hb);
            };
      }

  -- where the step bars no place, no message is barred
  free : ((x : Place) → c.bars x ≡ false) → Unbarred f e
  free bars = every_always _ (λ m. rw (bars m.place, and-false)) (messages s)

  -- where it changes no place, no message changes
  views_still : s'.unread ≡ s.unread → ((x : Place) → c.place x ≡ x) → ((x : Place) → c.place_back x ≡ x) → Unbarred f e → Views s'
  views_still same stays stays_back =
      views_anew (λ m. m) (same ∙ ap among (sym (map-id (messages s))))
      (λ m. rw (stays m.place, stays_back m.place, same_either, same_either))

-- The kinds with cases, and those that change the messages alone.
module _ (s : State) (f : Facts s) where
  views_route : (a b : Rank) → Accepted.RouteFits s a b → Views (route a b s).state
  unfolding route
  views_route a b k =
      let v = endpoint (status s b) in
      let same = route_unseen (λ (t : State). t.unread) (λ t r q. refl) (λ t ls. refl) (λ t vs. refl) a b s in
      by_test (is_ended (status s b))
      (λ g.
      let e = Effects.route_ended_effect s f a b k in
      rw g (views_still f e refl (λ x. refl) (λ x. refl) (free f e (λ x. refl))))
      (λ g. by_test (same_vmid (posted_to (request s a)) v)
      (λ h.
      let e = Effects.route_there_effect s f a b k v g in
      rw (g, h) (views_still f e (rw (g, h) at same) (λ x. refl) (λ x. refl) (free f e (λ x. refl))))
      (λ h.
      let e = Effects.route_on_effect s f a b k v in
      rw (g, h) (views_still f e refl (λ x. refl) (λ x. refl) (free f e (λ x. refl)))))

  -- a state that differs in its messages alone
  views_with : (u : Unread) → every (fits s) u.messages ≡ true → InOrder u → Views (with_unread u s)
  views_with u placed order =
      let pairs = pairs_from_fits (with_unread u s) f.pairs.nothing_with_self_lem (λ a b ha hb d. pair_fits_lem s f.pairs a b ha hb) in
      record { pairs = pairs; placed = placed; order = order }

  views_send : (a b : Rank) (v : ℕ) → Accepted.SendFits s a b → Views (send a b v s).state
  unfolding send
  views_send a b v k =
      let m = sent_message a b v s in
      let ha = k.two.first in
      let hb = k.two.second in
      let fit = sent_fits (side s b a) (side s a b) (stands (status s b)) (stands (status s a)) (pair_fits_lem s f.pairs b a hb ha)
      (pair_fits_lem s f.pairs a b ha hb) (rw (k.running, k.line)) in
      let new : fits s m ≡ true = both_left _ _ fit in
      let past : Place → Bool = λ p. if_so (message_fits p (side s b a) (side s a b)) (up_to p m.place) in
      let added = appends s.unread a b m.place v k.room in
      views_with (appended s.unread a b m.place v).unread
      (rw (added, every_append) (both (messages_fit s f.mail) (both new refl)))
      (rw added
      (append_keeps s.unread (facts_order s f) a b m.place v ha hb f.shape.sent_long k.room
      (rw (lt-ltb a.0 ranks ha, lt-ltb b.0 ranks hb, k.two.apart))
      (every_wider (fits s) _
      (λ x h.
      if_so_lem (between a b x) (up_to x.place m.place) λ is.
      guarded (message_fits x.place (side s b a) (side s a b)) _ (at_place past (both_right (fits s m) _ fit) x.place)
      (rw (sender_of a b x is, receiver_of a b x is) at h))
      (messages s) (messages_fit s f.mail))))

  views_take : (b a : Rank) → Views (take b a s).state
  unfolding take
  views_take b a = rw (removes (Between a b) s.unread) (left (head (place_order (Between a b) (messages s))))
    where
      left : (x : Option Message) → Views (with_unread (leave (Between a b) s.unread x).unread s)
      left None = views_with s.unread (messages_fit s f.mail) (facts_order s f)
      left (Some m) =
          views_with _ (every_without (fits s) (λ x. between a b x && at m.place x) (messages s) (messages_fit s f.mail))
          (without_keeps s.unread (facts_order s f) a b m.place)

  views_drain : (r p : Rank) → Accepted.DrainFits s r p → Views (drain r p s).state
  unfolding drain
  views_drain r p k = left (first_sent (on_source_channel p r) s.unread) refl
    where
      left : (x : Option Message) → first_sent (on_source_channel p r) s.unread ≡ x → Views (drain_found r p s x).state
      left (Some m) e =
          views_with (relabel_first (on_source_channel p r) SourceList s.unread)
          (rw (relabels_first (on_source_channel p r) s.unread SourceList)
          (every_change_first (fits s) (on_lane p r) (relabelled SourceList)
          (λ m g h.
          drained_fits (side s m.receiver m.sender) (side s m.sender m.receiver) m.place (both_right (between p r m) _ h) g)
          (messages s) (messages_fit s f.mail)))
          (first_keeps s.unread (facts_order s f) p r)
      left None e =
          let none = nothing_found (select (on_lane p r) (messages s)) e in
          let ready : is_unheeded (backlog s r p) ≡ false = rw none at k.ready in
          views_still f (Effects.clear_effect s f r p k ready) refl (λ x. refl) (λ x. refl) (none_passes (on_lane p r) (messages s) none)

pub views_kept : (s : State) (r : Record) → Facts s → refusal s r ≡ none → Views (apply r s).state
unfolding apply look start end call move heed land part
views_kept s (Start r h) f p =
    let e = Effects.start_effect s f r h (Accepted.start_fits s r h p) in
    views_still f e refl (λ x. refl) (λ x. refl) (free f e (λ x. refl))
views_kept s (Call a b) f p =
    let e = Effects.call_effect s f a b (Accepted.call_fits s a b p) in
    views_still f e refl (λ x. refl) (λ x. refl) (free f e (λ x. refl))
views_kept s (Route a b) f p = views_route s f a b (Accepted.route_fits s a b p)
views_kept s (Send a b v) f p = views_send s f a b v (Accepted.send_fits s a b v p)
views_kept s (Take b a) f p = views_take s f b a
views_kept s (Move r h) f p =
    let e = Effects.move_effect s f r h (Accepted.move_fits s r h p) in
    let listed : Message → Message = change_each (picks (ToAt r EndList)) (relabelled SourceList) in
    views_anew f e (λ m. change_each (picks (ToAt r Channel)) (relabelled SourceChannel) (listed m))
    (rw (relabels, relabels, map-map))
    (λ m.
    let first = relabelled (cond (to r m) (shift EndList SourceList m.place) m.place) m in
    rw (changed_as (to r m) EndList SourceList m, changed_as (to r m) Channel SourceChannel first)
    (by_test (to r m) (λ e. rw e) (λ e. rw (e, same_either))))
    (free f e (λ x. refl))
views_kept s (Heed b r) f p =
    let e = Effects.heed_effect s f b r (Accepted.heed_fits s b r p) in
    views_anew f e (change_each (picks (on_channel r b)) (relabelled EndList)) (rw relabels)
    (λ m. rw (changed_as (between r b m) Channel EndList m, same_either)) (free f e (λ x. refl))
views_kept s (Drain r q) f p = views_drain s f r q (Accepted.drain_fits s r q p)
views_kept s (Land r) f p =
    let e = Effects.land_effect s f r (Accepted.land_fits s r p) in
    views_anew f e (change_each (picks (ToAt r SourceList)) (relabelled EndList)) (rw relabels)
    (λ m. rw (changed_as (to r m) SourceList EndList m, same_either)) (free f e (λ x. refl))
views_kept s (Part a b) f p =
    let e = Effects.part_effect s f a b (Accepted.part_fits s a b p) in
    let listed : Rank → Rank → Message → Message = λ p q. change_each (picks (on_channel p q)) (relabelled EndList) in
    views_anew f e (λ m. listed a b (listed b a m)) (rw (relabels, relabels, map-map))
    (λ m.
    let there = relabelled (cond (between b a m) (shift Channel EndList m.place) m.place) m in
    rw (changed_as (between b a m) Channel EndList m, changed_as (between a b m) Channel EndList there)
    (rw (and_comm (is_same_rank m.receiver b) (is_same_rank m.sender a))
    (by_test (between b a m) (λ e. rw (e, shift_again, same_either)) (λ e. rw e))))
    (free f e (λ x. refl))
views_kept s (End r) f p =
    let k = Accepted.end_fits s r p in
    views_still f (Effects.end_effect s f r k) refl (λ x. refl) (λ x. refl)
    (every_wider (λ m. not (to r m)) _ (λ m h. rw and-true h) (messages s)
    (none_passes (to r) (messages s) (none_of (select (to r) (messages s)) k.nothing)))
views_kept s (Look r) f p = views_with s f s.unread (messages_fit s f.mail) (facts_order s f)
