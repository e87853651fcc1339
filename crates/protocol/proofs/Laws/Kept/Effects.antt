-- The effect of each kind that changes a standing, a line, an await or a call on the view of every pair. Assumes nothing.
use Rattle.std.specs.Prelude.{◌≡◌, Bool, cond, not, List, ℕ, ◌<◌, get_or, Option, None, Some}
use Rattle.std.proofs.Math.Path.{refl, sym}
use Rattle.std.proofs.Common.{ap, ◌∙◌, length-set}
use Rattle.std.proofs.Math.Bool.{true, false, and_comm, and-false}
use Rattle.std.proofs.Math.ListN.{length}
use Rattle.base.specs.Laws.Tests.{by_test, both_left, not_both, or_right, same_either}
use Rattle.transit.specs.Message.{is_same_rank, ranks, cells}
use Rattle.transit.specs.declared.Rank.{Rank}
use Rattle.protocol.specs.Connect.{call, part, route_to_ended, route_there, route_on, withdraw, connect_both}
use Rattle.protocol.proofs.Laws.Accepted.{
  StartFits,
  CallFits,
  RouteFits,
  MoveFits,
  HeedFits,
  DrainFits,
  LandFits,
  PartFits,
  EndFits,
  running_of,
  Two,
}
use Rattle.protocol.specs.Laws.Changes.{
  connect_as,
  await_as,
  stand_as,
  redone,
  link_as,
  ask_as,
  starting,
  calling,
  withdrawing,
  reposting,
  joining,
  left_by,
  faced_by,
  moving,
  heeding,
  clearing,
  landing,
  parting,
  ending,
}
use Rattle.protocol.specs.Laws.Effect.{Effect}
use Rattle.protocol.specs.Laws.Leaving.{closed_stays, leave_all_at}
use Rattle.protocol.specs.Laws.Links.{same_pair, of_pair, pair_once, not_twice, link_changed, both_changed}
use Rattle.protocol.specs.Laws.Sound.{Facts}
use Rattle.protocol.specs.Laws.Standings.{withdraw_unseen}
use Rattle.protocol.specs.Laws.State.{
  same_rank_eq,
  same_rank_self,
  same_rank_turned,
  status_with,
  request_with,
  status_with_request,
  request_with_status,
}
use Rattle.protocol.specs.Laws.View.{Side, side_of, link_of, call_of, side, Change, keeps}
use Rattle.protocol.specs.Life.{start, end}
use Rattle.protocol.specs.Migrate.{move, heed, land}
use Rattle.broker.specs.Names.{
  is_started,
  is_running,
  is_migrating,
  is_ended,
  is_live,
  endpoint,
  is_open_request,
  asks_for,
  is_closed,
  is_clear,
  is_unheeded,
  posted,
}
use Rattle.broker.specs.State.{
  next_vmid,
  draw,
  await,
  State,
  idle,
  status,
  request,
  location,
  connection,
  backlog,
  with_status,
  with_request,
  with_links,
}
use Rattle.broker.specs.declared.link.Backlog.TheVariants.{Clear, Marked}
use Rattle.broker.specs.declared.link.Connection.{Connection}
use Rattle.broker.specs.declared.link.Connection.TheVariants.{Closed, Open}
use Rattle.broker.specs.declared.link.Link.{Link}
use Rattle.broker.specs.declared.process.Process.{Process}
use Rattle.broker.specs.declared.process.Request.{Request}
use Rattle.broker.specs.declared.process.Status.{Status}
use Rattle.broker.specs.declared.process.Status.TheVariants.{Running, Migrating, Ended}
use Rattle.broker.specs.declared.process.Vmid.{Vmid}

-- a call that is not open goes to nobody, and one that goes to a rank to no other
no_ask : (q : Option Request) (b : Rank) → is_open_request q ≡ false → asks_for b q ≡ false
no_ask None b h = refl
no_ask (Some q) b h = absurd (not_both refl h)

same_ask : (q : Option Request) (b y : Rank) → asks_for b q ≡ true → asks_for y q ≡ is_same_rank b y
same_ask None b y h = absurd (not_both h refl)
same_ask (Some q) b y h = rw (same_rank_eq q.to b h)

-- a's calls where its call is put anew, and goes to nobody but b before and after; and where it closes if it goes to b
reasked : (s : State) → length s.processes ≡ ranks → (a b : Rank) → a.0 < ranks → (q : Option Request)
    → ((y : Rank) → is_same_rank y b ≡ false → asks_for y q ≡ asks_for y (request s a))
    → (x y : Rank) → asks_for y (request (with_request a q s) x) ≡ cond (same_pair a b x y) (asks_for b q) (asks_for y (request s x))
reasked s long a b ha q other x y =
    rw (request_with s a x q long ha)
    (by_test (is_same_rank x a)
    (λ e. by_test (is_same_rank y b) (λ g. rw (e, g, same_rank_eq y b g)) (λ g. rw (e, g, same_rank_eq x a e) (other y g)))
    (λ e. rw (e, and-false)))

withdraw_asks : (s : State) → length s.processes ≡ ranks → (a b : Rank) → a.0 < ranks
    → (x y : Rank) → asks_for y (request (withdraw a b s) x) ≡ cond (same_pair a b x y) false (asks_for y (request s x))
withdraw_asks s long a b ha x y =
    by_test (asks_for b (request s a))
    (λ e. rw e (reasked s long a b ha None (λ y d. sym (same_ask (request s a) b y e ∙ same_rank_turned y b d)) x y))
    (λ e. rw e (by_test (same_pair a b x y) (λ g. rw g (of_pair (λ x y. asks_for y (request s x) ≡ false) x y e g)) (λ g. rw g)))

live_of : (t : Status) → is_started t ≡ true → is_ended t ≡ false → is_live t ≡ true
live_of t h k = by_test (is_migrating t) (or_right (is_running t)) (λ e. rw (running_of t h k e))

-- nobody has a line to itself
own_closed : (s : State) → Facts s → (a : Rank) → a.0 < ranks → is_closed (connection s a a) ≡ true
own_closed s f a ha = both_left _ (is_clear (backlog s a a)) (both_left _ (not (call_of s a a)) (f.pairs.nothing_with_self_lem a ha))

module _ (s s' : State) (f : Facts s) where
  -- a side by its parts
  side_anew_lem : (x y : Rank) (p q : Bool) (t : Status) (l m : Link) (u v : Bool) → status s' x ≡ cond p t (status s x)
      → link_of s' x y ≡ cond p l (cond q m (link_of s x y)) → call_of s' x y ≡ cond p u (cond q v (call_of s x y))
      → side s' x y ≡ cond p (side_of t l u) (cond q (side_of (status s x) m v) (side s x y))
  side_anew_lem x y p q t l m u v e g h = rw (e, g, h) (by_test p (λ i. rw i) (λ i. by_test q (λ j. rw (i, j)) (λ j. rw (i, j))))

  -- One rank stands otherwise, and the links from it and to it by its lines: start, land, end and move.
  about_rank : (r : Rank) (t : Status) (left faced : Connection → Link → Link) (c : Change)
      → ((x y : Side) → c.own x y ≡ stand_as t (link_as (left x.link.connection) x))
      → ((x y : Side) → c.other x y ≡ link_as (faced y.link.connection) x)
      → ((k : Connection) (l : Link) → is_closed k ≡ true → left k l ≡ l)
      → ((a : Rank) → status s' a ≡ cond (is_same_rank a r) t (status s a)) → ((a : Rank) → request s' a ≡ request s a)
      → ((a b : Rank) → a.0 < ranks → b.0 < ranks → link_of s' a b ≡ cond (is_same_rank a r) (left (connection s a b) (link_of s a b))
      (cond (is_same_rank b r) (faced (connection s b a) (link_of s a b)) (link_of s a b)))
      → keeps c ≡ true → ((b : Rank) → b.0 < ranks → c.asked (side s r b) (side s b r) ≡ true) → Effect s s' c (λ a b. is_same_rank a r)
  about_rank r t left faced c own other closed statuses requests links kept asked =
      record {
        kept = kept;
        once = λ a b d e. rw (← same_rank_eq a r e) (same_rank_turned a b d);
        asked = λ a b ha hb e. rw (same_rank_eq a r e) (asked b hb);
        sides =
            λ a b ha hb.
            rw (own (side s a b) (side s b a), other (side s a b) (side s b a))
            (side_anew_lem a b (is_same_rank a r) (is_same_rank b r) t _ _ _ _ (statuses a) (links a b ha hb)
            (rw (requests a, same_either, same_either)));
        self =
            λ a ha.
            let none = f.pairs.nothing_with_self_lem a ha in
            rw (links a a ha ha, requests a)
            (by_test (is_same_rank a r) (λ e. rw (e, closed (connection s a a) (link_of s a a) (own_closed s f a ha)) none)
            (λ e. rw e none));
      }

  -- The links of two ranks and their calls to one another change: call, route, part, heed and drain.
  about_pair : (a b : Rank) → is_same_rank a b ≡ false → (own other : Link → Link) (u v : Bool → Bool) (c : Change)
      → ((x y : Side) → c.own x y ≡ redone own u x) → ((x y : Side) → c.other x y ≡ redone other v x)
      → ((x : Rank) → status s' x ≡ status s x)
      → ((x y : Rank) → x.0 < ranks → y.0 < ranks
      → link_of s' x y ≡ cond (same_pair a b x y) (own (link_of s x y)) (cond (same_pair a b y x) (other (link_of s x y)) (link_of s x y)))
      → ((x y : Rank)
      → call_of s' x y ≡ cond (same_pair a b x y) (u (call_of s x y)) (cond (same_pair a b y x) (v (call_of s x y)) (call_of s x y)))
      → keeps c ≡ true → c.asked (side s a b) (side s b a) ≡ true → Effect s s' c (same_pair a b)
  about_pair a b apart own other u v c own_is other_is statuses links asks kept fits =
      record {
        kept = kept;
        once = λ x y d. pair_once a b apart x y;
        asked = λ x y hx hy. of_pair (λ x y. c.asked (side s x y) (side s y x) ≡ true) x y fits;
        sides =
            λ x y hx hy.
            rw (own_is (side s x y) (side s y x), other_is (side s x y) (side s y x))
            (side_anew_lem x y (same_pair a b x y) (same_pair a b y x) (status s x) _ _ _ _
            (statuses x ∙ sym (same_either (same_pair a b x y) (status s x))) (links x y hx hy) (asks x y));
        self = λ x hx. rw (links x x hx hx, asks x x, not_twice a b x apart) (f.pairs.nothing_with_self_lem x hx);
      }

-- One rank stands otherwise.
module _ (s : State) (f : Facts s) where
  long : length s.processes ≡ ranks
  long = f.shape.processes_long

  linked : length s.links ≡ cells
  linked = f.shape.links_long

  -- and nothing else
  restood : (s' : State) (r : Rank) (t : Status) (c : Change) → r.0 < ranks → s'.processes ≡ (with_status r t s).processes
      → s'.links ≡ s.links → ((x y : Side) → c.own x y ≡ stand_as t x) → ((x y : Side) → c.other x y ≡ x) → keeps c ≡ true
      → ((b : Rank) → b.0 < ranks → c.asked (side s r b) (side s b r) ≡ true) → Effect s s' c (λ a b. is_same_rank a r)
  restood s' r t c hr processes links own other kept asked =
      about_rank s s' f r t (λ k l. l) (λ k l. l) c own other (λ k l h. refl)
      (λ a. ap (λ (ps : List Process). (get_or ps a.0 idle).status) processes ∙ status_with s r a t long hr)
      (λ a. ap (λ (ps : List Process). (get_or ps a.0 idle).request) processes ∙ request_with_status s r a t)
      (λ a b ha hb. rw (links, same_either, same_either)) kept asked

  pub start_effect : (r : Rank) (h : ℕ) → StartFits s r h → Effect s (start r h s).state starting (λ a b. is_same_rank a r)
  unfolding start keeps
  start_effect r h k =
      restood (start r h s).state r (Running (next_vmid s h)) starting k.in_range refl refl (λ x y. refl) (λ x y. refl) refl
      (λ b hb. rw k.unstarted)

  pub end_effect : (r : Rank) → EndFits s r → Effect s (end r s).state ending (λ a b. is_same_rank a r)
  unfolding end keeps
  end_effect r k =
      restood (end r s).state r (Ended (endpoint (status s r))) ending k.one.in_range refl refl (λ x y. refl) (λ x y. refl) refl
      (λ b hb. rw (k.running, k.closed b hb, no_ask (request s r) b k.idle))

  pub land_effect : (r : Rank) → LandFits s r → Effect s (land r s).state landing (λ a b. is_same_rank a r)
  unfolding land keeps
  land_effect r k =
      restood (land r s).state r (Running (endpoint (status s r))) landing k.one.in_range refl refl (λ x y. refl) (λ x y. refl) refl
      (λ b hb. rw (k.migrating, k.clear b hb))

  pub move_effect : (r : Rank) (h : ℕ) → MoveFits s r h → Effect s (move r h s).state moving (λ a b. is_same_rank a r)
  unfolding move keeps
  move_effect r h k =
      let hr = k.one.in_range in
      let t = Migrating (endpoint (status s r)) (next_vmid s h) in
      about_rank s (move r h s).state f r t left_by faced_by moving (λ x y. refl) (λ x y. refl) closed_stays
      (λ a. status_with (draw h s) r a t long hr) (λ a. request_with_status (draw h s) r a t)
      (leave_all_at r hr s.links linked (own_closed s f r hr)) refl
      (λ b hb. rw (k.running, no_ask (request s r) b k.idle))

  -- a's call is put anew, where it goes to nobody but b before and after
  module _ (a b : Rank) (q : Option Request) (other : (y : Rank) → is_same_rank y b ≡ false → asks_for y q ≡ asks_for y (request s a)) where
    recalled : (s' : State) (c : Change) (w : Bool) → Two s a b → s'.processes ≡ (with_request a q s).processes → s'.links ≡ s.links
        → ((x y : Side) → c.own x y ≡ ask_as w x) → ((x y : Side) → c.other x y ≡ x) → asks_for b q ≡ w
        → keeps c ≡ true → c.asked (side s a b) (side s b a) ≡ true → Effect s s' c (same_pair a b)
    recalled s' c w two processes links own_is other_is asks =
        about_pair s s' f a b two.apart (λ l. l) (λ l. l) (λ _. w) (λ u. u) c own_is other_is
        (λ x. ap (λ (ps : List Process). (get_or ps x.0 idle).status) processes ∙ status_with_request s a x q)
        (λ x y hx hy. rw (links, same_either, same_either))
        (λ x y.
        ap (λ (ps : List Process). asks_for y (get_or ps x.0 idle).request) processes ∙ reasked s long a b two.first q other x y ∙
        rw (asks, same_either))

  pub call_effect : (a b : Rank) → CallFits s a b → Effect s (call a b s).state calling (same_pair a b)
  unfolding call keeps
  call_effect a b k =
      recalled a b (posted b (location s a b)) (λ y e. same_rank_turned y b e ∙ sym (no_ask (request s a) y k.idle))
      (call a b s).state calling true k.two refl refl (λ x y. refl) (λ x y. refl) (same_rank_self b) refl
      (rw (k.running, k.two.second_started, k.closed))

  module _ (a b : Rank) (k : RouteFits s a b) where
    pub route_ended_effect : Effect s (route_to_ended a b s).state withdrawing (same_pair a b)
    unfolding keeps
    route_ended_effect =
        recalled a b None (λ y e. sym (same_ask (request s a) b y k.asks ∙ same_rank_turned y b e))
        (route_to_ended a b s).state withdrawing false k.two refl refl (λ x y. refl) (λ x y. refl) refl refl refl

    pub route_on_effect : (v : Vmid) → Effect s (route_on a b v s).state reposting (same_pair a b)
    unfolding keeps
    route_on_effect v =
        recalled a b (posted b v) (λ y e. sym (same_ask (request s a) b y k.asks))
        (route_on a b v s).state reposting true k.two refl refl (λ x y. refl) (λ x y. refl) (same_rank_self b) refl k.asks

    -- where the call arrives, the line stands and both calls close
    pub route_there_effect : (v : Vmid) → is_ended (status s b) ≡ false → Effect s (route_there a b v s).state joining (same_pair a b)
    unfolding keeps
    route_there_effect v living =
        let lined = connect_both a b Open s in
        let uncalled = withdraw a b lined in
        let still = withdraw_unseen (λ t. length t.processes) (λ t r q. simp length-set) a b lined ∙ long in
        about_pair s (route_there a b v s).state f a b k.two.apart (connect_as Open) (connect_as Open) (λ _. false) (λ _. false) joining
        (λ x y. refl) (λ x y. refl)
        (λ x.
        withdraw_unseen (λ t. status t x) (λ t r q. status_with_request t r x q) b a uncalled ∙
        withdraw_unseen (λ t. status t x) (λ t r q. status_with_request t r x q) a b lined)
        (λ x y hx hy.
        withdraw_unseen (λ t. link_of t x y) (λ t r q. refl) b a uncalled ∙
        withdraw_unseen (λ t. link_of t x y) (λ t r q. refl) a b lined ∙
        both_changed a b k.two.first k.two.second s.links linked (connect_as Open) (connect_as Open) k.two.apart x y hx hy)
        (λ x y.
        withdraw_asks uncalled still b a k.two.second x y ∙
        rw (withdraw_asks lined long a b k.two.first x y, and_comm (is_same_rank y a) (is_same_rank x b))
        (by_test (same_pair a b x y) (λ e. rw (e, same_either)) (λ e. rw e)))
        refl (rw k.asks (live_of (status s b) k.two.second_started living))

  pub part_effect : (a b : Rank) → PartFits s a b → Effect s (part a b s).state parting (same_pair a b)
  unfolding part keeps
  part_effect a b k =
      about_pair s (part a b s).state f a b k.two.apart (connect_as Closed) (connect_as Closed) (λ q. q) (λ q. q) parting
      (λ x y. refl) (λ x y. refl) (λ x. refl)
      (both_changed a b k.two.first k.two.second s.links linked (connect_as Closed) (connect_as Closed) k.two.apart)
      (λ x y. rw (same_either, same_either)) refl k.plain

  pub heed_effect : (b r : Rank) → HeedFits s b r → Effect s (heed b r s).state heeding (same_pair b r)
  unfolding heed keeps
  heed_effect b r k =
      about_pair s (heed b r s).state f b r k.two.apart (connect_as Closed) (await_as Marked) (λ q. q) (λ q. q) heeding
      (λ x y. refl) (λ x y. refl) (λ x. refl)
      (both_changed b r k.two.first k.two.second s.links linked (connect_as Closed) (await_as Marked) k.two.apart)
      (λ x y. rw (same_either, same_either)) refl k.notice

  pub clear_effect : (r p : Rank) → DrainFits s r p → is_unheeded (backlog s r p) ≡ false
      → Effect s (with_links (await r p Clear s.links) s) clearing (same_pair r p)
  unfolding keeps
  clear_effect r p k ready =
      about_pair s (with_links (await r p Clear s.links) s) f r p k.two.apart (await_as Clear) (λ l. l) (λ q. q) (λ q. q) clearing
      (λ x y. refl) (λ x y. refl) (λ x. refl)
      (λ x y hx hy. link_changed r p k.two.first k.two.second s.links linked (await_as Clear) x y hy ∙ rw same_either)
      (λ x y. rw (same_either, same_either)) refl (rw ready)
