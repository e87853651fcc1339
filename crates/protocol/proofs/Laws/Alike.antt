-- What is accepted in one state is accepted in a quiet state with the same core: start, take, move and end as they stand, and a send once
-- the two ranks are joined. Assumes nothing.
use Rattle.std.specs.Prelude.{◌≡◌, refl, Bool, true, false, not, ◌&&◌, ◌||◌, List, map, ℕ, ◌<◌, length, get_or, Option}
use Rattle.std.proofs.Common.{sym, ap, ◌∙◌}
use Rattle.std.proofs.Math.Option.{none}
use Rattle.std.proofs.lemmas.List.{length-map}
use Rattle.base.specs.Laws.Lists.{select_map}
use Rattle.base.specs.Laws.Tests.{both, not_both}
use Rattle.base.specs.Lists.{tally}
use Rattle.transit.specs.Message.{letter, between, to, ranks}
use Rattle.transit.specs.Unread.{limit, most_sent, sent_at}
use Rattle.transit.specs.declared.Message.{Message}
use Rattle.transit.specs.declared.Rank.{Rank}
use Rattle.protocol.specs.Checks.{refusal}
use Rattle.protocol.proofs.Laws.Accepted.{
  One,
  Two,
  SendFits,
  start_fits,
  send_fits,
  take_fits,
  move_fits,
  end_fits,
  started_of_migrating,
  running_not_ended,
}
use Rattle.protocol.proofs.Laws.Accepts.{
  start_accepted,
  call_accepted,
  route_accepted,
  send_accepted,
  take_accepted,
  move_accepted,
  land_accepted,
  part_accepted,
  end_accepted,
}
use Rattle.protocol.specs.Laws.Core.{Core, core, settled, core_status}
use Rattle.protocol.specs.Laws.Fit.{tested_pair, stands, pair_fits_lem}
use Rattle.protocol.proofs.Laws.Quiet.{Calm, AllQuiet, Moving, Calling, Joined, nobody}
use Rattle.protocol.specs.Laws.Sound.{facts}
use Rattle.protocol.specs.Laws.State.{same_rank_self}
use Rattle.protocol.specs.Laws.View.{side, pair_fits}
use Rattle.protocol.specs.Messages.{sent_between}
use Rattle.broker.specs.Names.{is_started, is_running, is_migrating, is_live, is_ended, is_closed, is_clear}
use Rattle.protocol.specs.Sound.{sound}
use Rattle.broker.specs.State.{State, status, request, connection, drawn_on, messages}
use Rattle.broker.specs.declared.link.Connection.{Connection}
use Rattle.broker.specs.declared.link.Connection.TheVariants.{Open}
use Rattle.broker.specs.declared.link.Link.{Link}
use Rattle.broker.specs.declared.process.Request.{Request}
use Rattle.broker.specs.declared.process.Status.{Status}
use Rattle.broker.specs.declared.process.Status.TheVariants.{Unstarted, Running, Migrating, Ended}
use Rattle.broker.specs.declared.process.Vmid.{Vmid}
use Rattle.record.specs.declared.Record.TheVariants.{Start, Call, Route, Send, Take, Move, Land, Part, End}

-- A standing that is no migration is settled already.
pub settled_unless_migrating : (t : Status) → is_migrating t ≡ false → settled t ≡ t
settled_unless_migrating Unstarted h = refl
settled_unless_migrating (Running v) h = refl
settled_unless_migrating (Migrating v w) h = absurd (not_both refl h)
settled_unless_migrating (Ended v) h = refl

-- Settled, a rank is started as before, and runs where it is live.
started_settled : (t : Status) → is_started (settled t) ≡ is_started t
started_settled Unstarted = refl
started_settled (Running v) = refl
started_settled (Migrating v w) = refl
started_settled (Ended v) = refl

live_settled : (t : Status) → is_running (settled t) ≡ is_live t
live_settled Unstarted = refl
live_settled (Running v) = refl
live_settled (Migrating v w) = refl
live_settled (Ended v) = refl

-- In a sound state a line leads to a rank that is running or migrating.
peer_lives : (s : State) (a b : Rank) → sound s ≡ true → SendFits s a b → is_live (status s b) ≡ true
unfolding pair_fits
peer_lives s a b h f =
    let pairs = (facts s h).pairs in
    let first = f.two.first in
    let second = f.two.second in
    let fit = pair_fits_lem s pairs a b first second in
    let back = pair_fits_lem s pairs b a second first in
    tested_pair (λ x y. pair_fits x y && pair_fits y x && not (is_closed x.link.connection)) (λ x y. y.runs || y.migrates) refl
    (side s a b) (side s b a) (stands (status s a)) (stands (status s b)) fit back (both (both fit back) (rw f.line))

-- A state s, and a state x with the same standings, settled, in which nobody migrates.
module _ (s x : State) (standing : (core x).statuses ≡ (core s).statuses) {q : Rank → Option Request} {l : Rank → Rank → Connection}
    (c : Calm x nobody q l)
  where
    -- x has the standings of s, settled: who is started is so in both, and who lives in s runs in x.
    pub status_alike : (r : Rank) → r.0 < ranks → status x r ≡ settled (status s r)
    status_alike r hr =
        sym (settled_unless_migrating (status x r) (c.migrating r hr)) ∙ sym (core_status x r) ∙
        ap (λ (ts : List Status). get_or ts r.0 Unstarted) standing ∙ core_status s r

    started_alike : (r : Rank) → r.0 < ranks → is_started (status x r) ≡ is_started (status s r)
    started_alike r hr = rw (status_alike r hr) (started_settled (status s r))

    live_runs : (r : Rank) → r.0 < ranks → is_live (status s r) ≡ true → is_running (status x r) ≡ true
    live_runs r hr h = rw (status_alike r hr, live_settled (status s r)) h

    running_alike : (r : Rank) → r.0 < ranks → is_running (status s r) ≡ true → is_running (status x r) ≡ true
    running_alike r hr h = live_runs r hr (rw h)

    one_alike : (r : Rank) → One s r → One x r
    one_alike r o = record { in_range = o.in_range; started = started_alike r o.in_range ∙ o.started }

    two_alike : (a b : Rank) → Two s a b → Two x a b
    two_alike a b t =
        let one = started_alike a t.first ∙ t.first_started in
        let other = started_alike b t.second ∙ t.second_started in
        record { first = t.first; second = t.second; apart = t.apart; first_started = one; second_started = other }

-- Two cores that are the same have the same standings.
pub same_standings : {c d : Core} → c ≡ d → c.statuses ≡ d.statuses
same_standings e = ap (λ (k : Core). k.statuses) e

-- Two states with the same core have the same numbers drawn, the same counts sent, and as many messages that pass a test which does not
-- see places.
module _ (s x : State) (same : core x ≡ core s) where
  drawn_alike : (h : ℕ) → drawn_on x h ≡ drawn_on s h
  drawn_alike h = ap (λ (k : Core). get_or k.drawn h 0) same

  sent_alike : (a b : Rank) → sent_between a b x ≡ sent_between a b s
  sent_alike a b = ap (λ (k : Core). sent_at a b k.sent) same

  tally_alike : (p : Message → Bool) → ((m : Message) → p (letter m) ≡ p m) → tally p (messages x) ≡ tally p (messages s)
  tally_alike p kept = sym (lettered (messages x)) ∙ ap (λ (k : Core). tally p k.letters) same ∙ lettered (messages s)
    where
      lettered : (k : List Message) → tally p (map letter k) ≡ tally p k
      lettered k = rw (select_map p letter kept k, length-map)

  count_alike : sound x ≡ true → sound s ≡ true → x.unread.count ≡ s.unread.count
  count_alike hx hs =
      sym (facts x hx).mail.counted ∙ sym (length-map (messages x) letter) ∙ ap (λ (k : Core). length k.letters) same ∙
      length-map (messages s) letter ∙ (facts s hs).mail.counted

-- What s accepts is accepted in a quiet state with the same core.
module _ (s x : State) (same : core x ≡ core s) (c : AllQuiet x) where
  pub start_again : (r : Rank) (h : ℕ) → refusal s (Start r h) ≡ none → refusal x (Start r h) ≡ none
  start_again r h p =
      let f = start_fits s r h p in
      let unstarted = started_alike s x (same_standings same) c r f.in_range ∙ f.unstarted in
      start_accepted x r h
      (record { in_range = f.in_range; host = f.host; unstarted = unstarted; room = rw (drawn_alike s x same h) f.room })

  pub take_again : (b a : Rank) → refusal s (Take b a) ≡ none → refusal x (Take b a) ≡ none
  take_again b a p =
      let f = take_fits s b a p in
      take_accepted x b a
      (record {
        two = two_alike s x (same_standings same) c b a f.two;
        running = running_alike s x (same_standings same) c b f.two.first f.running;
        unread = rw (tally_alike s x same (between a b) (λ m. refl)) f.unread;
      })

  pub move_again : (r : Rank) (h : ℕ) → refusal s (Move r h) ≡ none → refusal x (Move r h) ≡ none
  move_again r h p =
      let f = move_fits s r h p in
      let hr = f.one.in_range in
      move_accepted x r h
      (record {
        one = one_alike s x (same_standings same) c r f.one;
        host = f.host;
        running = running_alike s x (same_standings same) c r hr f.running;
        idle = rw (c.requests r hr);
        room = rw (drawn_alike s x same h) f.room;
      })

  pub end_again : (r : Rank) → refusal s (End r) ≡ none → refusal x (End r) ≡ none
  end_again r p =
      let f = end_fits s r p in
      let hr = f.one.in_range in
      end_accepted x r
      (record {
        one = one_alike s x (same_standings same) c r f.one;
        idle = rw (c.requests r hr);
        running = running_alike s x (same_standings same) c r hr f.running;
        closed = λ t ht. ap (λ (k : Link). is_closed k.connection) (c.links r t hr ht);
        nothing = rw (tally_alike s x same (to r) (λ m. refl)) f.nothing;
      })

-- Where a rank migrates and nothing is awaited, its landing is accepted.
pub land_after : (x : State) (r : Rank) → r.0 < ranks → Moving x r → refusal x (Land r) ≡ none
land_after x r hr c =
    let migrates : is_migrating (status x r) ≡ true = c.migrating r hr ∙ rw (same_rank_self r) in
    land_accepted x r
    (record {
      one = record { in_range = hr; started = started_of_migrating (status x r) migrates };
      migrating = migrates;
      clear = λ t ht. ap (λ (k : Link). is_clear k.backlog) (c.links r t hr ht);
    })

-- A send that s accepts, on its way through calm states with the same standings: called, routed, sent, parted.
module _ (s : State) (a b : Rank) (v : ℕ) (p : refusal s (Send a b v) ≡ none) (x : State)
    (standing : (core x).statuses ≡ (core s).statuses)
  where
    fits : SendFits s a b
    fits = send_fits s a b v p

    module _ {q : Rank → Option Request} {l : Rank → Rank → Connection} (c : Calm x nobody q l) where
      both_alike : Two x a b
      both_alike = two_alike s x standing c a b fits.two

      sender_runs : is_running (status x a) ≡ true
      sender_runs = running_alike s x standing c a fits.two.first fits.running

      line_is : connection x a b ≡ l a b
      line_is = ap (λ (k : Link). k.connection) (c.links a b fits.two.first fits.two.second)

      call_is : request x a ≡ q a
      call_is = c.requests a fits.two.first

    pub call_before : AllQuiet x → refusal x (Call a b) ≡ none
    call_before c =
        call_accepted x a b (record { two = both_alike c; running = sender_runs c; closed = rw (line_is c); idle = rw (call_is c) })

    pub route_before : (u : Vmid) → Calling x a b u → refusal x (Route a b) ≡ none
    route_before u c = route_accepted x a b (record { two = both_alike c; asks = rw (call_is c, same_rank_self a, same_rank_self b) })

    line_stands : Joined x a b → connection x a b ≡ Open
    line_stands c = line_is c ∙ rw (fits.two.apart, same_rank_self a, same_rank_self b)

    pub send_again : Joined x a b → core x ≡ core s → sound x ≡ true → sound s ≡ true → refusal x (Send a b v) ≡ none
    send_again c same hx hs =
        let room : x.unread.count < limit = rw (count_alike s x same hx hs) fits.room in
        let numbered : sent_between a b x < most_sent = rw (sent_alike s x same a b) fits.numbered in
        send_accepted x a b v
        (record { two = both_alike c; running = sender_runs c; line = rw (line_stands c); room = room; numbered = numbered })

    pub part_behind : Joined x a b → refusal x (Part a b) ≡ none
    part_behind c = part_accepted x a b (record { two = both_alike c; running = sender_runs c; plain = rw (line_stands c) })

    -- The receiver runs, so that a route leads there.
    pub receiver_runs : {q : Rank → Option Request} {l : Rank → Rank → Connection} → Calm x nobody q l → sound s ≡ true
        → is_ended (status x b) ≡ false
    receiver_runs c hs = running_not_ended (status x b) (live_runs s x standing c b fits.two.second (peer_lives s a b hs fits))
