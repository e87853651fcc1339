-- What it takes for each kind to be accepted: the rows of the table of checks that speak of the kind, read as facts.
-- Assumes nothing.
use Rattle.std.specs.Prelude.{◌≡◌, refl, Bool, true, false, not, ◌&&◌, ◌||◌, ℕ, ◌<◌, eqb, leb, ltb}
use Rattle.std.proofs.Math.Option.{none}
use Rattle.std.proofs.Common.{ltb-true, leb-false}
use Rattle.std.proofs.lemmas.Bool.{not-false}
use Rattle.base.specs.Laws.Tests.{both_left, both_right, not_both, or_false_left}
use Rattle.base.specs.Lists.{tally}
use Rattle.transit.specs.Message.{is_same_rank, between, to, at, is_rank, ranks}
use Rattle.transit.specs.Unread.{limit, most_sent}
use Rattle.transit.specs.declared.Place.TheVariants.{SourceChannel}
use Rattle.transit.specs.declared.Rank.{Rank}
use Rattle.protocol.specs.Checks.{refusal}
use Rattle.protocol.specs.Laws.Checks.{passes}
use Rattle.protocol.specs.Laws.Opened.{opened_checks}
use Rattle.protocol.specs.Laws.Ranks.{every_rank_at}
use Rattle.protocol.specs.Messages.{sent_between}
use Rattle.broker.specs.Names.{
  hosts,
  numbers,
  is_started,
  is_running,
  is_migrating,
  is_ended,
  is_open_request,
  asks_for,
  is_closed,
  is_open,
  is_closing,
  is_clear,
  is_unheeded,
}
use Rattle.broker.specs.State.{State, status, request, connection, backlog, drawn_on, messages}
use Rattle.answer.specs.declared.Refusal.TheVariants.{
  RankRange,
  HostRange,
  SameRank,
  NotStarted,
  AlreadyStarted,
  HasEnded,
  IsMigrating,
  NotMigrating,
  Connected,
  RequestOpen,
  NoRequest,
  NotConnected,
  PeerMigrating,
  NoNotice,
  BacklogLeft,
  NoBacklog,
  NothingToDrain,
  NothingUnread,
  UnreadLeft,
  Full,
  NumbersSpent,
  SequenceSpent,
}
use Rattle.broker.specs.declared.link.Connection.{Connection}
use Rattle.broker.specs.declared.link.Connection.TheVariants.{Closed, Open, Closing}
use Rattle.broker.specs.declared.process.Status.{Status}
use Rattle.broker.specs.declared.process.Status.TheVariants.{Unstarted, Running, Migrating, Ended}
use Rattle.record.specs.declared.Record.TheVariants.{Start, Call, Route, Send, Take, Move, Heed, Drain, Land, Part, End, Look}

-- a rank that is started, has not ended and does not migrate runs
pub running_of : (t : Status) → is_started t ≡ true → is_ended t ≡ false → is_migrating t ≡ false → is_running t ≡ true
running_of Unstarted a b c = a
running_of (Running v) a b c = refl
running_of (Migrating v w) a b c = absurd (not_both refl c)
running_of (Ended v) a b c = absurd (not_both refl b)

pub started_of_migrating : (t : Status) → is_migrating t ≡ true → is_started t ≡ true
started_of_migrating Unstarted h = h
started_of_migrating (Running v) h = refl
started_of_migrating (Migrating v w) h = refl
started_of_migrating (Ended v) h = refl

pub started_of_running : (t : Status) → is_running t ≡ true → is_started t ≡ true
started_of_running Unstarted h = h
started_of_running (Running v) h = refl
started_of_running (Migrating v w) h = refl
started_of_running (Ended v) h = refl

pub running_not_ended : (t : Status) → is_running t ≡ true → is_ended t ≡ false
running_not_ended Unstarted h = refl
running_not_ended (Running v) h = refl
running_not_ended (Migrating v w) h = refl
running_not_ended (Ended v) h = absurd (not_both h refl)

pub running_not_migrating : (t : Status) → is_running t ≡ true → is_migrating t ≡ false
running_not_migrating Unstarted h = refl
running_not_migrating (Running v) h = refl
running_not_migrating (Migrating v w) h = absurd (not_both h refl)
running_not_migrating (Ended v) h = refl

pub migrating_not_ended : (t : Status) → is_migrating t ≡ true → is_ended t ≡ false
migrating_not_ended Unstarted h = refl
migrating_not_ended (Running v) h = refl
migrating_not_ended (Migrating v w) h = refl
migrating_not_ended (Ended v) h = absurd (not_both h refl)

-- a line that is neither none nor a notice is plain
pub open_of : (c : Connection) → is_closed c ≡ false → is_closing c ≡ false → is_open c ≡ true
open_of Closed h k = absurd (not_both refl h)
open_of Open h k = refl
open_of Closing h k = absurd (not_both refl k)

pub open_not_closed : (c : Connection) → is_open c ≡ true → is_closed c ≡ false
open_not_closed Closed h = absurd (not_both h refl)
open_not_closed Open h = refl
open_not_closed Closing h = refl

pub open_not_closing : (c : Connection) → is_open c ≡ true → is_closing c ≡ false
open_not_closing Closed h = refl
open_not_closing Open h = refl
open_not_closing Closing h = absurd (not_both h refl)

-- one rank that is in range and started; two, that are not one and the same
pub record One (s : State) (r : Rank) : Type 0 where
  pub in_range : r.0 < ranks
  pub started : is_started (status s r) ≡ true

pub record Two (s : State) (a b : Rank) : Type 0 where
  pub first : a.0 < ranks
  pub second : b.0 < ranks
  pub apart : is_same_rank a b ≡ false
  pub first_started : is_started (status s a) ≡ true
  pub second_started : is_started (status s b) ≡ true

pub record StartFits (s : State) (r : Rank) (h : ℕ) : Type 0 where
  pub in_range : r.0 < ranks
  pub host : h < 8
  pub unstarted : is_started (status s r) ≡ false
  pub room : drawn_on s h < numbers

pub record CallFits (s : State) (a b : Rank) : Type 0 where
  pub two : Two s a b
  pub running : is_running (status s a) ≡ true
  pub closed : is_closed (connection s a b) ≡ true
  pub idle : is_open_request (request s a) ≡ false

pub record RouteFits (s : State) (a b : Rank) : Type 0 where
  pub two : Two s a b
  pub asks : asks_for b (request s a) ≡ true

pub record SendFits (s : State) (a b : Rank) : Type 0 where
  pub two : Two s a b
  pub running : is_running (status s a) ≡ true
  pub line : is_closed (connection s a b) ≡ false
  pub room : s.unread.count < limit
  pub numbered : sent_between a b s < most_sent

pub record TakeFits (s : State) (b a : Rank) : Type 0 where
  pub two : Two s b a
  pub running : is_running (status s b) ≡ true
  pub unread : eqb (tally (between a b) (messages s)) 0 ≡ false

pub record MoveFits (s : State) (r : Rank) (h : ℕ) : Type 0 where
  pub one : One s r
  pub host : h < 8
  pub running : is_running (status s r) ≡ true
  pub idle : is_open_request (request s r) ≡ false
  pub room : drawn_on s h < numbers

pub record HeedFits (s : State) (b r : Rank) : Type 0 where
  pub two : Two s b r
  pub not_ended : is_ended (status s b) ≡ false
  pub notice : is_closing (connection s b r) ≡ true

pub record DrainFits (s : State) (r p : Rank) : Type 0 where
  pub two : Two s r p
  pub migrating : is_migrating (status s r) ≡ true
  pub awaits : is_clear (backlog s r p) ≡ false
  pub ready : (eqb (tally (λ m. between p r m && at SourceChannel m) (messages s)) 0 && is_unheeded (backlog s r p)) ≡ false

pub record LandFits (s : State) (r : Rank) : Type 0 where
  pub one : One s r
  pub migrating : is_migrating (status s r) ≡ true
  pub clear : (p : Rank) → p.0 < ranks → is_clear (backlog s r p) ≡ true

pub record PartFits (s : State) (a b : Rank) : Type 0 where
  pub two : Two s a b
  pub running : is_running (status s a) ≡ true
  pub plain : is_open (connection s a b) ≡ true

pub record EndFits (s : State) (r : Rank) : Type 0 where
  pub one : One s r
  pub running : is_running (status s r) ≡ true
  pub closed : (p : Rank) → p.0 < ranks → is_closed (connection s r p) ≡ true
  pub idle : is_open_request (request s r) ≡ false
  pub nothing : eqb (tally (to r) (messages s)) 0 ≡ true

pub record LookFits (s : State) (r : Rank) : Type 0 where
  pub one : One s r
  pub running : is_running (status s r) ≡ true
  pub unread : eqb (tally (to r) (messages s)) 0 ≡ false

-- the rows on names and standing, read
from_not : (b : Bool) → not b ≡ false → b ≡ true
from_not b h = not-false b h

one_only : (a : Bool) → (a && true) ≡ true → a ≡ true
one_only a h = both_left a true h

or_none : (a : Bool) → (a || false) ≡ false → a ≡ false
or_none a h = or_false_left a false h

one_of : (s : State) (r : Rank) → not (is_rank r && true) ≡ false → not (is_started (status s r) && true) ≡ false → One s r
one_of s r h k =
    record {
      in_range = ltb-true r.0 ranks (one_only (is_rank r) (from_not _ h));
      started = one_only (is_started (status s r)) (from_not _ k);
    }

two_of :
    (s : State) (a b : Rank) →
    not (is_rank a && (is_rank b && true)) ≡ false →
    is_same_rank a b ≡ false →
    not (is_started (status s a) && (is_started (status s b) && true)) ≡ false →
    Two s a b
two_of s a b h e k =
    record {
      first = ltb-true a.0 ranks (both_left (is_rank a) (is_rank b && true) (from_not _ h));
      second = ltb-true b.0 ranks (one_only (is_rank b) (both_right (is_rank a) (is_rank b && true) (from_not _ h)));
      apart = e;
      first_started = both_left (is_started (status s a)) (is_started (status s b) && true) (from_not _ k);
      second_started =
          one_only (is_started (status s b)) (both_right (is_started (status s a)) (is_started (status s b) && true) (from_not _ k));
    }

pub start_fits : (s : State) (r : Rank) (h : ℕ) → refusal s (Start r h) ≡ none → StartFits s r h
unfolding opened_checks
start_fits s r h accepted =
    let passed = passes s (Start r h) accepted in
    record {
      in_range = ltb-true r.0 ranks (one_only (is_rank r) (from_not _ (passed RankRange)));
      host = ltb-true h 8 (one_only (ltb h hosts) (from_not _ (passed HostRange)));
      unstarted = passed AlreadyStarted;
      room = leb-false numbers (drawn_on s h) (or_none (leb numbers (drawn_on s h)) (passed NumbersSpent));
    }

pub call_fits : (s : State) (a b : Rank) → refusal s (Call a b) ≡ none → CallFits s a b
unfolding opened_checks
call_fits s a b accepted =
    let passed = passes s (Call a b) accepted in
    let two = two_of s a b (passed RankRange) (passed SameRank) (passed NotStarted) in
    record {
      two = two;
      running = running_of (status s a) two.first_started (passed HasEnded) (passed IsMigrating);
      closed = from_not _ (or_none _ (passed Connected));
      idle = passed RequestOpen;
    }

pub route_fits : (s : State) (a b : Rank) → refusal s (Route a b) ≡ none → RouteFits s a b
unfolding opened_checks
route_fits s a b accepted =
    let passed = passes s (Route a b) accepted in
    record {
      two = two_of s a b (passed RankRange) (passed SameRank) (passed NotStarted);
      asks = from_not _ (passed NoRequest);
    }

pub send_fits : (s : State) (a b : Rank) (v : ℕ) → refusal s (Send a b v) ≡ none → SendFits s a b
unfolding opened_checks
send_fits s a b v accepted =
    let passed = passes s (Send a b v) accepted in
    let two = two_of s a b (passed RankRange) (passed SameRank) (passed NotStarted) in
    record {
      two = two;
      running = running_of (status s a) two.first_started (passed HasEnded) (passed IsMigrating);
      line = passed NotConnected;
      room = leb-false limit s.unread.count (passed Full);
      numbered = leb-false most_sent (sent_between a b s) (passed SequenceSpent);
    }

pub take_fits : (s : State) (b a : Rank) → refusal s (Take b a) ≡ none → TakeFits s b a
unfolding opened_checks
take_fits s b a accepted =
    let passed = passes s (Take b a) accepted in
    let two = two_of s b a (passed RankRange) (passed SameRank) (passed NotStarted) in
    record {
      two = two;
      running = running_of (status s b) two.first_started (passed HasEnded) (passed IsMigrating);
      unread = or_none _ (passed NothingUnread);
    }

pub move_fits : (s : State) (r : Rank) (h : ℕ) → refusal s (Move r h) ≡ none → MoveFits s r h
unfolding opened_checks
move_fits s r h accepted =
    let passed = passes s (Move r h) accepted in
    let one = one_of s r (passed RankRange) (passed NotStarted) in
    record {
      one = one;
      host = ltb-true h 8 (one_only (ltb h hosts) (from_not _ (passed HostRange)));
      running = running_of (status s r) one.started (passed HasEnded) (passed IsMigrating);
      idle = passed RequestOpen;
      room = leb-false numbers (drawn_on s h) (or_none (leb numbers (drawn_on s h)) (passed NumbersSpent));
    }

pub heed_fits : (s : State) (b r : Rank) → refusal s (Heed b r) ≡ none → HeedFits s b r
unfolding opened_checks
heed_fits s b r accepted =
    let passed = passes s (Heed b r) accepted in
    record {
      two = two_of s b r (passed RankRange) (passed SameRank) (passed NotStarted);
      not_ended = passed HasEnded;
      notice = from_not _ (passed NoNotice);
    }

pub drain_fits : (s : State) (r q : Rank) → refusal s (Drain r q) ≡ none → DrainFits s r q
unfolding opened_checks
drain_fits s r q accepted =
    let passed = passes s (Drain r q) accepted in
    record {
      two = two_of s r q (passed RankRange) (passed SameRank) (passed NotStarted);
      migrating = from_not _ (passed NotMigrating);
      awaits = passed NoBacklog;
      ready = passed NothingToDrain;
    }

pub land_fits : (s : State) (r : Rank) → refusal s (Land r) ≡ none → LandFits s r
unfolding opened_checks
land_fits s r accepted =
    let passed = passes s (Land r) accepted in
    record {
      one = one_of s r (passed RankRange) (passed NotStarted);
      migrating = from_not _ (passed NotMigrating);
      clear = every_rank_at (λ q. is_clear (backlog s r q)) (from_not _ (passed BacklogLeft));
    }

pub part_fits : (s : State) (a b : Rank) → refusal s (Part a b) ≡ none → PartFits s a b
unfolding opened_checks
part_fits s a b accepted =
    let passed = passes s (Part a b) accepted in
    let two = two_of s a b (passed RankRange) (passed SameRank) (passed NotStarted) in
    record {
      two = two;
      running = running_of (status s a) two.first_started (passed HasEnded) (passed IsMigrating);
      plain = open_of (connection s a b) (passed NotConnected) (passed PeerMigrating);
    }

pub end_fits : (s : State) (r : Rank) → refusal s (End r) ≡ none → EndFits s r
unfolding opened_checks
end_fits s r accepted =
    let passed = passes s (End r) accepted in
    let one = one_of s r (passed RankRange) (passed NotStarted) in
    record {
      one = one;
      running = running_of (status s r) one.started (passed HasEnded) (passed IsMigrating);
      closed = every_rank_at (λ q. is_closed (connection s r q)) (from_not _ (passed Connected));
      idle = passed RequestOpen;
      nothing = from_not _ (passed UnreadLeft);
    }

pub look_fits : (s : State) (r : Rank) → refusal s (Look r) ≡ none → LookFits s r
unfolding opened_checks
look_fits s r accepted =
    let passed = passes s (Look r) accepted in
    let one = one_of s r (passed RankRange) (passed NotStarted) in
    record {
      one = one;
      running = running_of (status s r) one.started (passed HasEnded) (passed IsMigrating);
      unread = passed NothingUnread;
    }
