-- The table of checks, a predicate for each row from 4 to 17, from 19 to 25 and 28 as the table words it, and the first row that applies.
-- Paper 01, "Where each step is checked"; paper 02, change 2: "Number 18 is given no more"; and change 4. Assumes nothing.
use Rattle.std.specs.Prelude.{Bool, not, cond, ◌&&◌, ◌||◌, List, [], ◌∷◌, eqb, leb, ltb}
use Rattle.std.proofs.Math.Option.{Option, none, some}
use Rattle.base.specs.Lists.{every, tally, any_of}
use Rattle.transit.specs.Message.{is_same_rank, between, to, at, is_rank}
use Rattle.transit.specs.Unread.{limit, most_sent}
use Rattle.transit.specs.declared.Place.TheVariants.{SourceChannel}
use Rattle.record.specs.Kind
use Rattle.protocol.specs.Messages.{sent_between}
use Rattle.broker.specs.Names.{
  hosts,
  numbers,
  is_started,
  is_migrating,
  is_ended,
  is_open_request,
  asks_for,
  is_closed,
  is_closing,
  is_clear,
  is_unheeded,
}
use Rattle.broker.specs.Ranks.{every_rank}
use Rattle.record.specs.Parts.{ranks_in, hosts_in, is, of_first, of_two}
use Rattle.broker.specs.State.{State, status, request, connection, backlog, drawn_on, messages}
use Rattle.answer.specs.declared.Refusal.{Refusal}
use Rattle.answer.specs.declared.Refusal.TheVariants.{
  RankRange,
  HostRange,
  SameRank,
  NotStarted,
  AlreadyStarted,
  HasEnded,
  IsMigrating,
  NotMigrating,
  Connected,
  RequestOpen,
  NoRequest,
  NotConnected,
  PeerMigrating,
  NoNotice,
  BacklogLeft,
  NoBacklog,
  NothingToDrain,
  NothingUnread,
  UnreadLeft,
  Full,
  NumbersSpent,
  SequenceSpent,
}
use Rattle.broker.specs.declared.process.Status.{Status}
use Rattle.record.specs.declared.Record.{Record}

-- a test of the first rank's standing
abbrev pub first_stands : (Status → Bool) → State → Record → Bool
first_stands f s r = of_first (λ a. f (status s a)) r

-- 4: "a rank above 15"
unfoldable pub rank_range : State → Record → Bool
rank_range s r = not (every is_rank (ranks_in r))

-- 5: "start, move: host above 7"
unfoldable pub host_range : State → Record → Bool
host_range s r = is (Kind.start ∷ Kind.move ∷ []) r && not (every (λ h. ltb h hosts) (hosts_in r))

-- 6: "one rank named twice"
unfoldable pub rank_twice : State → Record → Bool
rank_twice s r = of_two is_same_rank r

-- 7: "a named rank is unstarted (all but start)"
unfoldable pub not_started : State → Record → Bool
not_started s r = not (is (Kind.start ∷ []) r) && not (every (λ a. is_started (status s a)) (ranks_in r))

-- 8: "start: rank not unstarted"
unfoldable pub already_started : State → Record → Bool
already_started s r = is (Kind.start ∷ []) r && first_stands is_started s r

-- 9: "first rank ended (all but start, route)"
unfoldable pub has_ended : State → Record → Bool
has_ended s r = not (is (Kind.start ∷ Kind.route ∷ []) r) && first_stands is_ended s r

-- 10: "call, send, take, move, part, end, look: first rank moving"
unfoldable pub first_migrating : State → Record → Bool
first_migrating s r =
    is (Kind.call ∷ Kind.send ∷ Kind.take ∷ Kind.move ∷ Kind.part ∷ Kind.end ∷ Kind.look ∷ []) r &&
    first_stands is_migrating s r

-- 11: "drain, land: rank not moving"
unfoldable pub not_migrating : State → Record → Bool
not_migrating s r = is (Kind.drain ∷ Kind.land ∷ []) r && first_stands (λ t. not (is_migrating t)) s r

-- 12: "call: a line to b stands; end: any line stands"
unfoldable pub connected : State → Record → Bool
connected s r =
    is (Kind.call ∷ []) r && of_two (λ a b. not (is_closed (connection s a b))) r ||
    is (Kind.end ∷ []) r && of_first (λ a. not (every_rank (λ b. is_closed (connection s a b)))) r

-- 13: "call, move, end: a call of its own is open"
unfoldable pub request_open : State → Record → Bool
request_open s r = is (Kind.call ∷ Kind.move ∷ Kind.end ∷ []) r && of_first (λ a. is_open_request (request s a)) r

-- 14: "route: a has no call open to b"
unfoldable pub no_request : State → Record → Bool
no_request s r = is (Kind.route ∷ []) r && of_two (λ a b. not (asks_for b (request s a))) r

-- 15: "send, part: no line to b"
unfoldable pub not_connected : State → Record → Bool
not_connected s r = is (Kind.send ∷ Kind.part ∷ []) r && of_two (λ a b. is_closed (connection s a b)) r

-- 16: "part: line is notice"
unfoldable pub peer_migrating : State → Record → Bool
peer_migrating s r = is (Kind.part ∷ []) r && of_two (λ a b. is_closing (connection s a b)) r

-- 17: "heed: line is not notice"
unfoldable pub no_notice : State → Record → Bool
no_notice s r = is (Kind.heed ∷ []) r && of_two (λ b m. not (is_closing (connection s b m))) r

-- 19: "land: an await is not none"
unfoldable pub backlog_left : State → Record → Bool
backlog_left s r = is (Kind.land ∷ []) r && of_first (λ m. not (every_rank (λ p. is_clear (backlog s m p)))) r

-- 20: "drain: await of s is none"
unfoldable pub no_backlog : State → Record → Bool
no_backlog s r = is (Kind.drain ∷ []) r && of_two (λ m p. is_clear (backlog s m p)) r

-- 21: "drain: no message at place 1 and await unheeded"
unfoldable pub nothing_to_drain : State → Record → Bool
nothing_to_drain s r =
    is (Kind.drain ∷ []) r &&
    of_two
    (λ m p.
    eqb (tally (λ x. between p m x && at SourceChannel x) (messages s)) 0 &&
    is_unheeded (backlog s m p))
    r

-- 22: "take: pair has none unread; look: r has none"
unfoldable pub nothing_unread : State → Record → Bool
nothing_unread s r =
    is (Kind.take ∷ []) r && of_two (λ b a. eqb (tally (between a b) (messages s)) 0) r ||
    is (Kind.look ∷ []) r && of_first (λ a. eqb (tally (to a) (messages s)) 0) r

-- 23: "end: r has unread messages"
unfoldable pub unread_left : State → Record → Bool
unread_left s r = is (Kind.end ∷ []) r && of_first (λ a. not (eqb (tally (to a) (messages s)) 0)) r

-- 24: "send: 1,024 already unread"
unfoldable pub full : State → Record → Bool
full s r = is (Kind.send ∷ []) r && leb limit s.unread.count

-- 25: "start, move: 65,535 numbers drawn on h"
unfoldable pub numbers_spent : State → Record → Bool
numbers_spent s r =
    is (Kind.start ∷ Kind.move ∷ []) r && any_of (λ h. leb numbers (drawn_on s h)) (hosts_in r)

-- Paper 02, change 4: "28 for a send when the pair has already sent 4,294,967,295, tested after 25"
unfoldable pub sequence_spent : State → Record → Bool
sequence_spent s r = is (Kind.send ∷ []) r && of_two (λ a b. leb most_sent (sent_between a b s)) r

-- a row of the table: the refusal, and when it is given
pub record Check : Type 0 where
  pub refusal : Refusal
  pub given : State → Record → Bool

-- the rows in the order in which they decide: "The lowest number that applies is given"
unfoldable pub checks : List Check
checks =
    record { refusal = RankRange; given = rank_range } ∷
    record { refusal = HostRange; given = host_range } ∷
    record { refusal = SameRank; given = rank_twice } ∷
    record { refusal = NotStarted; given = not_started } ∷
    record { refusal = AlreadyStarted; given = already_started } ∷
    record { refusal = HasEnded; given = has_ended } ∷
    record { refusal = IsMigrating; given = first_migrating } ∷
    record { refusal = NotMigrating; given = not_migrating } ∷
    record { refusal = Connected; given = connected } ∷
    record { refusal = RequestOpen; given = request_open } ∷
    record { refusal = NoRequest; given = no_request } ∷
    record { refusal = NotConnected; given = not_connected } ∷
    record { refusal = PeerMigrating; given = peer_migrating } ∷
    record { refusal = NoNotice; given = no_notice } ∷
    record { refusal = BacklogLeft; given = backlog_left } ∷
    record { refusal = NoBacklog; given = no_backlog } ∷
    record { refusal = NothingToDrain; given = nothing_to_drain } ∷
    record { refusal = NothingUnread; given = nothing_unread } ∷
    record { refusal = UnreadLeft; given = unread_left } ∷
    record { refusal = Full; given = full } ∷
    record { refusal = NumbersSpent; given = numbers_spent } ∷
    record { refusal = SequenceSpent; given = sequence_spent } ∷ []

-- the first row of a list that applies
abbrev pub first_of : List Check → State → Record → Option Refusal
first_of [] s r = none
first_of (c ∷ cs) s r = cond (c.given s r) (some c.refusal) (first_of cs s r)

unfoldable pub refusal : State → Record → Option Refusal
refusal s r = first_of checks s r
