-- What the claim counts: what is read of a written record, which steps are accepted, which values are sent, taken and unread from one rank
-- to another, where a move is open, and which logs are bytes. Computed from the definitions. Assumes nothing.
use Rattle.std.specs.Prelude.{◌≡◌, refl, true, false, List, [], ◌∷◌, ◌++◌, map, ℕ, ◌+◌, length, replicate, Ok, Err}
use Rattle.std.proofs.Common.{ap}
use Rattle.transit.specs.Message.{message, rank}
use Rattle.transit.specs.Unread.{counted}
use Rattle.transit.specs.declared.Message.{Message}
use Rattle.transit.specs.declared.Place.{Place}
use Rattle.transit.specs.declared.Place.TheVariants.{SourceList, SourceChannel, EndList, Channel}
use Rattle.record.specs.Kind
use Rattle.broker.specs.Names.{vmid}
use Rattle.broker.specs.Ranks.{every_rank}
use Rattle.record.specs.Record.{decode, record_of}
use Rattle.broker.specs.State.{State, idle, fresh, with_status, with_unread}
use Rattle.answer.specs.Answer.{three}
use Rattle.answer.specs.declared.Refusal.TheVariants.{NotConnected}
use Rattle.broker.specs.declared.process.Status.TheVariants.{Running, Migrating, Ended}
use Rattle.record.specs.declared.Fault.TheVariants.{Unknown, Cut}
use Rattle.record.specs.declared.Record.{Record}
use Rattle.record.specs.declared.Record.TheVariants.{Start, Call, Route, Send, Take, Look}
use Rattle.ordering.specs.Claim.{
  Reading,
  Entry,
  is_accepted,
  every_accepted,
  entry_of,
  value_in,
  sent,
  taken,
  unread,
  no_move_open,
  are_bytes,
}
use Rattle.ordering.specs.Numbered.{numbers_taken, numbers_unread}
use Rattle.ordering.specs.Worked.Account.{Account, computed, from_fresh}
use Rattle.ordering.specs.Worked.Result.{Result, brief, result, Balance, balance, whole, did, process, written}
use Rattle.ordering.specs.Worked.Unbroken.{every_kind, every_entry}

-- Written records.

pub record_of_every_kind_is_read_as_written :
    map (λ (r : Record). decode (written r) 0) every_kind ≡ map (λ (r : Record). Ok (r, length (written r))) every_kind
unfolding decode record_of
record_of_every_kind_is_read_as_written = refl

-- Accepted steps.

pub answer_without_a_number_is_accepted : is_accepted (Ok (three 0 0 0)) ≡ true
answer_without_a_number_is_accepted = refl

pub refusal_is_not_accepted : is_accepted (Err NotConnected) ≡ false
refusal_is_not_accepted = refl

pub accepted_record_enters_with_v1_and_v3 :
    entry_of (Ok (three 1 2 3)) (Ok (Send (rank 0) (rank 1) 7, 7)) ≡ did (Send (rank 0) (rank 1) 7) 1 3 ∷ []
accepted_record_enters_with_v1_and_v3 = refl

pub refused_record_does_not_enter : entry_of (Err NotConnected) (Ok (Send (rank 0) (rank 1) 7, 7)) ≡ []
refused_record_does_not_enter = refl

pub no_record_does_not_enter : entry_of (Ok (three 1 2 3)) (Err Unknown) ++ entry_of (Ok (three 1 2 3)) (Err Cut) ≡ []
no_record_does_not_enter = refl

-- A send before a line stands is refused and does not count; the next one does. Then rank 1 looks, and the look names the sender.
abbrev early : List Reading
early =
    map whole
    ((Kind.start ∷ 3 ∷ 0 ∷ []) ∷
    (Kind.start ∷ 1 ∷ 1 ∷ []) ∷
    (Kind.send ∷ 3 ∷ 1 ∷ 5 ∷ 0 ∷ 0 ∷ 0 ∷ []) ∷
    (Kind.call ∷ 3 ∷ 1 ∷ []) ∷
    (Kind.route ∷ 3 ∷ 1 ∷ []) ∷
    (Kind.send ∷ 3 ∷ 1 ∷ 6 ∷ 0 ∷ 0 ∷ 0 ∷ []) ∷ []) ++
    record { log = Kind.look ∷ 1 ∷ []; at = 0 } ∷ []

abbrev early_result : Result
early_result =
    record {
      steps =
          did (Start (rank 3) 0) 0 0 ∷
          did (Start (rank 1) 1) 1 0 ∷
          did (Call (rank 3) (rank 1)) 1 0 ∷
          did (Route (rank 3) (rank 1)) 0 1 ∷
          did (Send (rank 3) (rank 1) 6) 1 0 ∷
          did (Look (rank 1)) 3 0 ∷ [];
      processes = idle ∷ process (Running (vmid 1 1)) ∷ idle ∷ process (Running (vmid 0 1)) ∷ replicate 12 idle;
      holds = message (rank 3) (rank 1) Channel 6 1 ∷ [];
    }

pub early_comes_to : result early ≡ early_result
unfolding computed
early_comes_to = ap brief (from_fresh early)

pub refused_send_does_not_count : Balance early (rank 3) (rank 1) [] (6 ∷ []) (6 ∷ [])
refused_send_does_not_count =
    balance early early_result early_comes_to (rank 3) (rank 1) [] (6 ∷ []) (6 ∷ []) refl refl refl refl

pub one_refused_is_not_all_accepted : every_accepted fresh early ≡ false
unfolding computed
one_refused_is_not_all_accepted = ap (λ (t : Account). t.all) (from_fresh early)

pub first_refused_is_not_all_accepted : every_accepted fresh (map whole ([] ∷ (Kind.start ∷ 0 ∷ 0 ∷ []) ∷ [])) ≡ false
unfolding computed
first_refused_is_not_all_accepted =
    ap (λ (t : Account). t.all) (from_fresh (map whole ([] ∷ (Kind.start ∷ 0 ∷ 0 ∷ []) ∷ [])))

pub last_refused_is_not_all_accepted : every_accepted fresh (map whole ((Kind.start ∷ 0 ∷ 0 ∷ []) ∷ [] ∷ [])) ≡ false
unfolding computed
last_refused_is_not_all_accepted =
    ap (λ (t : Account). t.all) (from_fresh (map whole ((Kind.start ∷ 0 ∷ 0 ∷ []) ∷ [] ∷ [])))

-- Sent, taken and unread, from rank 0 to rank 1.

pub only_a_send_has_a_value : map value_in every_kind ≡ 0 ∷ 0 ∷ 0 ∷ 7 ∷ 0 ∷ 0 ∷ 0 ∷ 0 ∷ 0 ∷ 0 ∷ 0 ∷ 0 ∷ []
only_a_send_has_a_value = refl

-- sends and takes of this pair, with those of other pairs and a step of every kind between them
abbrev exchanges : List Entry
exchanges =
    did (Send (rank 0) (rank 1) 10) 1 0 ∷
    did (Send (rank 1) (rank 0) 20) 1 0 ∷
    did (Take (rank 1) (rank 0)) 10 1 ∷
    did (Take (rank 0) (rank 1)) 20 1 ∷
    did (Send (rank 0) (rank 2) 30) 1 0 ∷
    did (Send (rank 2) (rank 1) 40) 1 0 ∷
    did (Take (rank 2) (rank 0)) 30 1 ∷
    did (Take (rank 1) (rank 2)) 40 1 ∷
    every_entry ++
    did (Send (rank 0) (rank 1) 11) 1 0 ∷
    did (Take (rank 1) (rank 0)) 7 2 ∷ []

pub sent_there : sent (rank 0) (rank 1) exchanges ≡ 10 ∷ 7 ∷ 11 ∷ []
sent_there = refl

pub sent_back : sent (rank 1) (rank 0) exchanges ≡ 20 ∷ []
sent_back = refl

pub taken_there : taken (rank 0) (rank 1) exchanges ≡ 10 ∷ 7 ∷ []
taken_there = refl

pub taken_back : taken (rank 1) (rank 0) exchanges ≡ 20 ∷ 9 ∷ []
taken_back = refl

pub numbers_taken_there : numbers_taken (rank 0) (rank 1) exchanges ≡ 1 ∷ 2 ∷ []
numbers_taken_there = refl

pub numbers_taken_back : numbers_taken (rank 1) (rank 0) exchanges ≡ 1 ∷ 8 ∷ []
numbers_taken_back = refl

-- unread messages of this pair at each place, sent in the opposite order, with some of other pairs; no sound state has them so
abbrev letter : ℕ → ℕ → ℕ → Place → Message
letter a b v p = message (rank a) (rank b) p v (v + 1)

abbrev jumbled : State
jumbled =
    with_unread
    (counted fresh.unread.sent
    (letter 0 1 33 Channel ∷
    letter 1 0 50 SourceList ∷
    letter 0 1 22 EndList ∷
    letter 0 2 60 SourceList ∷
    letter 0 1 11 SourceChannel ∷
    letter 2 1 70 SourceList ∷
    letter 0 1 34 Channel ∷
    letter 0 1 0 SourceList ∷ []))
    fresh

pub unread_in_place_order : unread (rank 0) (rank 1) jumbled ≡ 0 ∷ 11 ∷ 22 ∷ 33 ∷ 34 ∷ []
unread_in_place_order = refl

pub unread_numbers_in_place_order : numbers_unread (rank 0) (rank 1) jumbled ≡ 1 ∷ 12 ∷ 23 ∷ 34 ∷ 35 ∷ []
unread_numbers_in_place_order = refl

-- Open moves.

pub no_move_is_open_of_unstarted_running_and_ended_ranks :
    no_move_open (with_status (rank 0) (Running (vmid 0 1)) (with_status (rank 1) (Ended (vmid 1 1)) fresh)) ≡ true
unfolding every_rank
no_move_is_open_of_unstarted_running_and_ended_ranks = refl

pub move_of_the_first_rank_is_open : no_move_open (with_status (rank 0) (Migrating (vmid 0 1) (vmid 1 1)) fresh) ≡ false
unfolding every_rank
move_of_the_first_rank_is_open = refl

pub move_of_the_last_rank_is_open : no_move_open (with_status (rank 15) (Migrating (vmid 0 1) (vmid 1 1)) fresh) ≡ false
unfolding every_rank
move_of_the_last_rank_is_open = refl

-- Logs of bytes.

pub bytes_are_up_to_255 : are_bytes (whole (0 ∷ 255 ∷ []) ∷ whole [] ∷ whole (255 ∷ []) ∷ []) ≡ true
bytes_are_up_to_255 = refl

pub one_number_too_great_is_not_bytes : are_bytes (whole (0 ∷ 256 ∷ 0 ∷ []) ∷ []) ≡ false
one_number_too_great_is_not_bytes = refl

pub one_log_not_of_bytes_is_not_bytes : are_bytes (whole (0 ∷ []) ∷ whole (256 ∷ []) ∷ []) ≡ false
one_log_not_of_bytes_is_not_bytes = refl
