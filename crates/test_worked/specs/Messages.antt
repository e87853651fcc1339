-- The states of crates/test_spoiled/stdin, section Messages, and of each the theorem that it is sound or unsound.
-- Written from that list by the Rust tests. Assumes nothing.
use Rattle.std.specs.Prelude.{◌≡◌, refl, true, false, [], ◌∷◌}
use Rattle.protocol.specs.Laws.Opened.{opened_checks, opened_messages, opened_sound}
use Rattle.protocol.specs.Sound.{sound}
use Rattle.broker.specs.State.{State}
use Rattle.test_worked.specs.Filled.{filled}
use Rattle.test_worked.specs.Unsound.{messages_unsound}
use Rattle.test_worked.specs.Whole.{everything}
use Rattle.test_worked.specs.Words.{
  changed,
  fresh,
  running,
  moving,
  drawn,
  tables,
  plain,
  notice,
  unheeded,
  marked,
  message,
  messages,
  numbered,
  sent,
}

-- "Ranks .. are in range"
abbrev pub sender_sixteen : State
sender_sixteen = changed everything (message 16 3 2 60 ∷ [])

pub sender_sixteen_is_unsound : sound sender_sixteen ≡ false
unfolding opened_messages
sender_sixteen_is_unsound = messages_unsound sender_sixteen refl

-- "Ranks .. are in range"
abbrev pub receiver_sixteen : State
receiver_sixteen = changed everything (message 5 16 2 60 ∷ [])

pub receiver_sixteen_is_unsound : sound receiver_sixteen ≡ false
unfolding opened_messages
receiver_sixteen_is_unsound = messages_unsound receiver_sixteen refl

-- "Ranks .. are in range"
abbrev pub sender_sixteen_to_the_first_rank : State
sender_sixteen_to_the_first_rank = changed everything (message 16 0 2 60 ∷ [])

pub sender_sixteen_to_the_first_rank_is_unsound : sound sender_sixteen_to_the_first_rank ≡ false
unfolding opened_messages
sender_sixteen_to_the_first_rank_is_unsound = messages_unsound sender_sixteen_to_the_first_rank refl

-- "Ranks .. are in range"
abbrev pub sender_sixteen_to_the_last_rank : State
sender_sixteen_to_the_last_rank = changed everything (drawn 7 1 ∷ running 15 7 1 ∷ tables 15 7 1 ∷ message 16 15 2 60 ∷ [])

pub sender_sixteen_to_the_last_rank_is_unsound : sound sender_sixteen_to_the_last_rank ≡ false
unfolding opened_messages
sender_sixteen_to_the_last_rank_is_unsound = messages_unsound sender_sixteen_to_the_last_rank refl

-- "Ranks .. are in range"
abbrev pub receiver_sixteen_from_the_first_rank : State
receiver_sixteen_from_the_first_rank = changed everything (message 0 16 2 60 ∷ [])

pub receiver_sixteen_from_the_first_rank_is_unsound : sound receiver_sixteen_from_the_first_rank ≡ false
unfolding opened_messages
receiver_sixteen_from_the_first_rank_is_unsound = messages_unsound receiver_sixteen_from_the_first_rank refl

-- "Ranks .. are in range"
abbrev pub receiver_sixteen_from_the_last_rank : State
receiver_sixteen_from_the_last_rank = changed everything (drawn 7 1 ∷ running 15 7 1 ∷ tables 15 7 1 ∷ message 15 16 2 60 ∷ [])

pub receiver_sixteen_from_the_last_rank_is_unsound : sound receiver_sixteen_from_the_last_rank ≡ false
unfolding opened_messages
receiver_sixteen_from_the_last_rank_is_unsound = messages_unsound receiver_sixteen_from_the_last_rank refl

-- "Ranks .. are in range"
abbrev pub sender_sixteen_before_another : State
sender_sixteen_before_another =
    changed everything
    (fresh ∷ drawn 0 2 ∷ running 0 0 1 ∷ tables 0 0 1 ∷ running 1 0 2 ∷ tables 1 0 2 ∷ message 16 1 2 60 ∷ message 0 1 2 61 ∷ [])

pub sender_sixteen_before_another_is_unsound : sound sender_sixteen_before_another ≡ false
unfolding opened_messages
sender_sixteen_before_another_is_unsound = messages_unsound sender_sixteen_before_another refl

-- "Ranks .. are in range"
abbrev pub receiver_sixteen_before_another : State
receiver_sixteen_before_another =
    changed everything
    (fresh ∷ drawn 0 2 ∷ running 0 0 1 ∷ tables 0 0 1 ∷ running 1 0 2 ∷ tables 1 0 2 ∷ message 0 16 2 60 ∷ message 0 1 2 61 ∷ [])

pub receiver_sixteen_before_another_is_unsound : sound receiver_sixteen_before_another ≡ false
unfolding opened_messages
receiver_sixteen_before_another_is_unsound = messages_unsound receiver_sixteen_before_another refl

-- "Nobody has a .. message with itself."
abbrev pub message_to_itself : State
message_to_itself = changed everything (message 3 3 2 60 ∷ [])

pub message_to_itself_is_unsound : sound message_to_itself ≡ false
unfolding opened_messages
message_to_itself_is_unsound = messages_unsound message_to_itself refl

-- "Nobody has a .. message with itself."
abbrev pub message_of_a_moving_rank_to_itself : State
message_of_a_moving_rank_to_itself = changed everything (message 1 1 0 60 ∷ [])

pub message_of_a_moving_rank_to_itself_is_unsound : sound message_of_a_moving_rank_to_itself ≡ false
unfolding opened_messages
message_of_a_moving_rank_to_itself_is_unsound = messages_unsound message_of_a_moving_rank_to_itself refl

-- "Nobody has a .. message with itself."
abbrev pub first_message_to_itself : State
first_message_to_itself = changed everything (fresh ∷ drawn 0 2 ∷ running 0 0 1 ∷ tables 0 0 1 ∷ message 0 0 2 60 ∷ [])

pub first_message_to_itself_is_unsound : sound first_message_to_itself ≡ false
unfolding opened_messages
first_message_to_itself_is_unsound = messages_unsound first_message_to_itself refl

-- "Nobody has a .. message with itself."
abbrev pub message_of_the_last_rank_to_itself : State
message_of_the_last_rank_to_itself = changed everything (drawn 7 1 ∷ running 15 7 1 ∷ tables 15 7 1 ∷ message 15 15 2 60 ∷ [])

pub message_of_the_last_rank_to_itself_is_unsound : sound message_of_the_last_rank_to_itself ≡ false
unfolding opened_messages
message_of_the_last_rank_to_itself_is_unsound = messages_unsound message_of_the_last_rank_to_itself refl

-- "Nobody has a .. message with itself."
abbrev pub message_to_itself_before_another : State
message_to_itself_before_another =
    changed everything
    (fresh ∷ drawn 0 2 ∷ running 0 0 1 ∷ tables 0 0 1 ∷ running 1 0 2 ∷ tables 1 0 2 ∷ message 1 1 2 60 ∷ message 0 1 2 61 ∷ [])

pub message_to_itself_before_another_is_unsound : sound message_to_itself_before_another ≡ false
unfolding opened_messages
message_to_itself_before_another_is_unsound = messages_unsound message_to_itself_before_another refl

-- "At most 1,024 messages stand."
abbrev pub messages_up_to_the_limit : State
messages_up_to_the_limit = changed everything (messages 1015 0 2 3 59 ∷ [])

abbrev pub messages_up_to_the_limit_before : State
messages_up_to_the_limit_before = changed everything []

pub messages_up_to_the_limit_is_sound : sound messages_up_to_the_limit ≡ true
unfolding opened_checks opened_sound
messages_up_to_the_limit_is_sound =
    filled 0 2 59 1015 messages_up_to_the_limit_before refl refl refl (refl, refl, refl, refl)

-- "At most 1,024 messages stand."
abbrev pub messages_past_the_limit : State
messages_past_the_limit = changed everything (messages 1016 0 2 3 59 ∷ [])

pub messages_past_the_limit_is_unsound : sound messages_past_the_limit ≡ false
unfolding opened_messages
messages_past_the_limit_is_unsound = messages_unsound messages_past_the_limit refl

-- "At most 1,024 messages stand."
abbrev pub messages_of_one_pair_up_to_the_limit : State
messages_of_one_pair_up_to_the_limit =
    changed everything
    (fresh ∷ drawn 0 1 ∷ drawn 1 1 ∷ running 0 0 1 ∷ running 1 1 1 ∷ tables 0 0 1 ∷ tables 1 1 1 ∷ plain 0 1 ∷ plain 1 0 ∷
    messages 1024 0 1 3 59 ∷ [])

abbrev pub messages_of_one_pair_up_to_the_limit_before : State
messages_of_one_pair_up_to_the_limit_before =
    changed everything
    (fresh ∷ drawn 0 1 ∷ drawn 1 1 ∷ running 0 0 1 ∷ running 1 1 1 ∷ tables 0 0 1 ∷ tables 1 1 1 ∷ plain 0 1 ∷ plain 1 0 ∷ [])

pub messages_of_one_pair_up_to_the_limit_is_sound : sound messages_of_one_pair_up_to_the_limit ≡ true
unfolding opened_checks opened_sound
messages_of_one_pair_up_to_the_limit_is_sound =
    filled 0 1 59 1024 messages_of_one_pair_up_to_the_limit_before refl refl refl (refl, refl, refl, refl)

-- "At most 1,024 messages stand."
abbrev pub messages_of_one_pair_past_the_limit : State
messages_of_one_pair_past_the_limit =
    changed everything
    (fresh ∷ drawn 0 1 ∷ drawn 1 1 ∷ running 0 0 1 ∷ running 1 1 1 ∷ tables 0 0 1 ∷ tables 1 1 1 ∷ plain 0 1 ∷ plain 1 0 ∷
    messages 1025 0 1 3 59 ∷ [])

pub messages_of_one_pair_past_the_limit_is_unsound : sound messages_of_one_pair_past_the_limit ≡ false
unfolding opened_messages
messages_of_one_pair_past_the_limit_is_unsound = messages_unsound messages_of_one_pair_past_the_limit refl

-- "Senders are started"
abbrev pub sender_ended : State
sender_ended = changed everything (message 4 3 2 60 ∷ [])

pub sender_ended_is_sound : sound sender_ended ≡ true
unfolding opened_sound
sender_ended_is_sound = refl

-- "Senders are started"
abbrev pub sender_moving : State
sender_moving = changed everything (message 6 3 2 60 ∷ [])

pub sender_moving_is_sound : sound sender_moving ≡ true
unfolding opened_sound
sender_moving_is_sound = refl

-- "Senders are started"
abbrev pub sender_unstarted : State
sender_unstarted = changed everything (message 14 3 2 60 ∷ [])

pub sender_unstarted_is_unsound : sound sender_unstarted ≡ false
unfolding opened_messages
sender_unstarted_is_unsound = messages_unsound sender_unstarted refl

-- "Senders are started"
abbrev pub first_message_from_an_unstarted_rank : State
first_message_from_an_unstarted_rank = changed everything (fresh ∷ drawn 0 2 ∷ running 0 0 1 ∷ tables 0 0 1 ∷ message 1 0 2 60 ∷ [])

pub first_message_from_an_unstarted_rank_is_unsound : sound first_message_from_an_unstarted_rank ≡ false
unfolding opened_messages
first_message_from_an_unstarted_rank_is_unsound = messages_unsound first_message_from_an_unstarted_rank refl

-- "Senders are started"
abbrev pub sender_the_first_rank_unstarted : State
sender_the_first_rank_unstarted = changed everything (fresh ∷ drawn 7 2 ∷ running 15 7 1 ∷ tables 15 7 1 ∷ message 0 15 2 60 ∷ [])

pub sender_the_first_rank_unstarted_is_unsound : sound sender_the_first_rank_unstarted ≡ false
unfolding opened_messages
sender_the_first_rank_unstarted_is_unsound = messages_unsound sender_the_first_rank_unstarted refl

-- "Senders are started"
abbrev pub sender_the_last_rank_unstarted : State
sender_the_last_rank_unstarted = changed everything (message 15 0 2 60 ∷ [])

pub sender_the_last_rank_unstarted_is_unsound : sound sender_the_last_rank_unstarted ≡ false
unfolding opened_messages
sender_the_last_rank_unstarted_is_unsound = messages_unsound sender_the_last_rank_unstarted refl

-- "Senders are started"
abbrev pub sender_unstarted_before_another : State
sender_unstarted_before_another =
    changed everything
    (fresh ∷ drawn 0 2 ∷ running 0 0 1 ∷ tables 0 0 1 ∷ running 1 0 2 ∷ tables 1 0 2 ∷ message 2 1 2 60 ∷ message 0 1 2 61 ∷ [])

pub sender_unstarted_before_another_is_unsound : sound sender_unstarted_before_another ≡ false
unfolding opened_messages
sender_unstarted_before_another_is_unsound = messages_unsound sender_unstarted_before_another refl

-- "receivers running or moving"
abbrev pub receiver_moving : State
receiver_moving = changed everything (message 3 6 2 60 ∷ [])

pub receiver_moving_is_sound : sound receiver_moving ≡ true
unfolding opened_sound
receiver_moving_is_sound = refl

-- "receivers running or moving"
abbrev pub receiver_unstarted : State
receiver_unstarted = changed everything (message 5 14 2 60 ∷ [])

pub receiver_unstarted_is_unsound : sound receiver_unstarted ≡ false
unfolding opened_messages
receiver_unstarted_is_unsound = messages_unsound receiver_unstarted refl

-- "receivers running or moving"
abbrev pub receiver_ended : State
receiver_ended = changed everything (message 5 4 2 60 ∷ [])

pub receiver_ended_is_unsound : sound receiver_ended ≡ false
unfolding opened_messages
receiver_ended_is_unsound = messages_unsound receiver_ended refl

-- "receivers running or moving"
abbrev pub messages_between_the_first_and_the_last_rank : State
messages_between_the_first_and_the_last_rank =
    changed everything
    (fresh ∷ drawn 0 2 ∷ drawn 7 2 ∷ running 0 0 1 ∷ tables 0 0 1 ∷ running 15 7 1 ∷ tables 15 7 1 ∷ message 0 15 2 60 ∷ message 15 0 2 61 ∷
    [])

pub messages_between_the_first_and_the_last_rank_is_sound : sound messages_between_the_first_and_the_last_rank ≡ true
unfolding opened_sound
messages_between_the_first_and_the_last_rank_is_sound = refl

-- "receivers running or moving"
abbrev pub receiver_the_first_rank_unstarted : State
receiver_the_first_rank_unstarted = changed everything (fresh ∷ drawn 7 2 ∷ running 15 7 1 ∷ tables 15 7 1 ∷ message 15 0 2 60 ∷ [])

pub receiver_the_first_rank_unstarted_is_unsound : sound receiver_the_first_rank_unstarted ≡ false
unfolding opened_messages
receiver_the_first_rank_unstarted_is_unsound = messages_unsound receiver_the_first_rank_unstarted refl

-- "receivers running or moving"
abbrev pub receiver_the_last_rank_unstarted : State
receiver_the_last_rank_unstarted = changed everything (message 0 15 2 60 ∷ [])

pub receiver_the_last_rank_unstarted_is_unsound : sound receiver_the_last_rank_unstarted ≡ false
unfolding opened_messages
receiver_the_last_rank_unstarted_is_unsound = messages_unsound receiver_the_last_rank_unstarted refl

-- "receivers running or moving"
abbrev pub receiver_unstarted_before_another : State
receiver_unstarted_before_another =
    changed everything
    (fresh ∷ drawn 0 2 ∷ running 0 0 1 ∷ tables 0 0 1 ∷ running 1 0 2 ∷ tables 1 0 2 ∷ message 0 2 2 60 ∷ message 0 1 2 61 ∷ [])

pub receiver_unstarted_before_another_is_unsound : sound receiver_unstarted_before_another ≡ false
unfolding opened_messages
receiver_unstarted_before_another_is_unsound = messages_unsound receiver_unstarted_before_another refl

-- "While r's await of s is unheeded, messages from s to r are at places 0 and 1 only."
abbrev pub unheeded_with_places_of_the_mover : State
unheeded_with_places_of_the_mover = changed everything (notice 6 1 ∷ unheeded 1 6 ∷ message 6 1 0 60 ∷ message 6 1 1 61 ∷ [])

pub unheeded_with_places_of_the_mover_is_sound : sound unheeded_with_places_of_the_mover ≡ true
unfolding opened_sound
unheeded_with_places_of_the_mover_is_sound = refl

-- "While r's await of s is unheeded, messages from s to r are at places 0 and 1 only."
abbrev pub messages_against_an_unheeded_await : State
messages_against_an_unheeded_await = changed everything (message 1 0 2 60 ∷ message 1 0 3 61 ∷ [])

pub messages_against_an_unheeded_await_is_sound : sound messages_against_an_unheeded_await ≡ true
unfolding opened_sound
messages_against_an_unheeded_await_is_sound = refl

-- "While r's await of s is unheeded, messages from s to r are at places 0 and 1 only."
abbrev pub marked_with_every_place : State
marked_with_every_place =
    changed everything
    (marked 6 5 ∷ plain 5 6 ∷ plain 6 5 ∷ message 5 6 0 60 ∷ message 5 6 1 61 ∷ message 5 6 2 62 ∷ message 5 6 3 63 ∷ [])

pub marked_with_every_place_is_sound : sound marked_with_every_place ≡ true
unfolding opened_sound
marked_with_every_place_is_sound = refl

-- "While r's await of s is unheeded, messages from s to r are at places 0 and 1 only."
abbrev pub no_await_with_every_place_but_the_lane : State
no_await_with_every_place_but_the_lane =
    changed everything
    (plain 5 6 ∷ plain 6 5 ∷ message 5 6 0 60 ∷ message 5 6 2 62 ∷ message 5 6 3 63 ∷ [])

pub no_await_with_every_place_but_the_lane_is_sound : sound no_await_with_every_place_but_the_lane ≡ true
unfolding opened_sound
no_await_with_every_place_but_the_lane_is_sound = refl

-- "While r's await of s is unheeded, messages from s to r are at places 0 and 1 only."
abbrev pub unheeded_with_place_two : State
unheeded_with_place_two = changed everything (message 0 1 2 60 ∷ [])

pub unheeded_with_place_two_is_unsound : sound unheeded_with_place_two ≡ false
unfolding opened_messages
unheeded_with_place_two_is_unsound = messages_unsound unheeded_with_place_two refl

-- "While r's await of s is unheeded, messages from s to r are at places 0 and 1 only."
abbrev pub unheeded_with_place_three : State
unheeded_with_place_three = changed everything (message 0 1 3 60 ∷ [])

pub unheeded_with_place_three_is_unsound : sound unheeded_with_place_three ≡ false
unfolding opened_messages
unheeded_with_place_three_is_unsound = messages_unsound unheeded_with_place_three refl

-- "While r's await of s is unheeded, messages from s to r are at places 0 and 1 only."
abbrev pub first_message_at_place_one_with_an_unheeded_await : State
first_message_at_place_one_with_an_unheeded_await =
    changed everything
    (fresh ∷ drawn 0 2 ∷ drawn 1 1 ∷ running 0 0 1 ∷ tables 0 0 1 ∷ moving 1 0 2 1 1 ∷ tables 1 0 2 ∷ notice 0 1 ∷ unheeded 1 0 ∷
    message 0 1 1 60 ∷ [])

pub first_message_at_place_one_with_an_unheeded_await_is_sound : sound first_message_at_place_one_with_an_unheeded_await ≡ true
unfolding opened_sound
first_message_at_place_one_with_an_unheeded_await_is_sound = refl

-- "While r's await of s is unheeded, messages from s to r are at places 0 and 1 only."
abbrev pub first_message_at_place_two_with_an_unheeded_await : State
first_message_at_place_two_with_an_unheeded_await =
    changed everything
    (fresh ∷ drawn 0 2 ∷ drawn 1 1 ∷ running 0 0 1 ∷ tables 0 0 1 ∷ moving 1 0 2 1 1 ∷ tables 1 0 2 ∷ notice 0 1 ∷ unheeded 1 0 ∷
    message 0 1 2 60 ∷ [])

pub first_message_at_place_two_with_an_unheeded_await_is_unsound : sound first_message_at_place_two_with_an_unheeded_await ≡ false
unfolding opened_messages
first_message_at_place_two_with_an_unheeded_await_is_unsound = messages_unsound first_message_at_place_two_with_an_unheeded_await refl

-- "While r's await of s is unheeded, messages from s to r are at places 0 and 1 only."
abbrev pub unheeded_with_places_of_the_first_rank : State
unheeded_with_places_of_the_first_rank =
    changed everything
    (drawn 7 2 ∷ moving 0 0 1 7 1 ∷ running 15 7 2 ∷ tables 15 7 2 ∷ notice 15 0 ∷ unheeded 0 15 ∷ message 15 0 0 60 ∷ message 15 0 1 61 ∷
    [])

pub unheeded_with_places_of_the_first_rank_is_sound : sound unheeded_with_places_of_the_first_rank ≡ true
unfolding opened_sound
unheeded_with_places_of_the_first_rank_is_sound = refl

-- "While r's await of s is unheeded, messages from s to r are at places 0 and 1 only."
abbrev pub unheeded_with_places_of_the_last_rank : State
unheeded_with_places_of_the_last_rank =
    changed everything
    (drawn 7 2 ∷ moving 15 7 1 7 2 ∷ tables 15 7 1 ∷ notice 0 15 ∷ unheeded 15 0 ∷ message 0 15 0 60 ∷ message 0 15 1 61 ∷ [])

pub unheeded_with_places_of_the_last_rank_is_sound : sound unheeded_with_places_of_the_last_rank ≡ true
unfolding opened_sound
unheeded_with_places_of_the_last_rank_is_sound = refl

-- "While r's await of s is unheeded, messages from s to r are at places 0 and 1 only."
abbrev pub unheeded_with_place_two_of_the_first_rank : State
unheeded_with_place_two_of_the_first_rank =
    changed everything
    (drawn 7 2 ∷ moving 0 0 1 7 1 ∷ running 15 7 2 ∷ tables 15 7 2 ∷ notice 15 0 ∷ unheeded 0 15 ∷ message 15 0 2 60 ∷ [])

pub unheeded_with_place_two_of_the_first_rank_is_unsound : sound unheeded_with_place_two_of_the_first_rank ≡ false
unfolding opened_messages
unheeded_with_place_two_of_the_first_rank_is_unsound = messages_unsound unheeded_with_place_two_of_the_first_rank refl

-- "While r's await of s is unheeded, messages from s to r are at places 0 and 1 only."
abbrev pub unheeded_with_place_two_of_the_last_rank : State
unheeded_with_place_two_of_the_last_rank =
    changed everything
    (drawn 7 2 ∷ moving 15 7 1 7 2 ∷ tables 15 7 1 ∷ notice 0 15 ∷ unheeded 15 0 ∷ message 0 15 2 60 ∷ [])

pub unheeded_with_place_two_of_the_last_rank_is_unsound : sound unheeded_with_place_two_of_the_last_rank ≡ false
unfolding opened_messages
unheeded_with_place_two_of_the_last_rank_is_unsound = messages_unsound unheeded_with_place_two_of_the_last_rank refl

-- "While r's await of s is unheeded, messages from s to r are at places 0 and 1 only."
abbrev pub unheeded_with_place_two_before_another : State
unheeded_with_place_two_before_another =
    changed everything
    (fresh ∷ drawn 0 2 ∷ drawn 1 1 ∷ running 0 0 1 ∷ tables 0 0 1 ∷ moving 1 0 2 1 1 ∷ tables 1 0 2 ∷ notice 0 1 ∷ unheeded 1 0 ∷
    message 0 1 2 60 ∷ message 1 0 2 61 ∷ [])

pub unheeded_with_place_two_before_another_is_unsound : sound unheeded_with_place_two_before_another ≡ false
unfolding opened_messages
unheeded_with_place_two_before_another_is_unsound = messages_unsound unheeded_with_place_two_before_another refl

-- "Places 0 and 1 occur only for a moving receiver"
abbrev pub place_zero_from_an_ended_rank : State
place_zero_from_an_ended_rank = changed everything (message 4 6 0 60 ∷ [])

pub place_zero_from_an_ended_rank_is_sound : sound place_zero_from_an_ended_rank ≡ true
unfolding opened_sound
place_zero_from_an_ended_rank_is_sound = refl

-- "Places 0 and 1 occur only for a moving receiver"
abbrev pub place_zero_for_a_running_receiver : State
place_zero_for_a_running_receiver = changed everything (message 0 3 0 60 ∷ [])

pub place_zero_for_a_running_receiver_is_unsound : sound place_zero_for_a_running_receiver ≡ false
unfolding opened_messages
place_zero_for_a_running_receiver_is_unsound = messages_unsound place_zero_for_a_running_receiver refl

-- "Places 0 and 1 occur only for a moving receiver"
abbrev pub place_zero_from_a_moving_rank : State
place_zero_from_a_moving_rank = changed everything (message 1 3 0 60 ∷ [])

pub place_zero_from_a_moving_rank_is_unsound : sound place_zero_from_a_moving_rank ≡ false
unfolding opened_messages
place_zero_from_a_moving_rank_is_unsound = messages_unsound place_zero_from_a_moving_rank refl

-- "Places 0 and 1 occur only for a moving receiver"
abbrev pub place_one_for_a_running_receiver : State
place_one_for_a_running_receiver = changed everything (message 0 3 1 60 ∷ [])

pub place_one_for_a_running_receiver_is_unsound : sound place_one_for_a_running_receiver ≡ false
unfolding opened_messages
place_one_for_a_running_receiver_is_unsound = messages_unsound place_one_for_a_running_receiver refl

-- "Places 0 and 1 occur only for a moving receiver"
abbrev pub place_zero_from_the_first_rank_to_the_last : State
place_zero_from_the_first_rank_to_the_last = changed everything (drawn 7 1 ∷ running 15 7 1 ∷ tables 15 7 1 ∷ message 0 15 0 60 ∷ [])

pub place_zero_from_the_first_rank_to_the_last_is_unsound : sound place_zero_from_the_first_rank_to_the_last ≡ false
unfolding opened_messages
place_zero_from_the_first_rank_to_the_last_is_unsound = messages_unsound place_zero_from_the_first_rank_to_the_last refl

-- "Places 0 and 1 occur only for a moving receiver"
abbrev pub place_zero_from_the_last_rank_to_the_first : State
place_zero_from_the_last_rank_to_the_first = changed everything (drawn 7 1 ∷ running 15 7 1 ∷ tables 15 7 1 ∷ message 15 0 0 60 ∷ [])

pub place_zero_from_the_last_rank_to_the_first_is_unsound : sound place_zero_from_the_last_rank_to_the_first ≡ false
unfolding opened_messages
place_zero_from_the_last_rank_to_the_first_is_unsound = messages_unsound place_zero_from_the_last_rank_to_the_first refl

-- "Places 0 and 1 occur only for a moving receiver"
abbrev pub place_zero_from_an_ended_rank_for_a_running_receiver : State
place_zero_from_an_ended_rank_for_a_running_receiver = changed everything (message 4 3 0 60 ∷ [])

pub place_zero_from_an_ended_rank_for_a_running_receiver_is_unsound : sound place_zero_from_an_ended_rank_for_a_running_receiver ≡ false
unfolding opened_messages
place_zero_from_an_ended_rank_for_a_running_receiver_is_unsound = messages_unsound place_zero_from_an_ended_rank_for_a_running_receiver refl

-- "Places 0 and 1 occur only for a moving receiver"
abbrev pub place_zero_before_place_two : State
place_zero_before_place_two =
    changed everything
    (fresh ∷ drawn 0 2 ∷ running 0 0 1 ∷ tables 0 0 1 ∷ running 1 0 2 ∷ tables 1 0 2 ∷ message 0 1 0 60 ∷ message 0 1 2 61 ∷ [])

pub place_zero_before_place_two_is_unsound : sound place_zero_before_place_two ≡ false
unfolding opened_messages
place_zero_before_place_two_is_unsound = messages_unsound place_zero_before_place_two refl

-- "place 1 only with an await"
abbrev pub place_one_from_an_ended_rank : State
place_one_from_an_ended_rank = changed everything (marked 1 4 ∷ message 4 1 1 60 ∷ [])

pub place_one_from_an_ended_rank_is_sound : sound place_one_from_an_ended_rank ≡ true
unfolding opened_sound
place_one_from_an_ended_rank_is_sound = refl

-- "place 1 only with an await"
abbrev pub place_one_without_an_await : State
place_one_without_an_await = changed everything (message 3 1 1 60 ∷ [])

pub place_one_without_an_await_is_unsound : sound place_one_without_an_await ≡ false
unfolding opened_messages
place_one_without_an_await_is_unsound = messages_unsound place_one_without_an_await refl

-- "place 1 only with an await"
abbrev pub place_one_with_an_await_of_the_sender : State
place_one_with_an_await_of_the_sender = changed everything (marked 1 6 ∷ message 1 6 1 60 ∷ [])

pub place_one_with_an_await_of_the_sender_is_unsound : sound place_one_with_an_await_of_the_sender ≡ false
unfolding opened_messages
place_one_with_an_await_of_the_sender_is_unsound = messages_unsound place_one_with_an_await_of_the_sender refl

-- "place 1 only with an await"
abbrev pub place_one_from_the_first_rank_to_the_last : State
place_one_from_the_first_rank_to_the_last = changed everything (drawn 7 2 ∷ moving 15 7 1 7 2 ∷ tables 15 7 1 ∷ message 0 15 1 60 ∷ [])

pub place_one_from_the_first_rank_to_the_last_is_unsound : sound place_one_from_the_first_rank_to_the_last ≡ false
unfolding opened_messages
place_one_from_the_first_rank_to_the_last_is_unsound = messages_unsound place_one_from_the_first_rank_to_the_last refl

-- "place 1 only with an await"
abbrev pub place_one_from_the_last_rank_to_the_first : State
place_one_from_the_last_rank_to_the_first =
    changed everything
    (drawn 7 2 ∷ moving 0 0 1 7 1 ∷ running 15 7 2 ∷ tables 15 7 2 ∷ message 15 0 1 60 ∷ [])

pub place_one_from_the_last_rank_to_the_first_is_unsound : sound place_one_from_the_last_rank_to_the_first ≡ false
unfolding opened_messages
place_one_from_the_last_rank_to_the_first_is_unsound = messages_unsound place_one_from_the_last_rank_to_the_first refl

-- "place 1 only with an await"
abbrev pub place_one_before_place_two : State
place_one_before_place_two =
    changed everything
    (fresh ∷ drawn 0 2 ∷ drawn 1 1 ∷ running 0 0 1 ∷ tables 0 0 1 ∷ moving 1 0 2 1 1 ∷ tables 1 0 2 ∷ message 0 1 1 60 ∷ message 0 1 2 61 ∷
    [])

pub place_one_before_place_two_is_unsound : sound place_one_before_place_two ≡ false
unfolding opened_messages
place_one_before_place_two_is_unsound = messages_unsound place_one_before_place_two refl

-- "place 1 only with an await"
abbrev pub place_one_after_place_zero : State
place_one_after_place_zero = changed everything (message 3 6 0 60 ∷ message 3 6 1 61 ∷ [])

pub place_one_after_place_zero_is_unsound : sound place_one_after_place_zero ≡ false
unfolding opened_messages
place_one_after_place_zero_is_unsound = messages_unsound place_one_after_place_zero refl

-- "place 3 only with a line from receiver to sender"
abbrev pub place_three_along_a_notice_line : State
place_three_along_a_notice_line = changed everything (message 1 0 3 60 ∷ [])

pub place_three_along_a_notice_line_is_sound : sound place_three_along_a_notice_line ≡ true
unfolding opened_sound
place_three_along_a_notice_line_is_sound = refl

-- "place 3 only with a line from receiver to sender"
abbrev pub place_three_without_a_line : State
place_three_without_a_line = changed everything (message 5 3 3 60 ∷ [])

pub place_three_without_a_line_is_unsound : sound place_three_without_a_line ≡ false
unfolding opened_messages
place_three_without_a_line_is_unsound = messages_unsound place_three_without_a_line refl

-- "place 3 only with a line from receiver to sender"
abbrev pub place_three_without_a_line_to_a_moving_rank : State
place_three_without_a_line_to_a_moving_rank = changed everything (message 3 1 3 60 ∷ [])

pub place_three_without_a_line_to_a_moving_rank_is_unsound : sound place_three_without_a_line_to_a_moving_rank ≡ false
unfolding opened_messages
place_three_without_a_line_to_a_moving_rank_is_unsound = messages_unsound place_three_without_a_line_to_a_moving_rank refl

-- "place 3 only with a line from receiver to sender"
abbrev pub first_message_at_place_three_without_a_line : State
first_message_at_place_three_without_a_line =
    changed everything
    (fresh ∷ drawn 0 2 ∷ running 0 0 1 ∷ tables 0 0 1 ∷ running 1 0 2 ∷ tables 1 0 2 ∷ message 0 1 3 60 ∷ [])

pub first_message_at_place_three_without_a_line_is_unsound : sound first_message_at_place_three_without_a_line ≡ false
unfolding opened_messages
first_message_at_place_three_without_a_line_is_unsound = messages_unsound first_message_at_place_three_without_a_line refl

-- "place 3 only with a line from receiver to sender"
abbrev pub place_three_from_the_first_rank_to_the_last : State
place_three_from_the_first_rank_to_the_last = changed everything (drawn 7 1 ∷ running 15 7 1 ∷ tables 15 7 1 ∷ message 0 15 3 60 ∷ [])

pub place_three_from_the_first_rank_to_the_last_is_unsound : sound place_three_from_the_first_rank_to_the_last ≡ false
unfolding opened_messages
place_three_from_the_first_rank_to_the_last_is_unsound = messages_unsound place_three_from_the_first_rank_to_the_last refl

-- "place 3 only with a line from receiver to sender"
abbrev pub place_three_from_the_last_rank_to_the_first : State
place_three_from_the_last_rank_to_the_first = changed everything (drawn 7 1 ∷ running 15 7 1 ∷ tables 15 7 1 ∷ message 15 0 3 60 ∷ [])

pub place_three_from_the_last_rank_to_the_first_is_unsound : sound place_three_from_the_last_rank_to_the_first ≡ false
unfolding opened_messages
place_three_from_the_last_rank_to_the_first_is_unsound = messages_unsound place_three_from_the_last_rank_to_the_first refl

-- "place 3 only with a line from receiver to sender"
abbrev pub place_three_without_a_line_from_a_moving_rank : State
place_three_without_a_line_from_a_moving_rank = changed everything (message 1 3 3 60 ∷ [])

pub place_three_without_a_line_from_a_moving_rank_is_unsound : sound place_three_without_a_line_from_a_moving_rank ≡ false
unfolding opened_messages
place_three_without_a_line_from_a_moving_rank_is_unsound = messages_unsound place_three_without_a_line_from_a_moving_rank refl

-- "place 3 only with a line from receiver to sender"
abbrev pub place_three_without_a_line_from_an_ended_rank : State
place_three_without_a_line_from_an_ended_rank = changed everything (message 4 3 3 60 ∷ [])

pub place_three_without_a_line_from_an_ended_rank_is_unsound : sound place_three_without_a_line_from_an_ended_rank ≡ false
unfolding opened_messages
place_three_without_a_line_from_an_ended_rank_is_unsound = messages_unsound place_three_without_a_line_from_an_ended_rank refl

-- "place 3 only with a line from receiver to sender"
abbrev pub place_three_without_a_line_before_another : State
place_three_without_a_line_before_another =
    changed everything
    (fresh ∷ drawn 0 2 ∷ running 0 0 1 ∷ tables 0 0 1 ∷ running 1 0 2 ∷ tables 1 0 2 ∷ message 0 1 3 60 ∷ message 1 0 2 61 ∷ [])

pub place_three_without_a_line_before_another_is_unsound : sound place_three_without_a_line_before_another ≡ false
unfolding opened_messages
place_three_without_a_line_before_another_is_unsound = messages_unsound place_three_without_a_line_before_another refl

-- "Within a pair, places never fall along the order of sending."
abbrev pub places_fall_between_pairs : State
places_fall_between_pairs =
    changed everything
    (message 0 1 1 60 ∷ message 2 0 2 61 ∷ message 2 0 3 62 ∷ message 1 2 2 63 ∷ message 5 3 2 4294967295 ∷ [])

pub places_fall_between_pairs_is_sound : sound places_fall_between_pairs ≡ true
unfolding opened_sound
places_fall_between_pairs_is_sound = refl

-- "Within a pair, places never fall along the order of sending."
abbrev pub place_falls_to_zero : State
place_falls_to_zero = changed everything (message 0 1 0 60 ∷ [])

pub place_falls_to_zero_is_unsound : sound place_falls_to_zero ≡ false
unfolding opened_messages
place_falls_to_zero_is_unsound = messages_unsound place_falls_to_zero refl

-- "Within a pair, places never fall along the order of sending."
abbrev pub place_falls_to_two : State
place_falls_to_two = changed everything (message 0 2 2 60 ∷ [])

pub place_falls_to_two_is_unsound : sound place_falls_to_two ≡ false
unfolding opened_messages
place_falls_to_two_is_unsound = messages_unsound place_falls_to_two refl

-- "Within a pair, places never fall along the order of sending."
abbrev pub place_falls_from_two_to_zero : State
place_falls_from_two_to_zero = changed everything (message 3 6 2 60 ∷ message 3 6 0 61 ∷ [])

pub place_falls_from_two_to_zero_is_unsound : sound place_falls_from_two_to_zero ≡ false
unfolding opened_messages
place_falls_from_two_to_zero_is_unsound = messages_unsound place_falls_from_two_to_zero refl

-- "Within a pair, places never fall along the order of sending."
abbrev pub place_falls_from_two_to_one : State
place_falls_from_two_to_one = changed everything (marked 6 3 ∷ message 3 6 2 60 ∷ message 3 6 1 61 ∷ [])

pub place_falls_from_two_to_one_is_unsound : sound place_falls_from_two_to_one ≡ false
unfolding opened_messages
place_falls_from_two_to_one_is_unsound = messages_unsound place_falls_from_two_to_one refl

-- "Within a pair, places never fall along the order of sending."
abbrev pub place_falls_and_rises : State
place_falls_and_rises = changed everything (message 2 0 3 60 ∷ message 2 0 2 61 ∷ message 2 0 3 62 ∷ [])

pub place_falls_and_rises_is_unsound : sound place_falls_and_rises ≡ false
unfolding opened_messages
place_falls_and_rises_is_unsound = messages_unsound place_falls_and_rises refl

-- "Within a pair, places never fall along the order of sending."
abbrev pub place_falls_past_another_pair : State
place_falls_past_another_pair = changed everything (message 2 0 3 60 ∷ message 5 3 2 61 ∷ message 2 0 2 62 ∷ [])

pub place_falls_past_another_pair_is_unsound : sound place_falls_past_another_pair ≡ false
unfolding opened_messages
place_falls_past_another_pair_is_unsound = messages_unsound place_falls_past_another_pair refl

-- "Within a pair, places never fall along the order of sending."
abbrev pub place_falls_between_the_last_ranks : State
place_falls_between_the_last_ranks =
    changed everything
    (drawn 7 2 ∷ running 14 7 1 ∷ tables 14 7 1 ∷ running 15 7 2 ∷ tables 15 7 2 ∷ plain 14 15 ∷ plain 15 14 ∷ message 14 15 3 60 ∷
    message 14 15 2 61 ∷ [])

pub place_falls_between_the_last_ranks_is_unsound : sound place_falls_between_the_last_ranks ≡ false
unfolding opened_messages
place_falls_between_the_last_ranks_is_unsound = messages_unsound place_falls_between_the_last_ranks refl

-- "Within a pair, places never fall along the order of sending."
abbrev pub place_falls_back_between_the_last_ranks : State
place_falls_back_between_the_last_ranks =
    changed everything
    (drawn 7 2 ∷ running 14 7 1 ∷ tables 14 7 1 ∷ running 15 7 2 ∷ tables 15 7 2 ∷ plain 14 15 ∷ plain 15 14 ∷ message 15 14 3 60 ∷
    message 15 14 2 61 ∷ [])

pub place_falls_back_between_the_last_ranks_is_unsound : sound place_falls_back_between_the_last_ranks ≡ false
unfolding opened_messages
place_falls_back_between_the_last_ranks_is_unsound = messages_unsound place_falls_back_between_the_last_ranks refl

-- "Within a pair, places never fall along the order of sending."
abbrev pub place_falls_from_three_to_one : State
place_falls_from_three_to_one = changed everything (marked 6 5 ∷ plain 5 6 ∷ plain 6 5 ∷ message 5 6 3 60 ∷ message 5 6 1 61 ∷ [])

pub place_falls_from_three_to_one_is_unsound : sound place_falls_from_three_to_one ≡ false
unfolding opened_messages
place_falls_from_three_to_one_is_unsound = messages_unsound place_falls_from_three_to_one refl

-- "Within a pair, places never fall along the order of sending."
abbrev pub place_falls_from_three_to_zero : State
place_falls_from_three_to_zero = changed everything (plain 5 6 ∷ plain 6 5 ∷ message 5 6 3 60 ∷ message 5 6 0 61 ∷ [])

pub place_falls_from_three_to_zero_is_unsound : sound place_falls_from_three_to_zero ≡ false
unfolding opened_messages
place_falls_from_three_to_zero_is_unsound = messages_unsound place_falls_from_three_to_zero refl

-- "Within a pair, places never fall along the order of sending."
abbrev pub places_rise_between_the_first_and_the_last_rank : State
places_rise_between_the_first_and_the_last_rank =
    changed everything
    (fresh ∷ drawn 0 2 ∷ drawn 7 2 ∷ running 0 0 1 ∷ tables 0 0 1 ∷ running 15 7 1 ∷ tables 15 7 1 ∷ plain 0 15 ∷ plain 15 0 ∷
    message 0 15 2 60 ∷ message 15 0 2 61 ∷ message 0 15 3 62 ∷ message 15 0 3 63 ∷ [])

pub places_rise_between_the_first_and_the_last_rank_is_sound : sound places_rise_between_the_first_and_the_last_rank ≡ true
unfolding opened_sound
places_rise_between_the_first_and_the_last_rank_is_sound = refl

-- "Within a pair, places never fall along the order of sending."
abbrev pub place_falls_from_the_first_rank_to_the_last : State
place_falls_from_the_first_rank_to_the_last =
    changed everything
    (fresh ∷ drawn 0 2 ∷ drawn 7 2 ∷ running 0 0 1 ∷ tables 0 0 1 ∷ running 15 7 1 ∷ tables 15 7 1 ∷ plain 0 15 ∷ plain 15 0 ∷
    message 0 15 3 60 ∷ message 0 15 2 61 ∷ [])

pub place_falls_from_the_first_rank_to_the_last_is_unsound : sound place_falls_from_the_first_rank_to_the_last ≡ false
unfolding opened_messages
place_falls_from_the_first_rank_to_the_last_is_unsound = messages_unsound place_falls_from_the_first_rank_to_the_last refl

-- "Within a pair, places never fall along the order of sending."
abbrev pub place_falls_from_the_last_rank_to_the_first : State
place_falls_from_the_last_rank_to_the_first =
    changed everything
    (fresh ∷ drawn 0 2 ∷ drawn 7 2 ∷ running 0 0 1 ∷ tables 0 0 1 ∷ running 15 7 1 ∷ tables 15 7 1 ∷ plain 0 15 ∷ plain 15 0 ∷
    message 15 0 3 60 ∷ message 15 0 2 61 ∷ [])

pub place_falls_from_the_last_rank_to_the_first_is_unsound : sound place_falls_from_the_last_rank_to_the_first ≡ false
unfolding opened_messages
place_falls_from_the_last_rank_to_the_first_is_unsound = messages_unsound place_falls_from_the_last_rank_to_the_first refl

-- "Sound pairs have unread numbers rising within 1 to the count sent." (paper 02, change 4)
abbrev pub numbers_with_gaps : State
numbers_with_gaps = changed everything (sent 3 5 20 ∷ numbered 3 5 2 60 4 ∷ numbered 3 5 2 61 9 ∷ numbered 3 5 2 62 10 ∷ [])

pub numbers_with_gaps_is_sound : sound numbers_with_gaps ≡ true
unfolding opened_sound
numbers_with_gaps_is_sound = refl

-- "Sound pairs have unread numbers rising within 1 to the count sent." (paper 02, change 4)
abbrev pub numbers_up_to_the_count_sent : State
numbers_up_to_the_count_sent = changed everything (sent 3 5 9 ∷ numbered 3 5 2 60 8 ∷ numbered 3 5 2 61 9 ∷ [])

pub numbers_up_to_the_count_sent_is_sound : sound numbers_up_to_the_count_sent ≡ true
unfolding opened_sound
numbers_up_to_the_count_sent_is_sound = refl

-- "Sound pairs have unread numbers rising within 1 to the count sent." (paper 02, change 4)
abbrev pub number_one_with_one_sent : State
number_one_with_one_sent = changed everything (sent 3 5 1 ∷ numbered 3 5 2 60 1 ∷ [])

pub number_one_with_one_sent_is_sound : sound number_one_with_one_sent ≡ true
unfolding opened_sound
number_one_with_one_sent_is_sound = refl

-- "Sound pairs have unread numbers rising within 1 to the count sent." (paper 02, change 4)
abbrev pub highest_numbers : State
highest_numbers =
    changed everything
    (sent 3 5 4294967295 ∷ numbered 3 5 2 60 1 ∷ numbered 3 5 2 61 4294967294 ∷ numbered 3 5 2 62 4294967295 ∷ [])

pub highest_numbers_is_sound : sound highest_numbers ≡ true
unfolding opened_sound
highest_numbers_is_sound = refl

-- "Sound pairs have unread numbers rising within 1 to the count sent." (paper 02, change 4)
abbrev pub counts_sent_with_nothing_unread : State
counts_sent_with_nothing_unread = changed everything (sent 3 5 4294967295 ∷ sent 0 5 1 ∷ [])

pub counts_sent_with_nothing_unread_is_sound : sound counts_sent_with_nothing_unread ≡ true
unfolding opened_sound
counts_sent_with_nothing_unread_is_sound = refl

-- "Sound pairs have unread numbers rising within 1 to the count sent." (paper 02, change 4)
abbrev pub counts_sent_above_the_unread : State
counts_sent_above_the_unread = changed everything (sent 0 1 4294967295 ∷ sent 0 2 3 ∷ [])

pub counts_sent_above_the_unread_is_sound : sound counts_sent_above_the_unread ≡ true
unfolding opened_sound
counts_sent_above_the_unread_is_sound = refl

-- "Sound pairs have unread numbers rising within 1 to the count sent." (paper 02, change 4)
abbrev pub same_numbers_in_both_directions : State
same_numbers_in_both_directions = changed everything (sent 2 0 2 ∷ numbered 2 0 2 60 1 ∷ numbered 2 0 3 61 2 ∷ [])

pub same_numbers_in_both_directions_is_sound : sound same_numbers_in_both_directions ≡ true
unfolding opened_sound
same_numbers_in_both_directions_is_sound = refl

-- "Sound pairs have unread numbers rising within 1 to the count sent." (paper 02, change 4)
abbrev pub numbers_fall_between_pairs : State
numbers_fall_between_pairs =
    changed everything
    (sent 3 5 9 ∷ sent 0 5 9 ∷ numbered 3 5 2 60 8 ∷ numbered 0 5 2 61 1 ∷ numbered 3 5 2 62 9 ∷ numbered 0 5 2 63 2 ∷ [])

pub numbers_fall_between_pairs_is_sound : sound numbers_fall_between_pairs ≡ true
unfolding opened_sound
numbers_fall_between_pairs_is_sound = refl

-- "Sound pairs have unread numbers rising within 1 to the count sent." (paper 02, change 4)
abbrev pub numbers_rise_from_place_to_place : State
numbers_rise_from_place_to_place =
    changed everything
    (sent 2 1 9 ∷ numbered 2 1 3 60 5 ∷ marked 6 5 ∷ plain 5 6 ∷ plain 6 5 ∷ sent 5 6 9 ∷ numbered 5 6 0 61 2 ∷ numbered 5 6 1 62 3 ∷
    numbered 5 6 2 63 7 ∷ numbered 5 6 3 64 9 ∷ [])

pub numbers_rise_from_place_to_place_is_sound : sound numbers_rise_from_place_to_place ≡ true
unfolding opened_sound
numbers_rise_from_place_to_place_is_sound = refl

-- "Sound pairs have unread numbers rising within 1 to the count sent." (paper 02, change 4)
abbrev pub counts_sent_of_unstarted_ranks : State
counts_sent_of_unstarted_ranks = changed everything (sent 14 0 7 ∷ sent 0 14 7 ∷ sent 15 14 4294967295 ∷ [])

pub counts_sent_of_unstarted_ranks_is_sound : sound counts_sent_of_unstarted_ranks ≡ true
unfolding opened_sound
counts_sent_of_unstarted_ranks_is_sound = refl

-- "Sound pairs have unread numbers rising within 1 to the count sent." (paper 02, change 4)
abbrev pub counts_sent_of_ended_ranks : State
counts_sent_of_ended_ranks = changed everything (sent 4 0 7 ∷ sent 0 4 7 ∷ [])

pub counts_sent_of_ended_ranks_is_sound : sound counts_sent_of_ended_ranks ≡ true
unfolding opened_sound
counts_sent_of_ended_ranks_is_sound = refl

-- "Sound pairs have unread numbers rising within 1 to the count sent." (paper 02, change 4)
abbrev pub counts_sent_to_itself : State
counts_sent_to_itself = changed everything (sent 3 3 7 ∷ sent 15 15 4294967295 ∷ [])

pub counts_sent_to_itself_is_sound : sound counts_sent_to_itself ≡ true
unfolding opened_sound
counts_sent_to_itself_is_sound = refl

-- "Sound pairs have unread numbers rising within 1 to the count sent." (paper 02, change 4)
abbrev pub numbers_between_the_last_ranks : State
numbers_between_the_last_ranks =
    changed everything
    (drawn 7 2 ∷ running 14 7 1 ∷ tables 14 7 1 ∷ running 15 7 2 ∷ tables 15 7 2 ∷ sent 14 15 9 ∷ sent 15 14 9 ∷ numbered 14 15 2 60 9 ∷
    numbered 15 14 2 61 9 ∷ [])

pub numbers_between_the_last_ranks_is_sound : sound numbers_between_the_last_ranks ≡ true
unfolding opened_sound
numbers_between_the_last_ranks_is_sound = refl

-- "Sound pairs have unread numbers rising within 1 to the count sent." (paper 02, change 4)
abbrev pub number_repeated : State
number_repeated = changed everything (sent 3 5 9 ∷ numbered 3 5 2 60 4 ∷ numbered 3 5 2 61 4 ∷ [])

pub number_repeated_is_unsound : sound number_repeated ≡ false
unfolding opened_messages
number_repeated_is_unsound = messages_unsound number_repeated refl

-- "Sound pairs have unread numbers rising within 1 to the count sent." (paper 02, change 4)
abbrev pub number_falls : State
number_falls = changed everything (sent 3 5 9 ∷ numbered 3 5 2 60 4 ∷ numbered 3 5 2 61 3 ∷ [])

pub number_falls_is_unsound : sound number_falls ≡ false
unfolding opened_messages
number_falls_is_unsound = messages_unsound number_falls refl

-- "Sound pairs have unread numbers rising within 1 to the count sent." (paper 02, change 4)
abbrev pub number_falls_below_the_one_before : State
number_falls_below_the_one_before = changed everything (sent 3 5 9 ∷ numbered 3 5 2 60 4 ∷ numbered 3 5 2 61 6 ∷ numbered 3 5 2 62 5 ∷ [])

pub number_falls_below_the_one_before_is_unsound : sound number_falls_below_the_one_before ≡ false
unfolding opened_messages
number_falls_below_the_one_before_is_unsound = messages_unsound number_falls_below_the_one_before refl

-- "Sound pairs have unread numbers rising within 1 to the count sent." (paper 02, change 4)
abbrev pub number_falls_and_rises : State
number_falls_and_rises = changed everything (sent 3 5 9 ∷ numbered 3 5 2 60 4 ∷ numbered 3 5 2 61 3 ∷ numbered 3 5 2 62 5 ∷ [])

pub number_falls_and_rises_is_unsound : sound number_falls_and_rises ≡ false
unfolding opened_messages
number_falls_and_rises_is_unsound = messages_unsound number_falls_and_rises refl

-- "Sound pairs have unread numbers rising within 1 to the count sent." (paper 02, change 4)
abbrev pub number_falls_from_the_highest : State
number_falls_from_the_highest = changed everything (sent 3 5 4294967295 ∷ numbered 3 5 2 60 4294967295 ∷ numbered 3 5 2 61 1 ∷ [])

pub number_falls_from_the_highest_is_unsound : sound number_falls_from_the_highest ≡ false
unfolding opened_messages
number_falls_from_the_highest_is_unsound = messages_unsound number_falls_from_the_highest refl

-- "Sound pairs have unread numbers rising within 1 to the count sent." (paper 02, change 4)
abbrev pub number_repeated_at_another_place : State
number_repeated_at_another_place = changed everything (marked 6 5 ∷ sent 5 6 9 ∷ numbered 5 6 0 60 4 ∷ numbered 5 6 1 61 4 ∷ [])

pub number_repeated_at_another_place_is_unsound : sound number_repeated_at_another_place ≡ false
unfolding opened_messages
number_repeated_at_another_place_is_unsound = messages_unsound number_repeated_at_another_place refl

-- "Sound pairs have unread numbers rising within 1 to the count sent." (paper 02, change 4)
abbrev pub number_falls_on_the_lane_to_the_mover : State
number_falls_on_the_lane_to_the_mover = changed everything (sent 0 1 9 ∷ numbered 0 1 1 60 2 ∷ [])

pub number_falls_on_the_lane_to_the_mover_is_unsound : sound number_falls_on_the_lane_to_the_mover ≡ false
unfolding opened_messages
number_falls_on_the_lane_to_the_mover_is_unsound = messages_unsound number_falls_on_the_lane_to_the_mover refl

-- "Sound pairs have unread numbers rising within 1 to the count sent." (paper 02, change 4)
abbrev pub number_rises_over_another_pair_alone : State
number_rises_over_another_pair_alone =
    changed everything
    (sent 3 5 9 ∷ sent 0 5 9 ∷ numbered 3 5 2 60 5 ∷ numbered 0 5 2 61 1 ∷ numbered 3 5 2 62 4 ∷ [])

pub number_rises_over_another_pair_alone_is_unsound : sound number_rises_over_another_pair_alone ≡ false
unfolding opened_messages
number_rises_over_another_pair_alone_is_unsound = messages_unsound number_rises_over_another_pair_alone refl

-- "Sound pairs have unread numbers rising within 1 to the count sent." (paper 02, change 4)
abbrev pub number_rises_over_the_other_direction_alone : State
number_rises_over_the_other_direction_alone =
    changed everything
    (sent 3 5 9 ∷ numbered 3 5 2 60 5 ∷ message 5 3 2 61 ∷ numbered 3 5 2 62 4 ∷ [])

pub number_rises_over_the_other_direction_alone_is_unsound : sound number_rises_over_the_other_direction_alone ≡ false
unfolding opened_messages
number_rises_over_the_other_direction_alone_is_unsound = messages_unsound number_rises_over_the_other_direction_alone refl

-- "Sound pairs have unread numbers rising within 1 to the count sent." (paper 02, change 4)
abbrev pub number_above_the_count_sent : State
number_above_the_count_sent = changed everything (sent 3 5 4 ∷ numbered 3 5 2 60 5 ∷ [])

pub number_above_the_count_sent_is_unsound : sound number_above_the_count_sent ≡ false
unfolding opened_messages
number_above_the_count_sent_is_unsound = messages_unsound number_above_the_count_sent refl

-- "Sound pairs have unread numbers rising within 1 to the count sent." (paper 02, change 4)
abbrev pub last_number_above_the_count_sent : State
last_number_above_the_count_sent = changed everything (sent 3 5 4 ∷ numbered 3 5 2 60 4 ∷ numbered 3 5 2 61 5 ∷ [])

pub last_number_above_the_count_sent_is_unsound : sound last_number_above_the_count_sent ≡ false
unfolding opened_messages
last_number_above_the_count_sent_is_unsound = messages_unsound last_number_above_the_count_sent refl

-- "Sound pairs have unread numbers rising within 1 to the count sent." (paper 02, change 4)
abbrev pub number_one_with_nothing_sent : State
number_one_with_nothing_sent = changed everything (numbered 3 5 2 60 1 ∷ [])

pub number_one_with_nothing_sent_is_unsound : sound number_one_with_nothing_sent ≡ false
unfolding opened_messages
number_one_with_nothing_sent_is_unsound = messages_unsound number_one_with_nothing_sent refl

-- "Sound pairs have unread numbers rising within 1 to the count sent." (paper 02, change 4)
abbrev pub highest_number_with_one_less_sent : State
highest_number_with_one_less_sent = changed everything (sent 3 5 4294967294 ∷ numbered 3 5 2 60 4294967295 ∷ [])

pub highest_number_with_one_less_sent_is_unsound : sound highest_number_with_one_less_sent ≡ false
unfolding opened_messages
highest_number_with_one_less_sent_is_unsound = messages_unsound highest_number_with_one_less_sent refl

-- "Sound pairs have unread numbers rising within 1 to the count sent." (paper 02, change 4)
abbrev pub number_zero : State
number_zero = changed everything (sent 3 5 4 ∷ numbered 3 5 2 60 0 ∷ [])

pub number_zero_is_unsound : sound number_zero ≡ false
unfolding opened_messages
number_zero_is_unsound = messages_unsound number_zero refl

-- "Sound pairs have unread numbers rising within 1 to the count sent." (paper 02, change 4)
abbrev pub number_zero_with_nothing_sent : State
number_zero_with_nothing_sent = changed everything (numbered 3 5 2 60 0 ∷ [])

pub number_zero_with_nothing_sent_is_unsound : sound number_zero_with_nothing_sent ≡ false
unfolding opened_messages
number_zero_with_nothing_sent_is_unsound = messages_unsound number_zero_with_nothing_sent refl

-- "Sound pairs have unread numbers rising within 1 to the count sent." (paper 02, change 4)
abbrev pub number_zero_with_all_sent : State
number_zero_with_all_sent = changed everything (sent 3 5 4294967295 ∷ numbered 3 5 2 60 0 ∷ [])

pub number_zero_with_all_sent_is_unsound : sound number_zero_with_all_sent ≡ false
unfolding opened_messages
number_zero_with_all_sent_is_unsound = messages_unsound number_zero_with_all_sent refl

-- "Sound pairs have unread numbers rising within 1 to the count sent." (paper 02, change 4)
abbrev pub count_sent_below_the_unread : State
count_sent_below_the_unread = changed everything (message 3 5 2 60 ∷ message 3 5 2 61 ∷ sent 3 5 1 ∷ [])

pub count_sent_below_the_unread_is_unsound : sound count_sent_below_the_unread ≡ false
unfolding opened_messages
count_sent_below_the_unread_is_unsound = messages_unsound count_sent_below_the_unread refl

-- "Sound pairs have unread numbers rising within 1 to the count sent." (paper 02, change 4)
abbrev pub count_sent_forgotten : State
count_sent_forgotten = changed everything (sent 0 1 0 ∷ [])

pub count_sent_forgotten_is_unsound : sound count_sent_forgotten ≡ false
unfolding opened_messages
count_sent_forgotten_is_unsound = messages_unsound count_sent_forgotten refl

-- "Sound pairs have unread numbers rising within 1 to the count sent." (paper 02, change 4)
abbrev pub number_within_the_count_of_the_other_direction : State
number_within_the_count_of_the_other_direction = changed everything (sent 3 5 1 ∷ sent 5 3 9 ∷ numbered 3 5 2 60 2 ∷ [])

pub number_within_the_count_of_the_other_direction_is_unsound : sound number_within_the_count_of_the_other_direction ≡ false
unfolding opened_messages
number_within_the_count_of_the_other_direction_is_unsound = messages_unsound number_within_the_count_of_the_other_direction refl

-- "Sound pairs have unread numbers rising within 1 to the count sent." (paper 02, change 4)
abbrev pub number_within_the_count_of_another_receiver : State
number_within_the_count_of_another_receiver = changed everything (sent 3 5 1 ∷ sent 3 0 9 ∷ numbered 3 5 2 60 2 ∷ [])

pub number_within_the_count_of_another_receiver_is_unsound : sound number_within_the_count_of_another_receiver ≡ false
unfolding opened_messages
number_within_the_count_of_another_receiver_is_unsound = messages_unsound number_within_the_count_of_another_receiver refl

-- "Sound pairs have unread numbers rising within 1 to the count sent." (paper 02, change 4)
abbrev pub number_repeated_between_the_last_ranks : State
number_repeated_between_the_last_ranks =
    changed everything
    (drawn 7 2 ∷ running 14 7 1 ∷ tables 14 7 1 ∷ running 15 7 2 ∷ tables 15 7 2 ∷ sent 14 15 9 ∷ numbered 14 15 2 60 4 ∷
    numbered 14 15 2 61 4 ∷ [])

pub number_repeated_between_the_last_ranks_is_unsound : sound number_repeated_between_the_last_ranks ≡ false
unfolding opened_messages
number_repeated_between_the_last_ranks_is_unsound = messages_unsound number_repeated_between_the_last_ranks refl

-- "Sound pairs have unread numbers rising within 1 to the count sent." (paper 02, change 4)
abbrev pub number_above_the_count_sent_between_the_last_ranks : State
number_above_the_count_sent_between_the_last_ranks =
    changed everything
    (drawn 7 2 ∷ running 14 7 1 ∷ tables 14 7 1 ∷ running 15 7 2 ∷ tables 15 7 2 ∷ sent 15 14 4 ∷ sent 14 15 9 ∷ numbered 15 14 2 60 5 ∷ [])

pub number_above_the_count_sent_between_the_last_ranks_is_unsound : sound number_above_the_count_sent_between_the_last_ranks ≡ false
unfolding opened_messages
number_above_the_count_sent_between_the_last_ranks_is_unsound = messages_unsound number_above_the_count_sent_between_the_last_ranks refl

-- "Sound pairs have unread numbers rising within 1 to the count sent." (paper 02, change 4)
abbrev pub numbers_between_the_first_and_the_last_rank : State
numbers_between_the_first_and_the_last_rank =
    changed everything
    (fresh ∷ drawn 0 2 ∷ drawn 7 2 ∷ running 0 0 1 ∷ tables 0 0 1 ∷ running 15 7 1 ∷ tables 15 7 1 ∷ sent 0 15 9 ∷ sent 15 0 9 ∷
    numbered 0 15 2 60 1 ∷ numbered 15 0 2 61 4 ∷ numbered 0 15 2 62 9 ∷ numbered 15 0 2 63 9 ∷ [])

pub numbers_between_the_first_and_the_last_rank_is_sound : sound numbers_between_the_first_and_the_last_rank ≡ true
unfolding opened_sound
numbers_between_the_first_and_the_last_rank_is_sound = refl

-- "Sound pairs have unread numbers rising within 1 to the count sent." (paper 02, change 4)
abbrev pub number_repeated_from_the_first_rank_to_the_last : State
number_repeated_from_the_first_rank_to_the_last =
    changed everything
    (fresh ∷ drawn 0 2 ∷ drawn 7 2 ∷ running 0 0 1 ∷ tables 0 0 1 ∷ running 15 7 1 ∷ tables 15 7 1 ∷ sent 0 15 9 ∷ numbered 0 15 2 60 4 ∷
    numbered 0 15 2 61 4 ∷ [])

pub number_repeated_from_the_first_rank_to_the_last_is_unsound : sound number_repeated_from_the_first_rank_to_the_last ≡ false
unfolding opened_messages
number_repeated_from_the_first_rank_to_the_last_is_unsound = messages_unsound number_repeated_from_the_first_rank_to_the_last refl

-- "Sound pairs have unread numbers rising within 1 to the count sent." (paper 02, change 4)
abbrev pub number_falls_from_the_last_rank_to_the_first : State
number_falls_from_the_last_rank_to_the_first =
    changed everything
    (fresh ∷ drawn 0 2 ∷ drawn 7 2 ∷ running 0 0 1 ∷ tables 0 0 1 ∷ running 15 7 1 ∷ tables 15 7 1 ∷ sent 15 0 9 ∷ numbered 15 0 2 60 4 ∷
    numbered 15 0 2 61 3 ∷ [])

pub number_falls_from_the_last_rank_to_the_first_is_unsound : sound number_falls_from_the_last_rank_to_the_first ≡ false
unfolding opened_messages
number_falls_from_the_last_rank_to_the_first_is_unsound = messages_unsound number_falls_from_the_last_rank_to_the_first refl

-- "Sound pairs have unread numbers rising within 1 to the count sent." (paper 02, change 4)
abbrev pub number_above_the_count_sent_from_the_first_rank : State
number_above_the_count_sent_from_the_first_rank =
    changed everything
    (fresh ∷ drawn 0 2 ∷ drawn 7 2 ∷ running 0 0 1 ∷ tables 0 0 1 ∷ running 15 7 1 ∷ tables 15 7 1 ∷ sent 0 15 4 ∷ sent 15 0 9 ∷
    numbered 0 15 2 60 5 ∷ [])

pub number_above_the_count_sent_from_the_first_rank_is_unsound : sound number_above_the_count_sent_from_the_first_rank ≡ false
unfolding opened_messages
number_above_the_count_sent_from_the_first_rank_is_unsound = messages_unsound number_above_the_count_sent_from_the_first_rank refl

-- "Sound pairs have unread numbers rising within 1 to the count sent." (paper 02, change 4)
abbrev pub number_above_the_count_sent_from_the_last_rank : State
number_above_the_count_sent_from_the_last_rank =
    changed everything
    (fresh ∷ drawn 0 2 ∷ drawn 7 2 ∷ running 0 0 1 ∷ tables 0 0 1 ∷ running 15 7 1 ∷ tables 15 7 1 ∷ sent 0 15 9 ∷ sent 15 0 4 ∷
    numbered 15 0 2 60 5 ∷ [])

pub number_above_the_count_sent_from_the_last_rank_is_unsound : sound number_above_the_count_sent_from_the_last_rank ≡ false
unfolding opened_messages
number_above_the_count_sent_from_the_last_rank_is_unsound = messages_unsound number_above_the_count_sent_from_the_last_rank refl

-- "Sound pairs have unread numbers rising within 1 to the count sent." (paper 02, change 4)
abbrev pub number_zero_from_the_first_rank_to_the_last : State
number_zero_from_the_first_rank_to_the_last =
    changed everything
    (fresh ∷ drawn 0 2 ∷ drawn 7 2 ∷ running 0 0 1 ∷ tables 0 0 1 ∷ running 15 7 1 ∷ tables 15 7 1 ∷ sent 0 15 4 ∷ numbered 0 15 2 60 0 ∷
    [])

pub number_zero_from_the_first_rank_to_the_last_is_unsound : sound number_zero_from_the_first_rank_to_the_last ≡ false
unfolding opened_messages
number_zero_from_the_first_rank_to_the_last_is_unsound = messages_unsound number_zero_from_the_first_rank_to_the_last refl

-- "Sound pairs have unread numbers rising within 1 to the count sent." (paper 02, change 4)
abbrev pub number_zero_from_the_last_rank_to_the_first : State
number_zero_from_the_last_rank_to_the_first =
    changed everything
    (fresh ∷ drawn 0 2 ∷ drawn 7 2 ∷ running 0 0 1 ∷ tables 0 0 1 ∷ running 15 7 1 ∷ tables 15 7 1 ∷ sent 15 0 4 ∷ numbered 15 0 2 60 0 ∷
    [])

pub number_zero_from_the_last_rank_to_the_first_is_unsound : sound number_zero_from_the_last_rank_to_the_first ≡ false
unfolding opened_messages
number_zero_from_the_last_rank_to_the_first_is_unsound = messages_unsound number_zero_from_the_last_rank_to_the_first refl

-- "Sound pairs have unread numbers rising within 1 to the count sent." (paper 02, change 4)
abbrev pub first_number_zero : State
first_number_zero = changed everything (sent 3 5 9 ∷ numbered 3 5 2 60 0 ∷ numbered 3 5 2 61 1 ∷ numbered 3 5 2 62 2 ∷ [])

pub first_number_zero_is_unsound : sound first_number_zero ≡ false
unfolding opened_messages
first_number_zero_is_unsound = messages_unsound first_number_zero refl

-- "Sound pairs have unread numbers rising within 1 to the count sent." (paper 02, change 4)
abbrev pub first_message_with_number_zero : State
first_message_with_number_zero =
    changed everything
    (fresh ∷ drawn 0 2 ∷ running 0 0 1 ∷ tables 0 0 1 ∷ running 1 0 2 ∷ tables 1 0 2 ∷ sent 0 1 9 ∷ numbered 0 1 2 60 0 ∷
    numbered 0 1 2 61 1 ∷ [])

pub first_message_with_number_zero_is_unsound : sound first_message_with_number_zero ≡ false
unfolding opened_messages
first_message_with_number_zero_is_unsound = messages_unsound first_message_with_number_zero refl

-- "Sound pairs have unread numbers rising within 1 to the count sent." (paper 02, change 4)
abbrev pub first_message_above_the_count_sent : State
first_message_above_the_count_sent =
    changed everything
    (fresh ∷ drawn 0 2 ∷ running 0 0 1 ∷ tables 0 0 1 ∷ running 1 0 2 ∷ tables 1 0 2 ∷ sent 0 1 4 ∷ numbered 0 1 2 60 5 ∷ message 1 0 2 61 ∷
    [])

pub first_message_above_the_count_sent_is_unsound : sound first_message_above_the_count_sent ≡ false
unfolding opened_messages
first_message_above_the_count_sent_is_unsound = messages_unsound first_message_above_the_count_sent refl
