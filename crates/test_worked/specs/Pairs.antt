-- The states of crates/test_spoiled/stdin, section Pairs, and of each the theorem that it is sound or unsound.
-- Written from that list by the Rust tests. Assumes nothing.
use Rattle.std.specs.Prelude.{◌≡◌, refl, true, false, [], ◌∷◌}
use Rattle.protocol.specs.Laws.Opened.{opened_pairs, opened_sound}
use Rattle.protocol.specs.Sound.{sound}
use Rattle.broker.specs.State.{State}
use Rattle.test_worked.specs.Unsound.{pairs_unsound}
use Rattle.test_worked.specs.Whole.{everything}
use Rattle.test_worked.specs.Words.{changed, fresh, running, moving, ended, drawn, tables, call, plain, notice, unheeded, marked}

-- "Nobody has a line .. with itself."
abbrev pub line_with_itself : State
line_with_itself = changed everything (plain 0 0 ∷ [])

pub line_with_itself_is_unsound : sound line_with_itself ≡ false
unfolding opened_pairs
line_with_itself_is_unsound = pairs_unsound line_with_itself refl

-- "Nobody has a line .. with itself."
abbrev pub line_of_an_arrival_with_itself : State
line_of_an_arrival_with_itself = changed everything (plain 6 6 ∷ [])

pub line_of_an_arrival_with_itself_is_unsound : sound line_of_an_arrival_with_itself ≡ false
unfolding opened_pairs
line_of_an_arrival_with_itself_is_unsound = pairs_unsound line_of_an_arrival_with_itself refl

-- "Nobody has a line .. with itself."
abbrev pub line_of_the_last_rank_with_itself : State
line_of_the_last_rank_with_itself = changed everything (drawn 7 1 ∷ running 15 7 1 ∷ tables 15 7 1 ∷ plain 15 15 ∷ [])

pub line_of_the_last_rank_with_itself_is_unsound : sound line_of_the_last_rank_with_itself ≡ false
unfolding opened_pairs
line_of_the_last_rank_with_itself_is_unsound = pairs_unsound line_of_the_last_rank_with_itself refl

-- "Nobody has a[n] .. await .. with itself."
abbrev pub await_of_itself : State
await_of_itself = changed everything (marked 1 1 ∷ [])

pub await_of_itself_is_unsound : sound await_of_itself ≡ false
unfolding opened_pairs
await_of_itself_is_unsound = pairs_unsound await_of_itself refl

-- "Nobody has a[n] .. await .. with itself."
abbrev pub await_of_the_first_rank_of_itself : State
await_of_the_first_rank_of_itself = changed everything (drawn 7 1 ∷ moving 0 0 1 7 1 ∷ marked 0 0 ∷ [])

pub await_of_the_first_rank_of_itself_is_unsound : sound await_of_the_first_rank_of_itself ≡ false
unfolding opened_pairs
await_of_the_first_rank_of_itself_is_unsound = pairs_unsound await_of_the_first_rank_of_itself refl

-- "Nobody has a[n] .. await .. with itself."
abbrev pub await_of_the_last_rank_of_itself : State
await_of_the_last_rank_of_itself = changed everything (drawn 7 2 ∷ moving 15 7 1 7 2 ∷ tables 15 7 1 ∷ marked 15 15 ∷ [])

pub await_of_the_last_rank_of_itself_is_unsound : sound await_of_the_last_rank_of_itself ≡ false
unfolding opened_pairs
await_of_the_last_rank_of_itself_is_unsound = pairs_unsound await_of_the_last_rank_of_itself refl

-- "Nobody has a .. call .. with itself."
abbrev pub call_to_itself : State
call_to_itself = changed everything (call 5 5 0 2 ∷ [])

pub call_to_itself_is_unsound : sound call_to_itself ≡ false
unfolding opened_pairs
call_to_itself_is_unsound = pairs_unsound call_to_itself refl

-- "Nobody has a .. call .. with itself."
abbrev pub call_of_the_first_rank_to_itself : State
call_of_the_first_rank_to_itself = changed everything (call 0 0 0 1 ∷ [])

pub call_of_the_first_rank_to_itself_is_unsound : sound call_of_the_first_rank_to_itself ≡ false
unfolding opened_pairs
call_of_the_first_rank_to_itself_is_unsound = pairs_unsound call_of_the_first_rank_to_itself refl

-- "Nobody has a .. call .. with itself."
abbrev pub call_of_the_last_rank_to_itself : State
call_of_the_last_rank_to_itself = changed everything (drawn 7 1 ∷ running 15 7 1 ∷ tables 15 7 1 ∷ call 15 15 7 1 ∷ [])

pub call_of_the_last_rank_to_itself_is_unsound : sound call_of_the_last_rank_to_itself ≡ false
unfolding opened_pairs
call_of_the_last_rank_to_itself_is_unsound = pairs_unsound call_of_the_last_rank_to_itself refl

-- "Lines belong to running or moving ranks"
abbrev pub plain_line_of_running_ranks : State
plain_line_of_running_ranks = changed everything (plain 3 5 ∷ plain 5 3 ∷ [])

pub plain_line_of_running_ranks_is_sound : sound plain_line_of_running_ranks ≡ true
unfolding opened_sound
plain_line_of_running_ranks_is_sound = refl

-- "Lines belong to running or moving ranks"
abbrev pub plain_line_of_a_running_and_a_moving_rank : State
plain_line_of_a_running_and_a_moving_rank = changed everything (plain 5 6 ∷ plain 6 5 ∷ [])

pub plain_line_of_a_running_and_a_moving_rank_is_sound : sound plain_line_of_a_running_and_a_moving_rank ≡ true
unfolding opened_sound
plain_line_of_a_running_and_a_moving_rank_is_sound = refl

-- "Lines belong to running or moving ranks"
abbrev pub plain_line_of_moving_ranks : State
plain_line_of_moving_ranks = changed everything (plain 1 6 ∷ plain 6 1 ∷ [])

pub plain_line_of_moving_ranks_is_sound : sound plain_line_of_moving_ranks ≡ true
unfolding opened_sound
plain_line_of_moving_ranks_is_sound = refl

-- "Lines belong to running or moving ranks"
abbrev pub notice_line_of_a_moving_rank : State
notice_line_of_a_moving_rank = changed everything (notice 6 1 ∷ unheeded 1 6 ∷ [])

pub notice_line_of_a_moving_rank_is_sound : sound notice_line_of_a_moving_rank ≡ true
unfolding opened_sound
notice_line_of_a_moving_rank_is_sound = refl

-- "Lines belong to running or moving ranks"
abbrev pub plain_line_of_an_ended_rank : State
plain_line_of_an_ended_rank = changed everything (plain 4 0 ∷ plain 0 4 ∷ [])

pub plain_line_of_an_ended_rank_is_unsound : sound plain_line_of_an_ended_rank ≡ false
unfolding opened_pairs
plain_line_of_an_ended_rank_is_unsound = pairs_unsound plain_line_of_an_ended_rank refl

-- "Lines belong to running or moving ranks"
abbrev pub plain_line_of_an_unstarted_rank : State
plain_line_of_an_unstarted_rank = changed everything (plain 14 0 ∷ plain 0 14 ∷ [])

pub plain_line_of_an_unstarted_rank_is_unsound : sound plain_line_of_an_unstarted_rank ≡ false
unfolding opened_pairs
plain_line_of_an_unstarted_rank_is_unsound = pairs_unsound plain_line_of_an_unstarted_rank refl

-- "Lines belong to running or moving ranks"
abbrev pub plain_line_of_the_last_rank_unstarted : State
plain_line_of_the_last_rank_unstarted = changed everything (plain 15 0 ∷ plain 0 15 ∷ [])

pub plain_line_of_the_last_rank_unstarted_is_unsound : sound plain_line_of_the_last_rank_unstarted ≡ false
unfolding opened_pairs
plain_line_of_the_last_rank_unstarted_is_unsound = pairs_unsound plain_line_of_the_last_rank_unstarted refl

-- "Lines belong to running or moving ranks"
abbrev pub plain_line_of_an_ended_rank_to_the_last : State
plain_line_of_an_ended_rank_to_the_last = changed everything (drawn 7 1 ∷ running 15 7 1 ∷ tables 15 7 1 ∷ plain 4 15 ∷ plain 15 4 ∷ [])

pub plain_line_of_an_ended_rank_to_the_last_is_unsound : sound plain_line_of_an_ended_rank_to_the_last ≡ false
unfolding opened_pairs
plain_line_of_an_ended_rank_to_the_last_is_unsound = pairs_unsound plain_line_of_an_ended_rank_to_the_last refl

-- "Lines belong to running or moving ranks"
abbrev pub notice_line_of_an_ended_rank : State
notice_line_of_an_ended_rank = changed everything (notice 4 1 ∷ unheeded 1 4 ∷ [])

pub notice_line_of_an_ended_rank_is_unsound : sound notice_line_of_an_ended_rank ≡ false
unfolding opened_pairs
notice_line_of_an_ended_rank_is_unsound = pairs_unsound notice_line_of_an_ended_rank refl

-- "Lines belong to running or moving ranks"
abbrev pub notice_line_of_an_ended_rank_to_a_higher : State
notice_line_of_an_ended_rank_to_a_higher = changed everything (notice 4 6 ∷ unheeded 6 4 ∷ [])

pub notice_line_of_an_ended_rank_to_a_higher_is_unsound : sound notice_line_of_an_ended_rank_to_a_higher ≡ false
unfolding opened_pairs
notice_line_of_an_ended_rank_to_a_higher_is_unsound = pairs_unsound notice_line_of_an_ended_rank_to_a_higher refl

-- "Lines belong to running or moving ranks"
abbrev pub notice_line_of_an_unstarted_rank : State
notice_line_of_an_unstarted_rank = changed everything (notice 14 1 ∷ unheeded 1 14 ∷ [])

pub notice_line_of_an_unstarted_rank_is_unsound : sound notice_line_of_an_unstarted_rank ≡ false
unfolding opened_pairs
notice_line_of_an_unstarted_rank_is_unsound = pairs_unsound notice_line_of_an_unstarted_rank refl

-- "Lines belong to running or moving ranks"
abbrev pub plain_line_of_the_first_and_the_last_rank : State
plain_line_of_the_first_and_the_last_rank =
    changed everything
    (fresh ∷ drawn 0 2 ∷ drawn 7 2 ∷ running 0 0 1 ∷ tables 0 0 1 ∷ running 15 7 1 ∷ tables 15 7 1 ∷ plain 0 15 ∷ plain 15 0 ∷ [])

pub plain_line_of_the_first_and_the_last_rank_is_sound : sound plain_line_of_the_first_and_the_last_rank ≡ true
unfolding opened_sound
plain_line_of_the_first_and_the_last_rank_is_sound = refl

-- "Lines belong to running or moving ranks"
abbrev pub plain_line_of_the_first_rank_ended : State
plain_line_of_the_first_rank_ended =
    changed everything
    (fresh ∷ drawn 0 2 ∷ drawn 7 2 ∷ running 0 0 1 ∷ tables 0 0 1 ∷ running 15 7 1 ∷ tables 15 7 1 ∷ plain 0 15 ∷ plain 15 0 ∷ ended 0 0 1 ∷
    [])

pub plain_line_of_the_first_rank_ended_is_unsound : sound plain_line_of_the_first_rank_ended ≡ false
unfolding opened_pairs
plain_line_of_the_first_rank_ended_is_unsound = pairs_unsound plain_line_of_the_first_rank_ended refl

-- "plain stands on both sides or neither"
abbrev pub plain_on_one_side : State
plain_on_one_side = changed everything (plain 0 5 ∷ [])

pub plain_on_one_side_is_unsound : sound plain_on_one_side ≡ false
unfolding opened_pairs
plain_on_one_side_is_unsound = pairs_unsound plain_on_one_side refl

-- "plain stands on both sides or neither"
abbrev pub plain_on_the_other_side : State
plain_on_the_other_side = changed everything (plain 5 0 ∷ [])

pub plain_on_the_other_side_is_unsound : sound plain_on_the_other_side ≡ false
unfolding opened_pairs
plain_on_the_other_side_is_unsound = pairs_unsound plain_on_the_other_side refl

-- "plain stands on both sides or neither"
abbrev pub plain_on_the_side_of_a_moving_rank : State
plain_on_the_side_of_a_moving_rank = changed everything (plain 6 5 ∷ [])

pub plain_on_the_side_of_a_moving_rank_is_unsound : sound plain_on_the_side_of_a_moving_rank ≡ false
unfolding opened_pairs
plain_on_the_side_of_a_moving_rank_is_unsound = pairs_unsound plain_on_the_side_of_a_moving_rank refl

-- "plain stands on both sides or neither"
abbrev pub plain_on_the_side_of_the_last_rank : State
plain_on_the_side_of_the_last_rank = changed everything (drawn 7 1 ∷ running 15 7 1 ∷ tables 15 7 1 ∷ plain 15 5 ∷ [])

pub plain_on_the_side_of_the_last_rank_is_unsound : sound plain_on_the_side_of_the_last_rank ≡ false
unfolding opened_pairs
plain_on_the_side_of_the_last_rank_is_unsound = pairs_unsound plain_on_the_side_of_the_last_rank refl

-- "plain stands on both sides or neither"
abbrev pub plain_on_the_side_towards_the_last_rank : State
plain_on_the_side_towards_the_last_rank = changed everything (drawn 7 1 ∷ running 15 7 1 ∷ tables 15 7 1 ∷ plain 5 15 ∷ [])

pub plain_on_the_side_towards_the_last_rank_is_unsound : sound plain_on_the_side_towards_the_last_rank ≡ false
unfolding opened_pairs
plain_on_the_side_towards_the_last_rank_is_unsound = pairs_unsound plain_on_the_side_towards_the_last_rank refl

-- "plain stands on both sides or neither"
abbrev pub plain_on_the_side_of_the_first_rank_towards_the_last : State
plain_on_the_side_of_the_first_rank_towards_the_last = changed everything (drawn 7 1 ∷ running 15 7 1 ∷ tables 15 7 1 ∷ plain 0 15 ∷ [])

pub plain_on_the_side_of_the_first_rank_towards_the_last_is_unsound : sound plain_on_the_side_of_the_first_rank_towards_the_last ≡ false
unfolding opened_pairs
plain_on_the_side_of_the_first_rank_towards_the_last_is_unsound = pairs_unsound plain_on_the_side_of_the_first_rank_towards_the_last refl

-- "plain stands on both sides or neither"
abbrev pub plain_on_the_side_of_the_last_rank_towards_the_first : State
plain_on_the_side_of_the_last_rank_towards_the_first = changed everything (drawn 7 1 ∷ running 15 7 1 ∷ tables 15 7 1 ∷ plain 15 0 ∷ [])

pub plain_on_the_side_of_the_last_rank_towards_the_first_is_unsound : sound plain_on_the_side_of_the_last_rank_towards_the_first ≡ false
unfolding opened_pairs
plain_on_the_side_of_the_last_rank_towards_the_first_is_unsound = pairs_unsound plain_on_the_side_of_the_last_rank_towards_the_first refl

-- "a notice faces none"
abbrev pub notice_faces_plain : State
notice_faces_plain = changed everything (plain 1 0 ∷ [])

pub notice_faces_plain_is_unsound : sound notice_faces_plain ≡ false
unfolding opened_pairs
notice_faces_plain_is_unsound = pairs_unsound notice_faces_plain refl

-- "a notice faces none"
abbrev pub notice_faces_notice : State
notice_faces_notice = changed everything (notice 6 1 ∷ unheeded 1 6 ∷ notice 1 6 ∷ unheeded 6 1 ∷ [])

pub notice_faces_notice_is_unsound : sound notice_faces_notice ≡ false
unfolding opened_pairs
notice_faces_notice_is_unsound = pairs_unsound notice_faces_notice refl

-- "a notice faces none"
abbrev pub notice_faces_notice_of_the_last_rank : State
notice_faces_notice_of_the_last_rank =
    changed everything
    (drawn 7 2 ∷ moving 15 7 1 7 2 ∷ tables 15 7 1 ∷ notice 15 6 ∷ unheeded 6 15 ∷ notice 6 15 ∷ unheeded 15 6 ∷ [])

pub notice_faces_notice_of_the_last_rank_is_unsound : sound notice_faces_notice_of_the_last_rank ≡ false
unfolding opened_pairs
notice_faces_notice_of_the_last_rank_is_unsound = pairs_unsound notice_faces_notice_of_the_last_rank refl

-- "a notice faces none"
abbrev pub notice_faces_notice_of_the_first_and_the_last_rank : State
notice_faces_notice_of_the_first_and_the_last_rank =
    changed everything
    (drawn 7 3 ∷ moving 0 0 1 7 1 ∷ moving 15 7 2 7 3 ∷ tables 15 7 2 ∷ notice 0 15 ∷ unheeded 15 0 ∷ notice 15 0 ∷ unheeded 0 15 ∷ [])

pub notice_faces_notice_of_the_first_and_the_last_rank_is_unsound : sound notice_faces_notice_of_the_first_and_the_last_rank ≡ false
unfolding opened_pairs
notice_faces_notice_of_the_first_and_the_last_rank_is_unsound = pairs_unsound notice_faces_notice_of_the_first_and_the_last_rank refl

-- "Awaits belong to moving ranks"
abbrev pub marked_await_of_a_running_rank : State
marked_await_of_a_running_rank = changed everything (marked 0 2 ∷ [])

pub marked_await_of_a_running_rank_is_unsound : sound marked_await_of_a_running_rank ≡ false
unfolding opened_pairs
marked_await_of_a_running_rank_is_unsound = pairs_unsound marked_await_of_a_running_rank refl

-- "Awaits belong to moving ranks"
abbrev pub marked_await_of_an_ended_rank : State
marked_await_of_an_ended_rank = changed everything (marked 4 0 ∷ [])

pub marked_await_of_an_ended_rank_is_unsound : sound marked_await_of_an_ended_rank ≡ false
unfolding opened_pairs
marked_await_of_an_ended_rank_is_unsound = pairs_unsound marked_await_of_an_ended_rank refl

-- "Awaits belong to moving ranks"
abbrev pub marked_await_of_an_unstarted_rank : State
marked_await_of_an_unstarted_rank = changed everything (marked 14 0 ∷ [])

pub marked_await_of_an_unstarted_rank_is_unsound : sound marked_await_of_an_unstarted_rank ≡ false
unfolding opened_pairs
marked_await_of_an_unstarted_rank_is_unsound = pairs_unsound marked_await_of_an_unstarted_rank refl

-- "Awaits belong to moving ranks"
abbrev pub marked_await_of_the_last_rank : State
marked_await_of_the_last_rank = changed everything (marked 15 0 ∷ [])

pub marked_await_of_the_last_rank_is_unsound : sound marked_await_of_the_last_rank ≡ false
unfolding opened_pairs
marked_await_of_the_last_rank_is_unsound = pairs_unsound marked_await_of_the_last_rank refl

-- "Awaits belong to moving ranks"
abbrev pub unheeded_await_of_a_running_rank : State
unheeded_await_of_a_running_rank = changed everything (unheeded 3 5 ∷ notice 5 3 ∷ [])

pub unheeded_await_of_a_running_rank_is_unsound : sound unheeded_await_of_a_running_rank ≡ false
unfolding opened_pairs
unheeded_await_of_a_running_rank_is_unsound = pairs_unsound unheeded_await_of_a_running_rank refl

-- "Awaits belong to moving ranks"
abbrev pub unheeded_await_of_an_ended_rank : State
unheeded_await_of_an_ended_rank = changed everything (unheeded 4 5 ∷ notice 5 4 ∷ [])

pub unheeded_await_of_an_ended_rank_is_unsound : sound unheeded_await_of_an_ended_rank ≡ false
unfolding opened_pairs
unheeded_await_of_an_ended_rank_is_unsound = pairs_unsound unheeded_await_of_an_ended_rank refl

-- "Awaits belong to moving ranks"
abbrev pub unheeded_await_of_an_unstarted_rank : State
unheeded_await_of_an_unstarted_rank = changed everything (unheeded 14 5 ∷ notice 5 14 ∷ [])

pub unheeded_await_of_an_unstarted_rank_is_unsound : sound unheeded_await_of_an_unstarted_rank ≡ false
unfolding opened_pairs
unheeded_await_of_an_unstarted_rank_is_unsound = pairs_unsound unheeded_await_of_an_unstarted_rank refl

-- "Awaits belong to moving ranks"
abbrev pub marked_await_of_the_first_rank_from_the_last : State
marked_await_of_the_first_rank_from_the_last = changed everything (drawn 7 1 ∷ running 15 7 1 ∷ tables 15 7 1 ∷ marked 0 15 ∷ [])

pub marked_await_of_the_first_rank_from_the_last_is_unsound : sound marked_await_of_the_first_rank_from_the_last ≡ false
unfolding opened_pairs
marked_await_of_the_first_rank_from_the_last_is_unsound = pairs_unsound marked_await_of_the_first_rank_from_the_last refl

-- "[Awaits] .. from started ranks"
abbrev pub marked_await_from_a_running_rank : State
marked_await_from_a_running_rank = changed everything (marked 6 5 ∷ [])

pub marked_await_from_a_running_rank_is_sound : sound marked_await_from_a_running_rank ≡ true
unfolding opened_sound
marked_await_from_a_running_rank_is_sound = refl

-- "[Awaits] .. from started ranks"
abbrev pub marked_awaits_from_each_other : State
marked_awaits_from_each_other = changed everything (marked 1 6 ∷ marked 6 1 ∷ [])

pub marked_awaits_from_each_other_is_sound : sound marked_awaits_from_each_other ≡ true
unfolding opened_sound
marked_awaits_from_each_other_is_sound = refl

-- "[Awaits] .. from started ranks"
abbrev pub marked_await_from_an_ended_rank : State
marked_await_from_an_ended_rank = changed everything (marked 1 4 ∷ [])

pub marked_await_from_an_ended_rank_is_sound : sound marked_await_from_an_ended_rank ≡ true
unfolding opened_sound
marked_await_from_an_ended_rank_is_sound = refl

-- "[Awaits] .. from started ranks"
abbrev pub marked_await_from_an_unstarted_rank : State
marked_await_from_an_unstarted_rank = changed everything (marked 1 14 ∷ [])

pub marked_await_from_an_unstarted_rank_is_unsound : sound marked_await_from_an_unstarted_rank ≡ false
unfolding opened_pairs
marked_await_from_an_unstarted_rank_is_unsound = pairs_unsound marked_await_from_an_unstarted_rank refl

-- "[Awaits] .. from started ranks"
abbrev pub marked_await_from_the_last_rank : State
marked_await_from_the_last_rank = changed everything (marked 6 15 ∷ [])

pub marked_await_from_the_last_rank_is_unsound : sound marked_await_from_the_last_rank ≡ false
unfolding opened_pairs
marked_await_from_the_last_rank_is_unsound = pairs_unsound marked_await_from_the_last_rank refl

-- "[Awaits] .. from started ranks"
abbrev pub marked_awaits_of_the_first_and_the_last_rank : State
marked_awaits_of_the_first_and_the_last_rank =
    changed everything
    (drawn 7 3 ∷ moving 0 0 1 7 1 ∷ moving 15 7 2 7 3 ∷ tables 15 7 2 ∷ marked 0 15 ∷ marked 15 0 ∷ [])

pub marked_awaits_of_the_first_and_the_last_rank_is_sound : sound marked_awaits_of_the_first_and_the_last_rank ≡ true
unfolding opened_sound
marked_awaits_of_the_first_and_the_last_rank_is_sound = refl

-- "[Awaits] .. from started ranks"
abbrev pub await_of_the_first_rank_from_the_last_unstarted : State
await_of_the_first_rank_from_the_last_unstarted = changed everything (drawn 7 1 ∷ moving 0 0 1 7 1 ∷ marked 0 15 ∷ [])

pub await_of_the_first_rank_from_the_last_unstarted_is_unsound : sound await_of_the_first_rank_from_the_last_unstarted ≡ false
unfolding opened_pairs
await_of_the_first_rank_from_the_last_unstarted_is_unsound = pairs_unsound await_of_the_first_rank_from_the_last_unstarted refl

-- "[Awaits] .. from started ranks"
abbrev pub await_of_the_last_rank_from_the_first_unstarted : State
await_of_the_last_rank_from_the_first_unstarted =
    changed everything
    (fresh ∷ drawn 7 2 ∷ moving 15 7 1 7 2 ∷ tables 15 7 1 ∷ marked 15 0 ∷ [])

pub await_of_the_last_rank_from_the_first_unstarted_is_unsound : sound await_of_the_last_rank_from_the_first_unstarted ≡ false
unfolding opened_pairs
await_of_the_last_rank_from_the_first_unstarted_is_unsound = pairs_unsound await_of_the_last_rank_from_the_first_unstarted refl

-- "r's await of s is unheeded exactly when s's line to r is notice"
abbrev pub unheeded_without_a_line : State
unheeded_without_a_line = changed everything (unheeded 1 3 ∷ [])

pub unheeded_without_a_line_is_unsound : sound unheeded_without_a_line ≡ false
unfolding opened_pairs
unheeded_without_a_line_is_unsound = pairs_unsound unheeded_without_a_line refl

-- "r's await of s is unheeded exactly when s's line to r is notice"
abbrev pub unheeded_with_a_plain_line : State
unheeded_with_a_plain_line = changed everything (plain 5 6 ∷ plain 6 5 ∷ unheeded 6 5 ∷ [])

pub unheeded_with_a_plain_line_is_unsound : sound unheeded_with_a_plain_line ≡ false
unfolding opened_pairs
unheeded_with_a_plain_line_is_unsound = pairs_unsound unheeded_with_a_plain_line refl

-- "r's await of s is unheeded exactly when s's line to r is notice"
abbrev pub notice_without_an_await : State
notice_without_an_await = changed everything (notice 3 1 ∷ [])

pub notice_without_an_await_is_unsound : sound notice_without_an_await ≡ false
unfolding opened_pairs
notice_without_an_await_is_unsound = pairs_unsound notice_without_an_await refl

-- "r's await of s is unheeded exactly when s's line to r is notice"
abbrev pub notice_to_a_running_rank : State
notice_to_a_running_rank = changed everything (notice 3 5 ∷ [])

pub notice_to_a_running_rank_is_unsound : sound notice_to_a_running_rank ≡ false
unfolding opened_pairs
notice_to_a_running_rank_is_unsound = pairs_unsound notice_to_a_running_rank refl

-- "r's await of s is unheeded exactly when s's line to r is notice"
abbrev pub notice_with_a_marked_await : State
notice_with_a_marked_await = changed everything (marked 1 0 ∷ [])

pub notice_with_a_marked_await_is_unsound : sound notice_with_a_marked_await ≡ false
unfolding opened_pairs
notice_with_a_marked_await_is_unsound = pairs_unsound notice_with_a_marked_await refl

-- "r's await of s is unheeded exactly when s's line to r is notice"
abbrev pub unheeded_without_a_line_of_the_last_rank : State
unheeded_without_a_line_of_the_last_rank = changed everything (drawn 7 2 ∷ moving 15 7 1 7 2 ∷ tables 15 7 1 ∷ unheeded 15 3 ∷ [])

pub unheeded_without_a_line_of_the_last_rank_is_unsound : sound unheeded_without_a_line_of_the_last_rank ≡ false
unfolding opened_pairs
unheeded_without_a_line_of_the_last_rank_is_unsound = pairs_unsound unheeded_without_a_line_of_the_last_rank refl

-- "r's await of s is unheeded exactly when s's line to r is notice"
abbrev pub notice_of_the_last_rank_without_an_await : State
notice_of_the_last_rank_without_an_await = changed everything (drawn 7 1 ∷ running 15 7 1 ∷ tables 15 7 1 ∷ notice 15 1 ∷ [])

pub notice_of_the_last_rank_without_an_await_is_unsound : sound notice_of_the_last_rank_without_an_await ≡ false
unfolding opened_pairs
notice_of_the_last_rank_without_an_await_is_unsound = pairs_unsound notice_of_the_last_rank_without_an_await refl

-- "r's await of s is unheeded exactly when s's line to r is notice"
abbrev pub unheeded_await_of_the_first_rank_from_the_last : State
unheeded_await_of_the_first_rank_from_the_last =
    changed everything
    (drawn 7 3 ∷ moving 0 0 1 7 1 ∷ moving 15 7 2 7 3 ∷ tables 15 7 2 ∷ notice 15 0 ∷ unheeded 0 15 ∷ [])

pub unheeded_await_of_the_first_rank_from_the_last_is_sound : sound unheeded_await_of_the_first_rank_from_the_last ≡ true
unfolding opened_sound
unheeded_await_of_the_first_rank_from_the_last_is_sound = refl

-- "r's await of s is unheeded exactly when s's line to r is notice"
abbrev pub unheeded_await_of_the_last_rank_from_the_first : State
unheeded_await_of_the_last_rank_from_the_first =
    changed everything
    (drawn 7 2 ∷ moving 15 7 1 7 2 ∷ tables 15 7 1 ∷ notice 0 15 ∷ unheeded 15 0 ∷ [])

pub unheeded_await_of_the_last_rank_from_the_first_is_sound : sound unheeded_await_of_the_last_rank_from_the_first ≡ true
unfolding opened_sound
unheeded_await_of_the_last_rank_from_the_first_is_sound = refl

-- "r's await of s is unheeded exactly when s's line to r is notice"
abbrev pub unheeded_of_the_first_rank_without_a_line_of_the_last : State
unheeded_of_the_first_rank_without_a_line_of_the_last =
    changed everything
    (drawn 7 2 ∷ moving 0 0 1 7 1 ∷ running 15 7 2 ∷ tables 15 7 2 ∷ unheeded 0 15 ∷ [])

pub unheeded_of_the_first_rank_without_a_line_of_the_last_is_unsound : sound unheeded_of_the_first_rank_without_a_line_of_the_last ≡ false
unfolding opened_pairs
unheeded_of_the_first_rank_without_a_line_of_the_last_is_unsound = pairs_unsound unheeded_of_the_first_rank_without_a_line_of_the_last refl

-- "r's await of s is unheeded exactly when s's line to r is notice"
abbrev pub unheeded_of_the_last_rank_without_a_line_of_the_first : State
unheeded_of_the_last_rank_without_a_line_of_the_first =
    changed everything
    (drawn 7 2 ∷ moving 15 7 1 7 2 ∷ tables 15 7 1 ∷ unheeded 15 0 ∷ [])

pub unheeded_of_the_last_rank_without_a_line_of_the_first_is_unsound : sound unheeded_of_the_last_rank_without_a_line_of_the_first ≡ false
unfolding opened_pairs
unheeded_of_the_last_rank_without_a_line_of_the_first_is_unsound = pairs_unsound unheeded_of_the_last_rank_without_a_line_of_the_first refl

-- "r's await of s is unheeded exactly when s's line to r is notice"
abbrev pub notice_of_the_first_rank_to_the_last_without_an_await : State
notice_of_the_first_rank_to_the_last_without_an_await = changed everything (drawn 7 1 ∷ running 15 7 1 ∷ tables 15 7 1 ∷ notice 0 15 ∷ [])

pub notice_of_the_first_rank_to_the_last_without_an_await_is_unsound : sound notice_of_the_first_rank_to_the_last_without_an_await ≡ false
unfolding opened_pairs
notice_of_the_first_rank_to_the_last_without_an_await_is_unsound = pairs_unsound notice_of_the_first_rank_to_the_last_without_an_await refl

-- "r's await of s is unheeded exactly when s's line to r is notice"
abbrev pub notice_of_the_last_rank_to_the_first_without_an_await : State
notice_of_the_last_rank_to_the_first_without_an_await = changed everything (drawn 7 1 ∷ running 15 7 1 ∷ tables 15 7 1 ∷ notice 15 0 ∷ [])

pub notice_of_the_last_rank_to_the_first_without_an_await_is_unsound : sound notice_of_the_last_rank_to_the_first_without_an_await ≡ false
unfolding opened_pairs
notice_of_the_last_rank_to_the_first_without_an_await_is_unsound = pairs_unsound notice_of_the_last_rank_to_the_first_without_an_await refl

-- "r's await of s is unheeded exactly when s's line to r is notice"
abbrev pub notice_to_an_ended_rank : State
notice_to_an_ended_rank = changed everything (notice 3 4 ∷ [])

pub notice_to_an_ended_rank_is_unsound : sound notice_to_an_ended_rank ≡ false
unfolding opened_pairs
notice_to_an_ended_rank_is_unsound = pairs_unsound notice_to_an_ended_rank refl

-- "r's await of s is unheeded exactly when s's line to r is notice"
abbrev pub notice_to_an_unstarted_rank : State
notice_to_an_unstarted_rank = changed everything (notice 3 14 ∷ [])

pub notice_to_an_unstarted_rank_is_unsound : sound notice_to_an_unstarted_rank ≡ false
unfolding opened_pairs
notice_to_an_unstarted_rank_is_unsound = pairs_unsound notice_to_an_unstarted_rank refl

-- "Calls go from a running rank"
abbrev pub call_of_a_moving_rank : State
call_of_a_moving_rank = changed everything (call 1 3 3 1 ∷ [])

pub call_of_a_moving_rank_is_unsound : sound call_of_a_moving_rank ≡ false
unfolding opened_pairs
call_of_a_moving_rank_is_unsound = pairs_unsound call_of_a_moving_rank refl

-- "Calls go from a running rank"
abbrev pub call_of_an_ended_rank : State
call_of_an_ended_rank = changed everything (call 4 3 3 1 ∷ [])

pub call_of_an_ended_rank_is_unsound : sound call_of_an_ended_rank ≡ false
unfolding opened_pairs
call_of_an_ended_rank_is_unsound = pairs_unsound call_of_an_ended_rank refl

-- "Calls go from a running rank"
abbrev pub call_of_an_unstarted_rank : State
call_of_an_unstarted_rank = changed everything (call 14 3 3 1 ∷ [])

pub call_of_an_unstarted_rank_is_unsound : sound call_of_an_unstarted_rank ≡ false
unfolding opened_pairs
call_of_an_unstarted_rank_is_unsound = pairs_unsound call_of_an_unstarted_rank refl

-- "Calls go from a running rank"
abbrev pub call_of_the_last_rank : State
call_of_the_last_rank = changed everything (call 15 3 3 1 ∷ [])

pub call_of_the_last_rank_is_unsound : sound call_of_the_last_rank ≡ false
unfolding opened_pairs
call_of_the_last_rank_is_unsound = pairs_unsound call_of_the_last_rank refl

-- "Calls go from a running rank"
abbrev pub call_of_the_first_rank_moving : State
call_of_the_first_rank_moving = changed everything (drawn 7 2 ∷ moving 0 0 1 7 1 ∷ running 15 7 2 ∷ tables 15 7 2 ∷ call 0 15 7 2 ∷ [])

pub call_of_the_first_rank_moving_is_unsound : sound call_of_the_first_rank_moving ≡ false
unfolding opened_pairs
call_of_the_first_rank_moving_is_unsound = pairs_unsound call_of_the_first_rank_moving refl

-- "Calls go from a running rank"
abbrev pub call_of_the_last_rank_unstarted_to_the_first : State
call_of_the_last_rank_unstarted_to_the_first = changed everything (call 15 0 0 1 ∷ [])

pub call_of_the_last_rank_unstarted_to_the_first_is_unsound : sound call_of_the_last_rank_unstarted_to_the_first ≡ false
unfolding opened_pairs
call_of_the_last_rank_unstarted_to_the_first_is_unsound = pairs_unsound call_of_the_last_rank_unstarted_to_the_first refl

-- "[Calls go] .. to a started rank"
abbrev pub calls_that_cross : State
calls_that_cross = changed everything (call 3 5 0 2 ∷ call 5 3 3 1 ∷ [])

pub calls_that_cross_is_sound : sound calls_that_cross ≡ true
unfolding opened_sound
calls_that_cross_is_sound = refl

-- "[Calls go] .. to a started rank"
abbrev pub call_to_a_moving_rank : State
call_to_a_moving_rank = changed everything (call 3 1 5 1 ∷ [])

pub call_to_a_moving_rank_is_sound : sound call_to_a_moving_rank ≡ true
unfolding opened_sound
call_to_a_moving_rank_is_sound = refl

-- "[Calls go] .. to a started rank"
abbrev pub call_to_a_moving_rank_with_an_await : State
call_to_a_moving_rank_with_an_await = changed everything (call 5 6 4 2 ∷ marked 6 5 ∷ [])

pub call_to_a_moving_rank_with_an_await_is_sound : sound call_to_a_moving_rank_with_an_await ≡ true
unfolding opened_sound
call_to_a_moving_rank_with_an_await_is_sound = refl

-- "[Calls go] .. to a started rank"
abbrev pub call_to_an_ended_rank : State
call_to_an_ended_rank = changed everything (call 3 4 4 1 ∷ [])

pub call_to_an_ended_rank_is_sound : sound call_to_an_ended_rank ≡ true
unfolding opened_sound
call_to_an_ended_rank_is_sound = refl

-- "[Calls go] .. to a started rank"
abbrev pub call_to_an_unstarted_rank : State
call_to_an_unstarted_rank = changed everything (call 3 14 0 1 ∷ [])

pub call_to_an_unstarted_rank_is_unsound : sound call_to_an_unstarted_rank ≡ false
unfolding opened_pairs
call_to_an_unstarted_rank_is_unsound = pairs_unsound call_to_an_unstarted_rank refl

-- "[Calls go] .. to a started rank"
abbrev pub call_to_the_last_rank : State
call_to_the_last_rank = changed everything (call 3 15 0 1 ∷ [])

pub call_to_the_last_rank_is_unsound : sound call_to_the_last_rank ≡ false
unfolding opened_pairs
call_to_the_last_rank_is_unsound = pairs_unsound call_to_the_last_rank refl

-- "[Calls go] .. to a started rank"
abbrev pub call_of_the_first_rank_to_the_last_unstarted : State
call_of_the_first_rank_to_the_last_unstarted = changed everything (call 0 15 0 1 ∷ [])

pub call_of_the_first_rank_to_the_last_unstarted_is_unsound : sound call_of_the_first_rank_to_the_last_unstarted ≡ false
unfolding opened_pairs
call_of_the_first_rank_to_the_last_unstarted_is_unsound = pairs_unsound call_of_the_first_rank_to_the_last_unstarted refl

-- "[Calls go] .. to a started rank"
abbrev pub call_of_the_last_rank_to_the_first_unstarted : State
call_of_the_last_rank_to_the_first_unstarted = changed everything (fresh ∷ drawn 7 2 ∷ running 15 7 1 ∷ tables 15 7 1 ∷ call 15 0 7 2 ∷ [])

pub call_of_the_last_rank_to_the_first_unstarted_is_unsound : sound call_of_the_last_rank_to_the_first_unstarted ≡ false
unfolding opened_pairs
call_of_the_last_rank_to_the_first_unstarted_is_unsound = pairs_unsound call_of_the_last_rank_to_the_first_unstarted refl

-- "[Calls go] .. to which it has no line"
abbrev pub call_of_a_rank_with_other_lines : State
call_of_a_rank_with_other_lines = changed everything (call 0 5 0 2 ∷ [])

pub call_of_a_rank_with_other_lines_is_sound : sound call_of_a_rank_with_other_lines ≡ true
unfolding opened_sound
call_of_a_rank_with_other_lines_is_sound = refl

-- "[Calls go] .. to which it has no line"
abbrev pub call_along_a_plain_line : State
call_along_a_plain_line = changed everything (call 0 2 2 1 ∷ [])

pub call_along_a_plain_line_is_unsound : sound call_along_a_plain_line ≡ false
unfolding opened_pairs
call_along_a_plain_line_is_unsound = pairs_unsound call_along_a_plain_line refl

-- "[Calls go] .. to which it has no line"
abbrev pub call_along_a_notice_line : State
call_along_a_notice_line = changed everything (call 0 1 1 1 ∷ [])

pub call_along_a_notice_line_is_unsound : sound call_along_a_notice_line ≡ false
unfolding opened_pairs
call_along_a_notice_line_is_unsound = pairs_unsound call_along_a_notice_line refl

-- "[Calls go] .. to which it has no line"
abbrev pub call_of_the_first_rank_along_a_line_to_the_last : State
call_of_the_first_rank_along_a_line_to_the_last =
    changed everything
    (drawn 7 1 ∷ running 15 7 1 ∷ tables 15 7 1 ∷ plain 0 15 ∷ plain 15 0 ∷ call 0 15 7 1 ∷ [])

pub call_of_the_first_rank_along_a_line_to_the_last_is_unsound : sound call_of_the_first_rank_along_a_line_to_the_last ≡ false
unfolding opened_pairs
call_of_the_first_rank_along_a_line_to_the_last_is_unsound = pairs_unsound call_of_the_first_rank_along_a_line_to_the_last refl

-- "[Calls go] .. to which it has no line"
abbrev pub call_of_the_last_rank_along_a_line_to_the_first : State
call_of_the_last_rank_along_a_line_to_the_first =
    changed everything
    (drawn 7 1 ∷ running 15 7 1 ∷ tables 15 7 1 ∷ plain 0 15 ∷ plain 15 0 ∷ call 15 0 0 1 ∷ [])

pub call_of_the_last_rank_along_a_line_to_the_first_is_unsound : sound call_of_the_last_rank_along_a_line_to_the_first ≡ false
unfolding opened_pairs
call_of_the_last_rank_along_a_line_to_the_first_is_unsound = pairs_unsound call_of_the_last_rank_along_a_line_to_the_first refl
