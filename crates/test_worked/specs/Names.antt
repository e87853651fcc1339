-- The states of crates/test_spoiled/stdin, section Names, and of each the theorem that it is sound or unsound.
-- Written from that list by the Rust tests. Assumes nothing.
use Rattle.std.specs.Prelude.{◌≡◌, refl, true, false, [], ◌∷◌}
use Rattle.protocol.specs.Laws.Opened.{opened_names, opened_sound}
use Rattle.protocol.specs.Sound.{sound}
use Rattle.broker.specs.State.{State}
use Rattle.test_worked.specs.Unsound.{names_unsound}
use Rattle.test_worked.specs.Whole.{everything}
use Rattle.test_worked.specs.Words.{changed, fresh, running, moving, ended, drawn, table, tables, call, message}

-- "Ranks .. are in range"
abbrev pub rank_fifteen_in_every_role : State
rank_fifteen_in_every_role =
    changed everything
    (drawn 7 1 ∷ running 15 7 1 ∷ tables 15 7 1 ∷ call 5 15 7 1 ∷ call 15 0 0 1 ∷ message 15 3 2 60 ∷ message 3 15 2 61 ∷ [])

pub rank_fifteen_in_every_role_is_sound : sound rank_fifteen_in_every_role ≡ true
unfolding opened_sound
rank_fifteen_in_every_role_is_sound = refl

-- "Ranks .. are in range"
abbrev pub call_to_rank_sixteen : State
call_to_rank_sixteen = changed everything (call 5 16 0 1 ∷ [])

pub call_to_rank_sixteen_is_unsound : sound call_to_rank_sixteen ≡ false
unfolding opened_names
call_to_rank_sixteen_is_unsound = names_unsound call_to_rank_sixteen refl

-- "Ranks .. are in range"
abbrev pub call_of_the_first_rank_to_rank_sixteen : State
call_of_the_first_rank_to_rank_sixteen = changed everything (call 0 16 0 1 ∷ [])

pub call_of_the_first_rank_to_rank_sixteen_is_unsound : sound call_of_the_first_rank_to_rank_sixteen ≡ false
unfolding opened_names
call_of_the_first_rank_to_rank_sixteen_is_unsound = names_unsound call_of_the_first_rank_to_rank_sixteen refl

-- "Ranks .. are in range"
abbrev pub call_of_the_last_rank_to_rank_sixteen : State
call_of_the_last_rank_to_rank_sixteen = changed everything (drawn 7 1 ∷ running 15 7 1 ∷ tables 15 7 1 ∷ call 15 16 0 1 ∷ [])

pub call_of_the_last_rank_to_rank_sixteen_is_unsound : sound call_of_the_last_rank_to_rank_sixteen ≡ false
unfolding opened_names
call_of_the_last_rank_to_rank_sixteen_is_unsound = names_unsound call_of_the_last_rank_to_rank_sixteen refl

-- "hosts .. are in range"
abbrev pub host_seven_in_every_role : State
host_seven_in_every_role =
    changed everything
    (drawn 7 6 ∷ running 5 7 1 ∷ moving 6 7 2 7 3 ∷ ended 4 7 4 ∷ table 0 3 7 5 ∷ call 3 0 7 6 ∷ [])

pub host_seven_in_every_role_is_sound : sound host_seven_in_every_role ≡ true
unfolding opened_sound
host_seven_in_every_role_is_sound = refl

-- "hosts .. are in range"
abbrev pub running_on_host_eight : State
running_on_host_eight = changed everything (running 3 8 1 ∷ [])

pub running_on_host_eight_is_unsound : sound running_on_host_eight ≡ false
unfolding opened_names
running_on_host_eight_is_unsound = names_unsound running_on_host_eight refl

-- "hosts .. are in range"
abbrev pub mover_on_host_eight : State
mover_on_host_eight = changed everything (moving 6 8 1 4 2 ∷ [])

pub mover_on_host_eight_is_unsound : sound mover_on_host_eight ≡ false
unfolding opened_names
mover_on_host_eight_is_unsound = names_unsound mover_on_host_eight refl

-- "hosts .. are in range"
abbrev pub arrival_on_host_eight : State
arrival_on_host_eight = changed everything (moving 6 6 1 8 1 ∷ [])

pub arrival_on_host_eight_is_unsound : sound arrival_on_host_eight ≡ false
unfolding opened_names
arrival_on_host_eight_is_unsound = names_unsound arrival_on_host_eight refl

-- "hosts .. are in range"
abbrev pub ended_on_host_eight : State
ended_on_host_eight = changed everything (ended 4 8 1 ∷ [])

pub ended_on_host_eight_is_unsound : sound ended_on_host_eight ≡ false
unfolding opened_names
ended_on_host_eight_is_unsound = names_unsound ended_on_host_eight refl

-- "hosts .. are in range"
abbrev pub entry_on_host_eight : State
entry_on_host_eight = changed everything (table 0 3 8 1 ∷ [])

pub entry_on_host_eight_is_unsound : sound entry_on_host_eight ≡ false
unfolding opened_names
entry_on_host_eight_is_unsound = names_unsound entry_on_host_eight refl

-- "hosts .. are in range"
abbrev pub call_posted_to_host_eight : State
call_posted_to_host_eight = changed everything (call 3 0 8 1 ∷ [])

pub call_posted_to_host_eight_is_unsound : sound call_posted_to_host_eight ≡ false
unfolding opened_names
call_posted_to_host_eight_is_unsound = names_unsound call_posted_to_host_eight refl

-- "hosts .. are in range"
abbrev pub first_rank_on_host_eight : State
first_rank_on_host_eight = changed everything (running 0 8 1 ∷ [])

pub first_rank_on_host_eight_is_unsound : sound first_rank_on_host_eight ≡ false
unfolding opened_names
first_rank_on_host_eight_is_unsound = names_unsound first_rank_on_host_eight refl

-- "hosts .. are in range"
abbrev pub last_rank_on_host_eight : State
last_rank_on_host_eight = changed everything (drawn 7 1 ∷ running 15 7 1 ∷ tables 15 7 1 ∷ running 15 8 1 ∷ [])

pub last_rank_on_host_eight_is_unsound : sound last_rank_on_host_eight ≡ false
unfolding opened_names
last_rank_on_host_eight_is_unsound = names_unsound last_rank_on_host_eight refl

-- "hosts .. are in range"
abbrev pub entry_of_the_first_rank_for_the_last_on_host_eight : State
entry_of_the_first_rank_for_the_last_on_host_eight = changed everything (drawn 7 1 ∷ running 15 7 1 ∷ tables 15 7 1 ∷ table 0 15 8 1 ∷ [])

pub entry_of_the_first_rank_for_the_last_on_host_eight_is_unsound : sound entry_of_the_first_rank_for_the_last_on_host_eight ≡ false
unfolding opened_names
entry_of_the_first_rank_for_the_last_on_host_eight_is_unsound = names_unsound entry_of_the_first_rank_for_the_last_on_host_eight refl

-- "hosts .. are in range"
abbrev pub entry_of_the_last_rank_for_the_first_on_host_eight : State
entry_of_the_last_rank_for_the_first_on_host_eight = changed everything (table 15 0 8 1 ∷ [])

pub entry_of_the_last_rank_for_the_first_on_host_eight_is_unsound : sound entry_of_the_last_rank_for_the_first_on_host_eight ≡ false
unfolding opened_names
entry_of_the_last_rank_for_the_first_on_host_eight_is_unsound = names_unsound entry_of_the_last_rank_for_the_first_on_host_eight refl

-- "hosts .. are in range"
abbrev pub call_of_the_first_rank_posted_to_host_eight : State
call_of_the_first_rank_posted_to_host_eight = changed everything (call 0 5 8 1 ∷ [])

pub call_of_the_first_rank_posted_to_host_eight_is_unsound : sound call_of_the_first_rank_posted_to_host_eight ≡ false
unfolding opened_names
call_of_the_first_rank_posted_to_host_eight_is_unsound = names_unsound call_of_the_first_rank_posted_to_host_eight refl

-- "hosts .. are in range"
abbrev pub call_of_the_last_rank_posted_to_host_eight : State
call_of_the_last_rank_posted_to_host_eight = changed everything (drawn 7 1 ∷ running 15 7 1 ∷ tables 15 7 1 ∷ call 15 5 8 1 ∷ [])

pub call_of_the_last_rank_posted_to_host_eight_is_unsound : sound call_of_the_last_rank_posted_to_host_eight ≡ false
unfolding opened_names
call_of_the_last_rank_posted_to_host_eight_is_unsound = names_unsound call_of_the_last_rank_posted_to_host_eight refl

-- "hosts .. are in range"
abbrev pub entry_for_itself_on_host_eight : State
entry_for_itself_on_host_eight = changed everything (table 3 3 8 1 ∷ [])

pub entry_for_itself_on_host_eight_is_unsound : sound entry_for_itself_on_host_eight ≡ false
unfolding opened_names
entry_for_itself_on_host_eight_is_unsound = names_unsound entry_for_itself_on_host_eight refl

-- "numbers are in range"
abbrev pub last_number_in_every_role : State
last_number_in_every_role =
    changed everything
    (drawn 7 65535 ∷ drawn 6 65535 ∷ drawn 5 65535 ∷ drawn 4 65535 ∷ running 5 7 65535 ∷ moving 6 6 65535 5 65535 ∷ ended 4 4 65535 ∷
    table 0 3 7 65535 ∷ call 3 0 7 65535 ∷ [])

pub last_number_in_every_role_is_sound : sound last_number_in_every_role ≡ true
unfolding opened_sound
last_number_in_every_role_is_sound = refl

-- "numbers are in range"
abbrev pub all_numbers_drawn : State
all_numbers_drawn =
    changed everything
    (drawn 0 65535 ∷ drawn 1 65535 ∷ drawn 2 65535 ∷ drawn 3 65535 ∷ drawn 4 65535 ∷ drawn 5 65535 ∷ drawn 6 65535 ∷ drawn 7 65535 ∷ [])

pub all_numbers_drawn_is_sound : sound all_numbers_drawn ≡ true
unfolding opened_sound
all_numbers_drawn_is_sound = refl

-- "numbers are in range"
abbrev pub running_at_number_zero : State
running_at_number_zero = changed everything (running 3 3 0 ∷ [])

pub running_at_number_zero_is_unsound : sound running_at_number_zero ≡ false
unfolding opened_names
running_at_number_zero_is_unsound = names_unsound running_at_number_zero refl

-- "numbers are in range"
abbrev pub mover_at_number_zero : State
mover_at_number_zero = changed everything (moving 6 6 0 4 2 ∷ [])

pub mover_at_number_zero_is_unsound : sound mover_at_number_zero ≡ false
unfolding opened_names
mover_at_number_zero_is_unsound = names_unsound mover_at_number_zero refl

-- "numbers are in range"
abbrev pub arrival_at_number_zero : State
arrival_at_number_zero = changed everything (moving 6 6 1 4 0 ∷ [])

pub arrival_at_number_zero_is_unsound : sound arrival_at_number_zero ≡ false
unfolding opened_names
arrival_at_number_zero_is_unsound = names_unsound arrival_at_number_zero refl

-- "numbers are in range"
abbrev pub ended_at_number_zero : State
ended_at_number_zero = changed everything (ended 4 4 0 ∷ [])

pub ended_at_number_zero_is_unsound : sound ended_at_number_zero ≡ false
unfolding opened_names
ended_at_number_zero_is_unsound = names_unsound ended_at_number_zero refl

-- "numbers are in range"
abbrev pub entry_at_number_zero : State
entry_at_number_zero = changed everything (table 0 1 3 0 ∷ [])

pub entry_at_number_zero_is_unsound : sound entry_at_number_zero ≡ false
unfolding opened_names
entry_at_number_zero_is_unsound = names_unsound entry_at_number_zero refl

-- "numbers are in range"
abbrev pub call_posted_to_number_zero : State
call_posted_to_number_zero = changed everything (call 5 1 3 0 ∷ [])

pub call_posted_to_number_zero_is_unsound : sound call_posted_to_number_zero ≡ false
unfolding opened_names
call_posted_to_number_zero_is_unsound = names_unsound call_posted_to_number_zero refl

-- "numbers are in range"
abbrev pub entry_for_itself_at_number_zero : State
entry_for_itself_at_number_zero = changed everything (table 3 3 3 0 ∷ [])

pub entry_for_itself_at_number_zero_is_unsound : sound entry_for_itself_at_number_zero ≡ false
unfolding opened_names
entry_for_itself_at_number_zero_is_unsound = names_unsound entry_for_itself_at_number_zero refl

-- "numbers are in range"
abbrev pub first_rank_at_number_zero : State
first_rank_at_number_zero = changed everything (running 0 1 0 ∷ [])

pub first_rank_at_number_zero_is_unsound : sound first_rank_at_number_zero ≡ false
unfolding opened_names
first_rank_at_number_zero_is_unsound = names_unsound first_rank_at_number_zero refl

-- "numbers are in range"
abbrev pub last_rank_at_number_zero : State
last_rank_at_number_zero = changed everything (drawn 7 1 ∷ running 15 7 1 ∷ tables 15 7 1 ∷ running 15 7 0 ∷ [])

pub last_rank_at_number_zero_is_unsound : sound last_rank_at_number_zero ≡ false
unfolding opened_names
last_rank_at_number_zero_is_unsound = names_unsound last_rank_at_number_zero refl

-- "numbers are in range"
abbrev pub entry_of_the_first_rank_for_the_last_at_number_zero : State
entry_of_the_first_rank_for_the_last_at_number_zero = changed everything (drawn 7 1 ∷ running 15 7 1 ∷ tables 15 7 1 ∷ table 0 15 7 0 ∷ [])

pub entry_of_the_first_rank_for_the_last_at_number_zero_is_unsound : sound entry_of_the_first_rank_for_the_last_at_number_zero ≡ false
unfolding opened_names
entry_of_the_first_rank_for_the_last_at_number_zero_is_unsound = names_unsound entry_of_the_first_rank_for_the_last_at_number_zero refl

-- "numbers are in range"
abbrev pub entry_of_the_last_rank_for_the_first_at_number_zero : State
entry_of_the_last_rank_for_the_first_at_number_zero = changed everything (table 15 0 1 0 ∷ [])

pub entry_of_the_last_rank_for_the_first_at_number_zero_is_unsound : sound entry_of_the_last_rank_for_the_first_at_number_zero ≡ false
unfolding opened_names
entry_of_the_last_rank_for_the_first_at_number_zero_is_unsound = names_unsound entry_of_the_last_rank_for_the_first_at_number_zero refl

-- "numbers are in range"
abbrev pub call_of_the_first_rank_posted_to_number_zero : State
call_of_the_first_rank_posted_to_number_zero = changed everything (call 0 5 1 0 ∷ [])

pub call_of_the_first_rank_posted_to_number_zero_is_unsound : sound call_of_the_first_rank_posted_to_number_zero ≡ false
unfolding opened_names
call_of_the_first_rank_posted_to_number_zero_is_unsound = names_unsound call_of_the_first_rank_posted_to_number_zero refl

-- "numbers are in range"
abbrev pub call_of_the_last_rank_posted_to_number_zero : State
call_of_the_last_rank_posted_to_number_zero = changed everything (drawn 7 1 ∷ running 15 7 1 ∷ tables 15 7 1 ∷ call 15 5 7 0 ∷ [])

pub call_of_the_last_rank_posted_to_number_zero_is_unsound : sound call_of_the_last_rank_posted_to_number_zero ≡ false
unfolding opened_names
call_of_the_last_rank_posted_to_number_zero_is_unsound = names_unsound call_of_the_last_rank_posted_to_number_zero refl

-- "each vmid in use .. has a number already drawn"
abbrev pub running_not_drawn : State
running_not_drawn = changed everything (running 3 3 2 ∷ [])

pub running_not_drawn_is_unsound : sound running_not_drawn ≡ false
unfolding opened_names
running_not_drawn_is_unsound = names_unsound running_not_drawn refl

-- "each vmid in use .. has a number already drawn"
abbrev pub mover_not_drawn : State
mover_not_drawn = changed everything (moving 1 1 2 5 1 ∷ [])

pub mover_not_drawn_is_unsound : sound mover_not_drawn ≡ false
unfolding opened_names
mover_not_drawn_is_unsound = names_unsound mover_not_drawn refl

-- "each vmid in use .. has a number already drawn"
abbrev pub arrival_not_drawn : State
arrival_not_drawn = changed everything (moving 1 1 1 5 2 ∷ [])

pub arrival_not_drawn_is_unsound : sound arrival_not_drawn ≡ false
unfolding opened_names
arrival_not_drawn_is_unsound = names_unsound arrival_not_drawn refl

-- "each vmid in use .. has a number already drawn"
abbrev pub ended_not_drawn : State
ended_not_drawn = changed everything (ended 4 4 3 ∷ [])

pub ended_not_drawn_is_unsound : sound ended_not_drawn ≡ false
unfolding opened_names
ended_not_drawn_is_unsound = names_unsound ended_not_drawn refl

-- "each vmid in use .. has a number already drawn"
abbrev pub running_not_drawn_on_its_own_host : State
running_not_drawn_on_its_own_host = changed everything (running 3 1 2 ∷ [])

pub running_not_drawn_on_its_own_host_is_unsound : sound running_not_drawn_on_its_own_host ≡ false
unfolding opened_names
running_not_drawn_on_its_own_host_is_unsound = names_unsound running_not_drawn_on_its_own_host refl

-- "each vmid in use .. has a number already drawn"
abbrev pub last_rank_not_drawn : State
last_rank_not_drawn = changed everything (drawn 7 1 ∷ running 15 7 1 ∷ tables 15 7 1 ∷ running 15 7 2 ∷ [])

pub last_rank_not_drawn_is_unsound : sound last_rank_not_drawn ≡ false
unfolding opened_names
last_rank_not_drawn_is_unsound = names_unsound last_rank_not_drawn refl

-- "each vmid in use .. has a number already drawn"
abbrev pub numbers_forgotten : State
numbers_forgotten = changed everything (drawn 3 0 ∷ [])

pub numbers_forgotten_is_unsound : sound numbers_forgotten ≡ false
unfolding opened_names
numbers_forgotten_is_unsound = names_unsound numbers_forgotten refl

-- "each vmid in use .. has a number already drawn"
abbrev pub first_rank_not_drawn : State
first_rank_not_drawn = changed everything (running 0 0 3 ∷ [])

pub first_rank_not_drawn_is_unsound : sound first_rank_not_drawn ≡ false
unfolding opened_names
first_rank_not_drawn_is_unsound = names_unsound first_rank_not_drawn refl

-- "each vmid in use .. has a number already drawn"
abbrev pub mover_of_the_first_rank_not_drawn : State
mover_of_the_first_rank_not_drawn = changed everything (drawn 7 1 ∷ moving 0 0 1 7 1 ∷ moving 0 0 3 7 1 ∷ [])

pub mover_of_the_first_rank_not_drawn_is_unsound : sound mover_of_the_first_rank_not_drawn ≡ false
unfolding opened_names
mover_of_the_first_rank_not_drawn_is_unsound = names_unsound mover_of_the_first_rank_not_drawn refl

-- "each vmid in use .. has a number already drawn"
abbrev pub arrival_of_the_first_rank_not_drawn : State
arrival_of_the_first_rank_not_drawn = changed everything (drawn 7 1 ∷ moving 0 0 1 7 1 ∷ moving 0 0 1 7 2 ∷ [])

pub arrival_of_the_first_rank_not_drawn_is_unsound : sound arrival_of_the_first_rank_not_drawn ≡ false
unfolding opened_names
arrival_of_the_first_rank_not_drawn_is_unsound = names_unsound arrival_of_the_first_rank_not_drawn refl

-- "each vmid in use .. has a number already drawn"
abbrev pub first_rank_ended_not_drawn : State
first_rank_ended_not_drawn = changed everything (fresh ∷ drawn 0 1 ∷ ended 0 0 2 ∷ tables 0 0 1 ∷ [])

pub first_rank_ended_not_drawn_is_unsound : sound first_rank_ended_not_drawn ≡ false
unfolding opened_names
first_rank_ended_not_drawn_is_unsound = names_unsound first_rank_ended_not_drawn refl

-- "each vmid in use .. has a number already drawn"
abbrev pub mover_of_the_last_rank_not_drawn : State
mover_of_the_last_rank_not_drawn = changed everything (drawn 7 2 ∷ moving 15 7 1 7 2 ∷ tables 15 7 1 ∷ moving 15 7 3 7 2 ∷ [])

pub mover_of_the_last_rank_not_drawn_is_unsound : sound mover_of_the_last_rank_not_drawn ≡ false
unfolding opened_names
mover_of_the_last_rank_not_drawn_is_unsound = names_unsound mover_of_the_last_rank_not_drawn refl

-- "each vmid in use .. has a number already drawn"
abbrev pub arrival_of_the_last_rank_not_drawn : State
arrival_of_the_last_rank_not_drawn = changed everything (drawn 7 2 ∷ moving 15 7 1 7 2 ∷ tables 15 7 1 ∷ moving 15 7 1 7 3 ∷ [])

pub arrival_of_the_last_rank_not_drawn_is_unsound : sound arrival_of_the_last_rank_not_drawn ≡ false
unfolding opened_names
arrival_of_the_last_rank_not_drawn_is_unsound = names_unsound arrival_of_the_last_rank_not_drawn refl

-- "each vmid in use .. has a number already drawn"
abbrev pub last_rank_ended_not_drawn : State
last_rank_ended_not_drawn = changed everything (drawn 7 1 ∷ ended 15 7 2 ∷ tables 15 7 1 ∷ [])

pub last_rank_ended_not_drawn_is_unsound : sound last_rank_ended_not_drawn ≡ false
unfolding opened_names
last_rank_ended_not_drawn_is_unsound = names_unsound last_rank_ended_not_drawn refl

-- "each vmid in use .. has a number already drawn"
abbrev pub first_and_last_rank_move : State
first_and_last_rank_move = changed everything (drawn 7 3 ∷ moving 0 0 1 7 1 ∷ moving 15 7 2 7 3 ∷ tables 15 7 2 ∷ [])

pub first_and_last_rank_move_is_sound : sound first_and_last_rank_move ≡ true
unfolding opened_sound
first_and_last_rank_move_is_sound = refl

-- "each vmid in use .. has a number already drawn"
abbrev pub first_and_last_rank_ended : State
first_and_last_rank_ended =
    changed everything
    (fresh ∷ drawn 0 1 ∷ drawn 7 1 ∷ ended 0 0 1 ∷ ended 15 7 1 ∷ tables 0 0 1 ∷ tables 15 7 1 ∷ [])

pub first_and_last_rank_ended_is_sound : sound first_and_last_rank_ended ≡ true
unfolding opened_sound
first_and_last_rank_ended_is_sound = refl

-- "each vmid .. in a table .. has a number already drawn"
abbrev pub entries_with_any_drawn_vmid : State
entries_with_any_drawn_vmid =
    changed everything
    (drawn 7 3 ∷ table 0 3 0 2 ∷ table 3 0 4 1 ∷ table 3 1 1 1 ∷ table 0 1 6 1 ∷ table 3 3 7 2 ∷ table 14 3 7 3 ∷ table 4 4 4 2 ∷ [])

pub entries_with_any_drawn_vmid_is_sound : sound entries_with_any_drawn_vmid ≡ true
unfolding opened_sound
entries_with_any_drawn_vmid_is_sound = refl

-- "each vmid .. in a table .. has a number already drawn"
abbrev pub entry_not_drawn : State
entry_not_drawn = changed everything (table 0 3 3 2 ∷ [])

pub entry_not_drawn_is_unsound : sound entry_not_drawn ≡ false
unfolding opened_names
entry_not_drawn_is_unsound = names_unsound entry_not_drawn refl

-- "each vmid .. in a table .. has a number already drawn"
abbrev pub entry_not_drawn_on_its_own_host : State
entry_not_drawn_on_its_own_host = changed everything (table 0 3 1 2 ∷ [])

pub entry_not_drawn_on_its_own_host_is_unsound : sound entry_not_drawn_on_its_own_host ≡ false
unfolding opened_names
entry_not_drawn_on_its_own_host_is_unsound = names_unsound entry_not_drawn_on_its_own_host refl

-- "each vmid .. in a table .. has a number already drawn"
abbrev pub entry_not_drawn_of_an_unstarted_holder : State
entry_not_drawn_of_an_unstarted_holder = changed everything (table 15 0 0 3 ∷ [])

pub entry_not_drawn_of_an_unstarted_holder_is_unsound : sound entry_not_drawn_of_an_unstarted_holder ≡ false
unfolding opened_names
entry_not_drawn_of_an_unstarted_holder_is_unsound = names_unsound entry_not_drawn_of_an_unstarted_holder refl

-- "each vmid .. in a table .. has a number already drawn"
abbrev pub entry_for_itself_not_drawn : State
entry_for_itself_not_drawn = changed everything (table 3 3 3 2 ∷ [])

pub entry_for_itself_not_drawn_is_unsound : sound entry_for_itself_not_drawn ≡ false
unfolding opened_names
entry_for_itself_not_drawn_is_unsound = names_unsound entry_for_itself_not_drawn refl

-- "each vmid .. in a table .. has a number already drawn"
abbrev pub entry_of_the_first_rank_for_the_last_not_drawn : State
entry_of_the_first_rank_for_the_last_not_drawn = changed everything (drawn 7 1 ∷ running 15 7 1 ∷ tables 15 7 1 ∷ table 0 15 7 2 ∷ [])

pub entry_of_the_first_rank_for_the_last_not_drawn_is_unsound : sound entry_of_the_first_rank_for_the_last_not_drawn ≡ false
unfolding opened_names
entry_of_the_first_rank_for_the_last_not_drawn_is_unsound = names_unsound entry_of_the_first_rank_for_the_last_not_drawn refl

-- "each vmid .. in a .. call has a number already drawn"
abbrev pub call_posted_to_a_vmid_of_another_rank : State
call_posted_to_a_vmid_of_another_rank = changed everything (call 3 0 2 1 ∷ [])

pub call_posted_to_a_vmid_of_another_rank_is_sound : sound call_posted_to_a_vmid_of_another_rank ≡ true
unfolding opened_sound
call_posted_to_a_vmid_of_another_rank_is_sound = refl

-- "each vmid .. in a .. call has a number already drawn"
abbrev pub call_posted_to_a_mover : State
call_posted_to_a_mover = changed everything (call 5 1 1 1 ∷ [])

pub call_posted_to_a_mover_is_sound : sound call_posted_to_a_mover ≡ true
unfolding opened_sound
call_posted_to_a_mover_is_sound = refl

-- "each vmid .. in a .. call has a number already drawn"
abbrev pub call_posted_to_a_vmid_of_nobody : State
call_posted_to_a_vmid_of_nobody = changed everything (drawn 7 3 ∷ call 3 0 7 2 ∷ [])

pub call_posted_to_a_vmid_of_nobody_is_sound : sound call_posted_to_a_vmid_of_nobody ≡ true
unfolding opened_sound
call_posted_to_a_vmid_of_nobody_is_sound = refl

-- "each vmid .. in a .. call has a number already drawn"
abbrev pub call_not_drawn : State
call_not_drawn = changed everything (call 3 0 0 3 ∷ [])

pub call_not_drawn_is_unsound : sound call_not_drawn ≡ false
unfolding opened_names
call_not_drawn_is_unsound = names_unsound call_not_drawn refl

-- "each vmid .. in a .. call has a number already drawn"
abbrev pub call_of_the_last_rank_not_drawn : State
call_of_the_last_rank_not_drawn = changed everything (drawn 7 1 ∷ running 15 7 1 ∷ tables 15 7 1 ∷ call 15 0 0 3 ∷ [])

pub call_of_the_last_rank_not_drawn_is_unsound : sound call_of_the_last_rank_not_drawn ≡ false
unfolding opened_names
call_of_the_last_rank_not_drawn_is_unsound = names_unsound call_of_the_last_rank_not_drawn refl

-- "each vmid .. in a .. call has a number already drawn"
abbrev pub call_of_the_first_rank_not_drawn : State
call_of_the_first_rank_not_drawn = changed everything (call 0 5 0 3 ∷ [])

pub call_of_the_first_rank_not_drawn_is_unsound : sound call_of_the_first_rank_not_drawn ≡ false
unfolding opened_names
call_of_the_first_rank_not_drawn_is_unsound = names_unsound call_of_the_first_rank_not_drawn refl

-- "each vmid .. in a .. call has a number already drawn"
abbrev pub calls_of_the_first_and_the_last_rank : State
calls_of_the_first_and_the_last_rank = changed everything (drawn 7 1 ∷ running 15 7 1 ∷ tables 15 7 1 ∷ call 0 15 7 1 ∷ call 15 0 0 1 ∷ [])

pub calls_of_the_first_and_the_last_rank_is_sound : sound calls_of_the_first_and_the_last_rank ≡ true
unfolding opened_sound
calls_of_the_first_and_the_last_rank_is_sound = refl

-- "a table entry is 0.0 exactly when the rank it is for is unstarted"
abbrev pub entry_unknown_for_a_running_rank : State
entry_unknown_for_a_running_rank = changed everything (table 0 3 0 0 ∷ [])

pub entry_unknown_for_a_running_rank_is_unsound : sound entry_unknown_for_a_running_rank ≡ false
unfolding opened_names
entry_unknown_for_a_running_rank_is_unsound = names_unsound entry_unknown_for_a_running_rank refl

-- "a table entry is 0.0 exactly when the rank it is for is unstarted"
abbrev pub entry_unknown_for_a_moving_rank : State
entry_unknown_for_a_moving_rank = changed everything (table 0 1 0 0 ∷ [])

pub entry_unknown_for_a_moving_rank_is_unsound : sound entry_unknown_for_a_moving_rank ≡ false
unfolding opened_names
entry_unknown_for_a_moving_rank_is_unsound = names_unsound entry_unknown_for_a_moving_rank refl

-- "a table entry is 0.0 exactly when the rank it is for is unstarted"
abbrev pub entry_unknown_for_an_ended_rank : State
entry_unknown_for_an_ended_rank = changed everything (table 0 4 0 0 ∷ [])

pub entry_unknown_for_an_ended_rank_is_unsound : sound entry_unknown_for_an_ended_rank ≡ false
unfolding opened_names
entry_unknown_for_an_ended_rank_is_unsound = names_unsound entry_unknown_for_an_ended_rank refl

-- "a table entry is 0.0 exactly when the rank it is for is unstarted"
abbrev pub entry_unknown_for_itself : State
entry_unknown_for_itself = changed everything (table 3 3 0 0 ∷ [])

pub entry_unknown_for_itself_is_unsound : sound entry_unknown_for_itself ≡ false
unfolding opened_names
entry_unknown_for_itself_is_unsound = names_unsound entry_unknown_for_itself refl

-- "a table entry is 0.0 exactly when the rank it is for is unstarted"
abbrev pub entry_unknown_that_an_unstarted_rank_has : State
entry_unknown_that_an_unstarted_rank_has = changed everything (table 14 3 0 0 ∷ [])

pub entry_unknown_that_an_unstarted_rank_has_is_unsound : sound entry_unknown_that_an_unstarted_rank_has ≡ false
unfolding opened_names
entry_unknown_that_an_unstarted_rank_has_is_unsound = names_unsound entry_unknown_that_an_unstarted_rank_has refl

-- "a table entry is 0.0 exactly when the rank it is for is unstarted"
abbrev pub entry_unknown_that_an_ended_rank_has : State
entry_unknown_that_an_ended_rank_has = changed everything (table 4 3 0 0 ∷ [])

pub entry_unknown_that_an_ended_rank_has_is_unsound : sound entry_unknown_that_an_ended_rank_has ≡ false
unfolding opened_names
entry_unknown_that_an_ended_rank_has_is_unsound = names_unsound entry_unknown_that_an_ended_rank_has refl

-- "a table entry is 0.0 exactly when the rank it is for is unstarted"
abbrev pub entries_unknown_for_the_last_rank : State
entries_unknown_for_the_last_rank = changed everything (drawn 7 1 ∷ running 15 7 1 ∷ [])

pub entries_unknown_for_the_last_rank_is_unsound : sound entries_unknown_for_the_last_rank ≡ false
unfolding opened_names
entries_unknown_for_the_last_rank_is_unsound = names_unsound entries_unknown_for_the_last_rank refl

-- "a table entry is 0.0 exactly when the rank it is for is unstarted"
abbrev pub entry_for_an_unstarted_rank : State
entry_for_an_unstarted_rank = changed everything (table 0 14 0 1 ∷ [])

pub entry_for_an_unstarted_rank_is_unsound : sound entry_for_an_unstarted_rank ≡ false
unfolding opened_names
entry_for_an_unstarted_rank_is_unsound = names_unsound entry_for_an_unstarted_rank refl

-- "a table entry is 0.0 exactly when the rank it is for is unstarted"
abbrev pub entry_for_an_unstarted_rank_at_number_zero : State
entry_for_an_unstarted_rank_at_number_zero = changed everything (table 0 14 3 0 ∷ [])

pub entry_for_an_unstarted_rank_at_number_zero_is_unsound : sound entry_for_an_unstarted_rank_at_number_zero ≡ false
unfolding opened_names
entry_for_an_unstarted_rank_at_number_zero_is_unsound = names_unsound entry_for_an_unstarted_rank_at_number_zero refl

-- "a table entry is 0.0 exactly when the rank it is for is unstarted"
abbrev pub entry_of_an_unstarted_rank_for_itself : State
entry_of_an_unstarted_rank_for_itself = changed everything (table 14 14 0 1 ∷ [])

pub entry_of_an_unstarted_rank_for_itself_is_unsound : sound entry_of_an_unstarted_rank_for_itself ≡ false
unfolding opened_names
entry_of_an_unstarted_rank_for_itself_is_unsound = names_unsound entry_of_an_unstarted_rank_for_itself refl

-- "a table entry is 0.0 exactly when the rank it is for is unstarted"
abbrev pub entry_of_the_last_rank_for_itself : State
entry_of_the_last_rank_for_itself = changed everything (table 15 15 0 1 ∷ [])

pub entry_of_the_last_rank_for_itself_is_unsound : sound entry_of_the_last_rank_for_itself ≡ false
unfolding opened_names
entry_of_the_last_rank_for_itself_is_unsound = names_unsound entry_of_the_last_rank_for_itself refl

-- "a table entry is 0.0 exactly when the rank it is for is unstarted"
abbrev pub entry_of_the_first_rank_for_the_last_unknown : State
entry_of_the_first_rank_for_the_last_unknown = changed everything (drawn 7 1 ∷ running 15 7 1 ∷ tables 15 7 1 ∷ table 0 15 0 0 ∷ [])

pub entry_of_the_first_rank_for_the_last_unknown_is_unsound : sound entry_of_the_first_rank_for_the_last_unknown ≡ false
unfolding opened_names
entry_of_the_first_rank_for_the_last_unknown_is_unsound = names_unsound entry_of_the_first_rank_for_the_last_unknown refl

-- "a table entry is 0.0 exactly when the rank it is for is unstarted"
abbrev pub entry_of_the_last_rank_for_the_first_unknown : State
entry_of_the_last_rank_for_the_first_unknown = changed everything (table 15 0 0 0 ∷ [])

pub entry_of_the_last_rank_for_the_first_unknown_is_unsound : sound entry_of_the_last_rank_for_the_first_unknown ≡ false
unfolding opened_names
entry_of_the_last_rank_for_the_first_unknown_is_unsound = names_unsound entry_of_the_last_rank_for_the_first_unknown refl

-- "a table entry is 0.0 exactly when the rank it is for is unstarted"
abbrev pub entry_unknown_that_a_moving_rank_has : State
entry_unknown_that_a_moving_rank_has = changed everything (table 1 3 0 0 ∷ [])

pub entry_unknown_that_a_moving_rank_has_is_unsound : sound entry_unknown_that_a_moving_rank_has ≡ false
unfolding opened_names
entry_unknown_that_a_moving_rank_has_is_unsound = names_unsound entry_unknown_that_a_moving_rank_has refl

-- "a table entry is 0.0 exactly when the rank it is for is unstarted"
abbrev pub entry_of_the_first_rank_for_the_last_unstarted : State
entry_of_the_first_rank_for_the_last_unstarted = changed everything (table 0 15 0 1 ∷ [])

pub entry_of_the_first_rank_for_the_last_unstarted_is_unsound : sound entry_of_the_first_rank_for_the_last_unstarted ≡ false
unfolding opened_names
entry_of_the_first_rank_for_the_last_unstarted_is_unsound = names_unsound entry_of_the_first_rank_for_the_last_unstarted refl

-- "a table entry is 0.0 exactly when the rank it is for is unstarted"
abbrev pub entry_of_the_last_rank_for_the_first_unstarted : State
entry_of_the_last_rank_for_the_first_unstarted = changed everything (fresh ∷ drawn 7 1 ∷ table 15 0 7 1 ∷ [])

pub entry_of_the_last_rank_for_the_first_unstarted_is_unsound : sound entry_of_the_last_rank_for_the_first_unstarted ≡ false
unfolding opened_names
entry_of_the_last_rank_for_the_first_unstarted_is_unsound = names_unsound entry_of_the_last_rank_for_the_first_unstarted refl

-- "a table entry is 0.0 exactly when the rank it is for is unstarted"
abbrev pub entry_of_a_moving_rank_for_an_unstarted : State
entry_of_a_moving_rank_for_an_unstarted = changed everything (table 1 14 0 1 ∷ [])

pub entry_of_a_moving_rank_for_an_unstarted_is_unsound : sound entry_of_a_moving_rank_for_an_unstarted ≡ false
unfolding opened_names
entry_of_a_moving_rank_for_an_unstarted_is_unsound = names_unsound entry_of_a_moving_rank_for_an_unstarted refl

-- "a table entry is 0.0 exactly when the rank it is for is unstarted"
abbrev pub entry_of_an_ended_rank_for_an_unstarted : State
entry_of_an_ended_rank_for_an_unstarted = changed everything (table 4 14 0 1 ∷ [])

pub entry_of_an_ended_rank_for_an_unstarted_is_unsound : sound entry_of_an_ended_rank_for_an_unstarted ≡ false
unfolding opened_names
entry_of_an_ended_rank_for_an_unstarted_is_unsound = names_unsound entry_of_an_ended_rank_for_an_unstarted refl

-- "no other vmid is 0.0"
abbrev pub running_unknown : State
running_unknown = changed everything (running 3 0 0 ∷ [])

pub running_unknown_is_unsound : sound running_unknown ≡ false
unfolding opened_names
running_unknown_is_unsound = names_unsound running_unknown refl

-- "no other vmid is 0.0"
abbrev pub mover_unknown : State
mover_unknown = changed everything (moving 6 0 0 4 2 ∷ [])

pub mover_unknown_is_unsound : sound mover_unknown ≡ false
unfolding opened_names
mover_unknown_is_unsound = names_unsound mover_unknown refl

-- "no other vmid is 0.0"
abbrev pub arrival_unknown : State
arrival_unknown = changed everything (moving 6 6 1 0 0 ∷ [])

pub arrival_unknown_is_unsound : sound arrival_unknown ≡ false
unfolding opened_names
arrival_unknown_is_unsound = names_unsound arrival_unknown refl

-- "no other vmid is 0.0"
abbrev pub ended_unknown : State
ended_unknown = changed everything (ended 4 0 0 ∷ [])

pub ended_unknown_is_unsound : sound ended_unknown ≡ false
unfolding opened_names
ended_unknown_is_unsound = names_unsound ended_unknown refl

-- "no other vmid is 0.0"
abbrev pub call_posted_to_unknown : State
call_posted_to_unknown = changed everything (call 3 0 0 0 ∷ [])

pub call_posted_to_unknown_is_unsound : sound call_posted_to_unknown ≡ false
unfolding opened_names
call_posted_to_unknown_is_unsound = names_unsound call_posted_to_unknown refl

-- "no other vmid is 0.0"
abbrev pub first_rank_unknown : State
first_rank_unknown = changed everything (running 0 0 0 ∷ [])

pub first_rank_unknown_is_unsound : sound first_rank_unknown ≡ false
unfolding opened_names
first_rank_unknown_is_unsound = names_unsound first_rank_unknown refl

-- "no other vmid is 0.0"
abbrev pub last_rank_unknown : State
last_rank_unknown = changed everything (drawn 7 1 ∷ running 15 7 1 ∷ tables 15 7 1 ∷ running 15 0 0 ∷ [])

pub last_rank_unknown_is_unsound : sound last_rank_unknown ≡ false
unfolding opened_names
last_rank_unknown_is_unsound = names_unsound last_rank_unknown refl

-- "no other vmid is 0.0"
abbrev pub call_of_the_first_rank_posted_to_unknown : State
call_of_the_first_rank_posted_to_unknown = changed everything (call 0 5 0 0 ∷ [])

pub call_of_the_first_rank_posted_to_unknown_is_unsound : sound call_of_the_first_rank_posted_to_unknown ≡ false
unfolding opened_names
call_of_the_first_rank_posted_to_unknown_is_unsound = names_unsound call_of_the_first_rank_posted_to_unknown refl

-- "no other vmid is 0.0"
abbrev pub call_of_the_last_rank_posted_to_unknown : State
call_of_the_last_rank_posted_to_unknown = changed everything (drawn 7 1 ∷ running 15 7 1 ∷ tables 15 7 1 ∷ call 15 5 0 0 ∷ [])

pub call_of_the_last_rank_posted_to_unknown_is_unsound : sound call_of_the_last_rank_posted_to_unknown ≡ false
unfolding opened_names
call_of_the_last_rank_posted_to_unknown_is_unsound = names_unsound call_of_the_last_rank_posted_to_unknown refl

-- "No two running processes, movers or arrivals share a vmid."
abbrev pub running_shares_with_running : State
running_shares_with_running = changed everything (running 5 0 1 ∷ [])

pub running_shares_with_running_is_unsound : sound running_shares_with_running ≡ false
unfolding opened_names
running_shares_with_running_is_unsound = names_unsound running_shares_with_running refl

-- "No two running processes, movers or arrivals share a vmid."
abbrev pub running_shares_with_mover : State
running_shares_with_mover = changed everything (running 5 1 1 ∷ [])

pub running_shares_with_mover_is_unsound : sound running_shares_with_mover ≡ false
unfolding opened_names
running_shares_with_mover_is_unsound = names_unsound running_shares_with_mover refl

-- "No two running processes, movers or arrivals share a vmid."
abbrev pub running_shares_with_arrival : State
running_shares_with_arrival = changed everything (running 5 5 1 ∷ [])

pub running_shares_with_arrival_is_unsound : sound running_shares_with_arrival ≡ false
unfolding opened_names
running_shares_with_arrival_is_unsound = names_unsound running_shares_with_arrival refl

-- "No two running processes, movers or arrivals share a vmid."
abbrev pub mover_shares_with_running : State
mover_shares_with_running = changed everything (moving 6 0 1 4 2 ∷ [])

pub mover_shares_with_running_is_unsound : sound mover_shares_with_running ≡ false
unfolding opened_names
mover_shares_with_running_is_unsound = names_unsound mover_shares_with_running refl

-- "No two running processes, movers or arrivals share a vmid."
abbrev pub mover_shares_with_mover : State
mover_shares_with_mover = changed everything (moving 6 1 1 4 2 ∷ [])

pub mover_shares_with_mover_is_unsound : sound mover_shares_with_mover ≡ false
unfolding opened_names
mover_shares_with_mover_is_unsound = names_unsound mover_shares_with_mover refl

-- "No two running processes, movers or arrivals share a vmid."
abbrev pub mover_shares_with_arrival_of_another : State
mover_shares_with_arrival_of_another = changed everything (moving 6 5 1 4 2 ∷ [])

pub mover_shares_with_arrival_of_another_is_unsound : sound mover_shares_with_arrival_of_another ≡ false
unfolding opened_names
mover_shares_with_arrival_of_another_is_unsound = names_unsound mover_shares_with_arrival_of_another refl

-- "No two running processes, movers or arrivals share a vmid."
abbrev pub mover_shares_with_its_arrival : State
mover_shares_with_its_arrival = changed everything (moving 6 4 2 4 2 ∷ [])

pub mover_shares_with_its_arrival_is_unsound : sound mover_shares_with_its_arrival ≡ false
unfolding opened_names
mover_shares_with_its_arrival_is_unsound = names_unsound mover_shares_with_its_arrival refl

-- "No two running processes, movers or arrivals share a vmid."
abbrev pub two_restart_on_one_host : State
two_restart_on_one_host = changed everything (drawn 4 6 ∷ moving 1 4 3 4 4 ∷ moving 6 4 5 4 6 ∷ [])

pub two_restart_on_one_host_is_sound : sound two_restart_on_one_host ≡ true
unfolding opened_sound
two_restart_on_one_host_is_sound = refl

-- "No two running processes, movers or arrivals share a vmid."
abbrev pub arrival_shares_with_running : State
arrival_shares_with_running = changed everything (moving 6 6 1 0 1 ∷ [])

pub arrival_shares_with_running_is_unsound : sound arrival_shares_with_running ≡ false
unfolding opened_names
arrival_shares_with_running_is_unsound = names_unsound arrival_shares_with_running refl

-- "No two running processes, movers or arrivals share a vmid."
abbrev pub arrival_shares_with_mover_of_another : State
arrival_shares_with_mover_of_another = changed everything (moving 6 6 1 1 1 ∷ [])

pub arrival_shares_with_mover_of_another_is_unsound : sound arrival_shares_with_mover_of_another ≡ false
unfolding opened_names
arrival_shares_with_mover_of_another_is_unsound = names_unsound arrival_shares_with_mover_of_another refl

-- "No two running processes, movers or arrivals share a vmid."
abbrev pub arrival_shares_with_arrival : State
arrival_shares_with_arrival = changed everything (moving 6 6 1 5 1 ∷ [])

pub arrival_shares_with_arrival_is_unsound : sound arrival_shares_with_arrival ≡ false
unfolding opened_names
arrival_shares_with_arrival_is_unsound = names_unsound arrival_shares_with_arrival refl

-- "No two running processes, movers or arrivals share a vmid."
abbrev pub last_ranks_share : State
last_ranks_share = changed everything (drawn 7 1 ∷ running 15 7 1 ∷ tables 15 7 1 ∷ running 14 7 1 ∷ tables 14 7 1 ∷ [])

pub last_ranks_share_is_unsound : sound last_ranks_share ≡ false
unfolding opened_names
last_ranks_share_is_unsound = names_unsound last_ranks_share refl

-- "No two running processes, movers or arrivals share a vmid."
abbrev pub last_rank_shares_with_its_arrival : State
last_rank_shares_with_its_arrival = changed everything (drawn 7 1 ∷ moving 15 7 1 7 1 ∷ tables 15 7 1 ∷ [])

pub last_rank_shares_with_its_arrival_is_unsound : sound last_rank_shares_with_its_arrival ≡ false
unfolding opened_names
last_rank_shares_with_its_arrival_is_unsound = names_unsound last_rank_shares_with_its_arrival refl

-- "No two running processes, movers or arrivals share a vmid."
abbrev pub first_and_last_rank_share : State
first_and_last_rank_share = changed everything (running 15 0 1 ∷ tables 15 0 1 ∷ [])

pub first_and_last_rank_share_is_unsound : sound first_and_last_rank_share ≡ false
unfolding opened_names
first_and_last_rank_share_is_unsound = names_unsound first_and_last_rank_share refl

-- "No two running processes, movers or arrivals share a vmid."
abbrev pub first_rank_shares_with_its_arrival : State
first_rank_shares_with_its_arrival = changed everything (moving 0 0 1 0 1 ∷ [])

pub first_rank_shares_with_its_arrival_is_unsound : sound first_rank_shares_with_its_arrival ≡ false
unfolding opened_names
first_rank_shares_with_its_arrival_is_unsound = names_unsound first_rank_shares_with_its_arrival refl

-- "No two running processes, movers or arrivals share a vmid." An ended rank has no process: its last vmid may be anybody's.
abbrev pub ended_rank_has_the_vmid_of_a_running_process : State
ended_rank_has_the_vmid_of_a_running_process = changed everything (ended 4 0 1 ∷ [])

pub ended_rank_has_the_vmid_of_a_running_process_is_sound : sound ended_rank_has_the_vmid_of_a_running_process ≡ true
unfolding opened_sound
ended_rank_has_the_vmid_of_a_running_process_is_sound = refl

-- "No two running processes, movers or arrivals share a vmid." An ended rank has no process: its last vmid may be anybody's.
abbrev pub ended_rank_has_the_vmid_of_a_mover : State
ended_rank_has_the_vmid_of_a_mover = changed everything (ended 4 1 1 ∷ [])

pub ended_rank_has_the_vmid_of_a_mover_is_sound : sound ended_rank_has_the_vmid_of_a_mover ≡ true
unfolding opened_sound
ended_rank_has_the_vmid_of_a_mover_is_sound = refl

-- "No two running processes, movers or arrivals share a vmid." An ended rank has no process: its last vmid may be anybody's.
abbrev pub ended_rank_has_the_vmid_of_an_arrival : State
ended_rank_has_the_vmid_of_an_arrival = changed everything (ended 4 5 1 ∷ [])

pub ended_rank_has_the_vmid_of_an_arrival_is_sound : sound ended_rank_has_the_vmid_of_an_arrival ≡ true
unfolding opened_sound
ended_rank_has_the_vmid_of_an_arrival_is_sound = refl

-- "No two running processes, movers or arrivals share a vmid." An ended rank has no process: its last vmid may be anybody's.
abbrev pub ended_ranks_have_one_last_vmid : State
ended_ranks_have_one_last_vmid = changed everything (ended 5 4 1 ∷ [])

pub ended_ranks_have_one_last_vmid_is_sound : sound ended_ranks_have_one_last_vmid ≡ true
unfolding opened_sound
ended_ranks_have_one_last_vmid_is_sound = refl
