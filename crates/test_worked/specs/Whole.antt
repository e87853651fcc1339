-- The states of crates/test_spoiled/stdin, section Whole, and of each the theorem that it is sound or unsound.
-- Written from that list by the Rust tests. Assumes nothing.
use Rattle.std.specs.Prelude.{◌≡◌, refl, true, [], ◌∷◌}
use Rattle.protocol.specs.Laws.Opened.{opened_sound}
use Rattle.protocol.specs.Sound.{sound}
use Rattle.broker.specs.State as Desk
use Rattle.broker.specs.State.{State}
use Rattle.test_worked.specs.Words.{
  changed,
  fresh,
  running,
  moving,
  ended,
  drawn,
  table,
  tables,
  call,
  plain,
  notice,
  unheeded,
  marked,
  message,
}

-- "A state is sound when all of these hold." Every standing, line, await and place is here.
abbrev pub everything : State
everything =
    changed Desk.fresh
    (drawn 0 2 ∷ drawn 1 1 ∷ drawn 2 1 ∷ drawn 3 1 ∷ drawn 4 2 ∷ drawn 5 1 ∷ drawn 6 1 ∷ running 0 0 1 ∷ moving 1 1 1 5 1 ∷ running 2 2 1 ∷
    running 3 3 1 ∷ ended 4 4 1 ∷ running 5 0 2 ∷ moving 6 6 1 4 2 ∷ tables 0 0 1 ∷ tables 1 1 1 ∷ table 2 1 5 1 ∷ tables 2 2 1 ∷
    tables 3 3 1 ∷ tables 4 4 1 ∷ tables 5 0 2 ∷ tables 6 6 1 ∷ call 3 0 0 1 ∷ plain 0 2 ∷ plain 2 0 ∷ plain 1 2 ∷ plain 2 1 ∷ notice 0 1 ∷
    unheeded 1 0 ∷ marked 1 2 ∷ message 0 1 0 50 ∷ message 0 1 1 51 ∷ message 2 1 1 52 ∷ message 1 2 2 53 ∷ message 5 3 2 54 ∷
    message 2 1 3 55 ∷ message 0 1 1 56 ∷ message 0 2 3 57 ∷ message 0 2 3 58 ∷ [])

pub everything_is_sound : sound everything ≡ true
unfolding opened_sound
everything_is_sound = refl

-- "A fresh desk has no rank started, no messages, no numbers drawn, and table entries 0.0"
abbrev pub fresh_desk : State
fresh_desk = changed everything (fresh ∷ [])

pub fresh_desk_is_sound : sound fresh_desk ≡ true
unfolding opened_sound
fresh_desk_is_sound = refl
