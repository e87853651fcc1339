-- What a pair has unread over a list of steps. Assumes nothing.
use Rattle.std.specs.Prelude.{List, ◌≤◌}
use Rattle.transit.specs.Unread.{limit}
use Rattle.transit.specs.declared.Rank.{Rank}
use Rattle.protocol.specs.Laws.Counts.{sound_count_limit}
use Rattle.protocol.specs.Messages.{unread_between}
use Rattle.broker.specs.State.{fresh}
use Rattle.ordering.specs.Claim.{Reading, after}
use Rattle.ordering.specs.Laws.Runs.{fresh_sound, sound_after}

-- Paper 02, change 3: "The unread count of a pair never passes 1,024."
pub count_never_passes : (xs : List Reading) (a b : Rank) → unread_between a b (after fresh xs) ≤ limit
count_never_passes xs a b = sound_count_limit (after fresh xs) (sound_after xs fresh fresh_sound) a b
