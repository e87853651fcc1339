-- How many messages a pair has unread. Paper 02, change 3: "The unread count of a pair never passes 1,024." Assumes nothing.
use Rattle.std.specs.Prelude.{true, ◌≡◌, ◌≤◌}
use Rattle.std.proofs.Common.{arith}
use Rattle.base.specs.Laws.Lists.{tally_bounded}
use Rattle.transit.specs.Message.{between}
use Rattle.transit.specs.Unread.{limit}
use Rattle.transit.specs.declared.Rank.{Rank}
use Rattle.protocol.specs.Laws.Sound.{facts}
use Rattle.protocol.specs.Messages.{unread_between}
use Rattle.protocol.specs.Sound.{sound}
use Rattle.broker.specs.State.{State, messages}

pub sound_count_limit : (s : State) → sound s ≡ true → (a b : Rank) → unread_between a b s ≤ limit
sound_count_limit s h a b =
    let mail = (facts s h).mail in
    omega (arith, tally_bounded (between a b) (messages s), mail.few, mail.counted)
