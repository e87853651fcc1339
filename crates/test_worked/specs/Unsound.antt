-- A state that breaks the clauses of one group is unsound, whatever the other groups say of it. Assumes nothing.
use Rattle.std.specs.Prelude.{◌≡◌, false}
use Rattle.std.proofs.Math.Bool.{and-false}
use Rattle.protocol.specs.Sound.{sound, names_sound, pairs_sound, messages_sound}
use Rattle.broker.specs.State.{State}

pub names_unsound : (s : State) → names_sound s ≡ false → sound s ≡ false
unfolding sound
names_unsound s h = rw (h, and-false)

pub pairs_unsound : (s : State) → pairs_sound s ≡ false → sound s ≡ false
unfolding sound
pairs_unsound s h = rw (h, and-false)

pub messages_unsound : (s : State) → messages_sound s ≡ false → sound s ≡ false
unfolding sound
messages_unsound s h = rw (h, and-false)
