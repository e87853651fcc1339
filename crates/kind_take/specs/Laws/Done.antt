-- What a take leaves and answers, by what became of the messages. Assumes nothing.
use Rattle.std.specs.Prelude.{Some, ◌≡◌, true, ℕ, ◌<◌}
use Rattle.transit.specs.Laws.Promise.{first_removed}
use Rattle.base.specs.Lists.{tally, without}
use Rattle.transit.specs.Message.{between, ranks}
use Rattle.transit.specs.Unread.{Unread, counted, first_sent}
use Rattle.transit.specs.declared.Message.{Message}
use Rattle.transit.specs.declared.Rank.{Rank}
use Rattle.transit.specs.declared.Selection.TheVariants.{Between}
use Rattle.protocol.specs.Laws.Sound.{facts}
use Rattle.protocol.specs.Done.{done}
use Rattle.protocol.specs.Messages.{take}
use Rattle.protocol.specs.Sound.{sound}
use Rattle.broker.specs.State.{State, with_unread}

module _ (a b : Rank) (known : State) (u : Unread) {u' : Unread} where
  -- the pair's first message has left, which in a sound state is the first in place order
  pub take_done :
      {m : Message} {left : ℕ} → first_sent (Between a b) u ≡ Some m →
      u' ≡ counted u.sent (without (between a b) u.messages) →
      left ≡ tally (between a b) u'.messages →
      a.0 < ranks → b.0 < ranks →
      0 < tally (between a b) u.messages →
      sound (with_unread u known) ≡ true →
      done (with_unread u' known) m.value left m.sequence ≡ take b a (with_unread u known)
  unfolding take
  take_done first rest counts in_a in_b some ok =
      rw (first_removed a b u first some ((facts (with_unread u known) ok).mail.places_rise_lem a b in_a in_b), counts, rest)
