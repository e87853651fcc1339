-- What a send leaves and answers, by what became of the messages. Assumes nothing.
use Rattle.std.specs.Prelude.{◌≡◌, ℕ}
use Rattle.base.specs.Lists.{tally}
use Rattle.transit.specs.Message.{between}
use Rattle.transit.specs.Unread.{Unread, appended}
use Rattle.transit.specs.declared.Place.{Place}
use Rattle.transit.specs.declared.Rank.{Rank}
use Rattle.protocol.specs.Done.{done}
use Rattle.protocol.specs.Messages.{place_over, send}
use Rattle.broker.specs.State.{State, connection, with_unread}

module _ (a b : Rank) (known : State) (u : Unread) {u' : Unread} where
  -- the message is behind all others
  pub send_done :
      {n : ℕ} (v : ℕ) (p : Place) →
      p ≡ place_over (connection known a b) →
      u' ≡ (appended u a b p v).unread →
      n ≡ tally (between a b) u'.messages →
      done (with_unread u' known) n 0 0 ≡ send a b v (with_unread u known)
  unfolding send
  send_done v p e last pair = rw (pair, ← e, ← last)
