-- What a heed leaves and answers, by what became of the messages and of what is known of the ranks. Assumes nothing.
use Rattle.std.specs.Prelude.{◌≡◌, ℕ}
use Rattle.std.proofs.Math.Path.{ap}
use Rattle.std.proofs.Common.{◌∙◌}
use Rattle.base.specs.Lists.{tally}
use Rattle.transit.specs.Message.{picks}
use Rattle.transit.specs.Unread.{Unread, relabel_all}
use Rattle.transit.specs.declared.Place.TheVariants.{EndList}
use Rattle.transit.specs.declared.Rank.{Rank}
use Rattle.broker.specs.State.{connect, await, State, with_links, with_unread}
use Rattle.protocol.specs.Connect.{on_channel}
use Rattle.protocol.specs.Done.{done}
use Rattle.protocol.specs.Migrate.{heed}
use Rattle.broker.specs.declared.link.Backlog.TheVariants.{Marked}
use Rattle.broker.specs.declared.link.Connection.TheVariants.{Closed}

module _ (known : State) (u : Unread) {u' : Unread} where
  -- the channel is read, the line closes, and the mover's await is marked
  pub heed_done :
      (b r : Rank) {n : ℕ} {closed marked : State} →
      u' ≡ relabel_all (on_channel r b) EndList u →
      n ≡ tally (picks (on_channel r b)) u.messages →
      closed ≡ with_links (connect b r Closed known.links) known →
      marked ≡ with_links (await r b Marked closed.links) closed →
      done (with_unread u' marked) n 0 0 ≡ heed b r (with_unread u known)
  unfolding heed
  heed_done b r {n} {marked = marked} read moved closes marks =
      ap (λ (v : Unread). done (with_unread v marked) n 0 0) read ∙ rw (marks, closes, moved)
