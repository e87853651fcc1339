-- What a drain leaves and answers, by what it found. Assumes nothing.
use Rattle.std.specs.Prelude.{Some, None, ◌≡◌}
use Rattle.std.proofs.Math.Path.{ap}
use Rattle.std.proofs.Common.{◌∙◌}
use Rattle.transit.specs.Unread.{Unread, first_sent, relabel_first}
use Rattle.transit.specs.declared.Message.{Message}
use Rattle.transit.specs.declared.Place.TheVariants.{SourceList}
use Rattle.transit.specs.declared.Rank.{Rank}
use Rattle.broker.specs.State.{await, State, with_links, with_unread}
use Rattle.protocol.specs.Done.{done}
use Rattle.protocol.specs.Migrate.{on_source_channel, drain}
use Rattle.broker.specs.declared.link.Backlog.TheVariants.{Clear}

module _ (known : State) (u : Unread) {u' : Unread} where
  -- the first message on the channel is read into the mover's list
  pub drain_message :
      (r p : Rank) (m : Message) →
      Some m ≡ first_sent (on_source_channel p r) u →
      u' ≡ relabel_first (on_source_channel p r) SourceList u →
      done (with_unread u' known) 0 m.value m.sequence
      ≡ drain r p (with_unread u known)
  unfolding drain
  drain_message r p m found read =
      ap (λ (v : Unread). done (with_unread v known) 0 m.value m.sequence) read ∙ rw (← found)

-- the end marker is read
pub drain_marker :
    (known : State) (r p : Rank) (u : Unread) {cleared : State} →
    None ≡ first_sent (on_source_channel p r) u →
    cleared ≡ with_links (await r p Clear known.links) known →
    done (with_unread u cleared) 1 0 0 ≡ drain r p (with_unread u known)
unfolding drain
drain_marker known r p u found clears = rw (← found, clears)
