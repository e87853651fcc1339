-- What a landing leaves and answers, by what became of the messages and of what is known of the ranks. Assumes nothing.
use Rattle.std.specs.Prelude.{◌≡◌, ℕ}
use Rattle.std.proofs.Common.{ap, ◌∙◌}
use Rattle.base.specs.Lists.{tally}
use Rattle.transit.specs.Message.{picks}
use Rattle.transit.specs.Unread.{Unread, relabel_all}
use Rattle.transit.specs.declared.Place.TheVariants.{SourceList, EndList}
use Rattle.transit.specs.declared.Rank.{Rank}
use Rattle.transit.specs.declared.Selection.TheVariants.{ToAt}
use Rattle.broker.specs.State.{State, status, with_status, with_unread}
use Rattle.protocol.specs.Done.{done}
use Rattle.protocol.specs.Migrate.{land}
use Rattle.broker.specs.Names.{endpoint}
use Rattle.broker.specs.declared.process.Status.TheVariants.{Running}

module _ (known : State) (u : Unread) {u' : Unread} where
  -- the arrival has the mover's list, and runs
  pub land_done :
      (r : Rank) {n : ℕ} {running : State} →
      u' ≡ relabel_all (ToAt r SourceList) EndList u →
      running ≡ with_status r (Running (endpoint (status known r))) known →
      n ≡ tally (picks (ToAt r EndList)) u'.messages →
      done (with_unread u' running) n 0 0 ≡ land r (with_unread u known)
  unfolding land
  land_done r {running = running} moved runs counted =
      rw counted
      (ap (λ (v : Unread). done (with_unread v running) (tally (picks (ToAt r EndList)) v.messages) 0 0)
      moved ∙
      rw runs)
