-- What a move leaves and answers, by what became of the messages and of what is known of the ranks. Assumes nothing.
use Rattle.std.specs.Prelude.{◌≡◌, ℕ, ◌+◌}
use Rattle.std.proofs.Common.{ap, ◌∙◌}
use Rattle.transit.specs.Unread.{Unread}
use Rattle.transit.specs.declared.Rank.{Rank}
use Rattle.protocol.specs.Done.{done}
use Rattle.protocol.specs.Migrate.{left_behind, leave_all, move}
use Rattle.broker.specs.State.{awaits_of, State, status, drawn_on, with_drawn, with_status, with_links, with_unread}
use Rattle.broker.specs.Names.{endpoint, vmid}
use Rattle.broker.specs.declared.process.Status.TheVariants.{Migrating}
use Rattle.broker.specs.declared.process.Vmid.{Vmid}

-- a number is drawn, the rank migrates, its messages stay behind and its lines are left
pub move_done :
    (r : Rank) (h : ℕ) (known : State) (u : Unread) {n k : ℕ} {source : Vmid} {u' : Unread} {drawn standing left : State} →
    n ≡ drawn_on known h →
    source ≡ endpoint (status known r) →
    drawn ≡ with_drawn h (n + 1) known →
    standing ≡ with_status r (Migrating source (vmid h (n + 1))) drawn →
    left ≡ with_links (leave_all r standing.links) standing →
    k ≡ awaits_of r left.links →
    u' ≡ left_behind r u →
    done (with_unread u' left) h (n + 1) k ≡ move r h (with_unread u known)
unfolding move
move_done r h known u {n} {k} {left = left} next from draws moves leaves awaits stays =
    ap (λ (x : Unread). done (with_unread x left) h (n + 1) k) stays ∙ rw (awaits, leaves, moves, draws, from, next)
