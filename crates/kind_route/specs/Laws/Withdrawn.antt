-- Whether a call closes is no matter of the messages; and both lines, and then the calls of both. Assumes nothing.
use Rattle.std.specs.Prelude.{Bool, true, false, cond, ◌≡◌, refl, None}
use Rattle.std.proofs.Common.{ap, ◌∙◌}
use Rattle.transit.specs.Unread.{Unread}
use Rattle.transit.specs.declared.Rank.{Rank}
use Rattle.protocol.specs.Connect.{connect_both, withdraw, route_there}
use Rattle.protocol.specs.Done.{done}
use Rattle.broker.specs.Names.{asks_for}
use Rattle.broker.specs.State.{State, request, with_request, with_unread}
use Rattle.broker.specs.declared.link.Connection.TheVariants.{Open}
use Rattle.broker.specs.declared.process.Vmid.{Vmid}

pub withdraw_unread : (a b : Rank) (u : Unread) (s : State) → with_unread u (withdraw a b s) ≡ withdraw a b (with_unread u s)
withdraw_unread a b u s = at (asks_for b (request s a))
  where
    at : (t : Bool) →
        with_unread u (cond t (with_request a None s) s) ≡
        cond t (with_request a None (with_unread u s)) (with_unread u s)
    at true = refl
    at false = refl

pub routed_there :
    (a b : Rank) (v : Vmid) (u : Unread) (known : State) {joined answered crossed : State} →
    joined ≡ connect_both a b Open known →
    answered ≡ withdraw a b joined →
    crossed ≡ withdraw b a answered →
    done (with_unread u crossed) 0 v.0 v.1 ≡ route_there a b v (with_unread u known)
routed_there a b v u known join answer cross =
    let both = connect_both a b Open known in
    ap (λ (s : State). done s 0 v.0 v.1)
    (ap (with_unread u) (cross ∙ ap (withdraw b a) (answer ∙ ap (withdraw a b) join)) ∙
    withdraw_unread b a u (withdraw a b both) ∙
    ap (withdraw b a) (withdraw_unread a b u both))
