-- What a test or a reading of the standings sees of all ranks, and what of a state is unseen by calls and routes.
-- Assumes nothing.
use Rattle.std.specs.Prelude.{◌≡◌, refl, List, map, get_or, Option, None}
use Rattle.std.proofs.Common.{◌∙◌}
use Rattle.std.proofs.Math.ListN.{get_or-map}
use Rattle.std.proofs.Math.Seq.{map-set_same}
use Rattle.transit.specs.declared.Rank.{Rank}
use Rattle.protocol.specs.Connect.{call, route, withdraw, connect_both}
use Rattle.base.specs.Laws.Tests.{chosen}
use Rattle.protocol.specs.Laws.Cases.{route_cases}
use Rattle.broker.specs.Names.{asks_for}
use Rattle.broker.specs.State.{State, idle, status, request, with_status, with_request, with_links, with_locations}
use Rattle.broker.specs.declared.link.Connection.TheVariants.{Open}
use Rattle.broker.specs.declared.link.Link.{Link}
use Rattle.broker.specs.declared.process.Process.{Process}
use Rattle.broker.specs.declared.process.Request.{Request}
use Rattle.broker.specs.declared.process.Status.{Status}
use Rattle.broker.specs.declared.process.Status.TheVariants.{Unstarted}
use Rattle.broker.specs.declared.process.Vmid.{Vmid}

-- what is read of each rank's standing
abbrev pub standings : {A : Type 0} → (Status → A) → State → List A
standings f s = map (λ (p : Process). f p.status) s.processes

module _ {A : Type 0} (f : Status → A) (s : State) (r : Rank) where
  pub standing_at : get_or (standings f s) r.0 (f Unstarted) ≡ f (status s r)
  standing_at = get_or-map (λ (p : Process). f p.status) s.processes r.0 idle

  -- A standing that reads the same is not seen, nor is a call.
  pub standings_with_status : (t : Status) → f t ≡ f (status s r) → standings f (with_status r t s) ≡ standings f s
  standings_with_status t e =
      map-set_same (λ (p : Process). f p.status) s.processes r.0 (record { status = t; request = request s r }) idle e

  pub standings_with_request : (q : Option Request) → standings f (with_request r q s) ≡ standings f s
  standings_with_request q =
      map-set_same (λ (p : Process). f p.status) s.processes r.0 (record { status = status s r; request = q }) idle refl

-- What is not seen of calls is not seen of one that closes; and what is not seen of lines and tables either, of a call and a route.
module _ {A : Type 0} (see : State → A) (calls : (s : State) (r : Rank) (q : Option Request) → see (with_request r q s) ≡ see s) where
  pub withdraw_unseen : (a b : Rank) (s : State) → see (withdraw a b s) ≡ see s
  withdraw_unseen a b s =
      chosen (λ t. see t ≡ see s) (asks_for b (request s a)) (with_request a None s) s (λ e. calls s a None) (λ e. refl)

  pub call_unseen : (a b : Rank) (s : State) → see (call a b s).state ≡ see s
  unfolding call
  call_unseen a b s = calls s a _

  pub route_unseen : ((s : State) (ls : List Link) → see (with_links ls s) ≡ see s)
      → ((s : State) (vs : List Vmid) → see (with_locations vs s) ≡ see s)
      → (a b : Rank) (s : State) → see (route a b s).state ≡ see s
  route_unseen lines tables a b s =
      let joined = connect_both a b Open s in
      route_cases (λ t. see t ≡ see s) a b s (calls s a None)
      (withdraw_unseen b a (withdraw a b joined) ∙ withdraw_unseen a b joined ∙ lines s _) (calls _ a _ ∙ tables s _)
