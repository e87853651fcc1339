-- What becomes of a call, by what is found of the two ranks. Assumes nothing.
use Rattle.std.specs.Prelude.{◌≡◌, true, false, Option}
use Rattle.transit.specs.declared.Rank.{Rank}
use Rattle.protocol.specs.Connect.{route_to_ended, route_there, route_on, route}
use Rattle.broker.specs.Names.{same_vmid, is_ended, endpoint, posted_to}
use Rattle.broker.specs.State.{State, status, request}
use Rattle.broker.specs.declared.process.Request.{Request}
use Rattle.broker.specs.declared.process.Status.{Status}
use Rattle.broker.specs.declared.process.Vmid.{Vmid}

-- what the code found: the call and the vmid that it was posted to, the standing of the rank called and its current end
pub record Found (a b : Rank) (s : State) (call : Option Request) (posted : Vmid) (standing : Status) (end : Vmid) : Type 0 where
  pub calls : call ≡ request s a
  pub posts : posted ≡ posted_to call
  pub stands : standing ≡ status s b
  pub ends : end ≡ endpoint standing

module _
    {a b : Rank} {s : State} {call : Option Request} {posted : Vmid} {standing : Status} {end : Vmid}
    (f : Found a b s call posted standing end) where
  pub route_ended : is_ended standing ≡ true → route_to_ended a b s ≡ route a b s
  unfolding route
  route_ended h = rw (← f.stands, h)

  pub route_arrives : is_ended standing ≡ false → same_vmid posted end ≡ true → route_there a b end s ≡ route a b s
  unfolding route
  route_arrives h e = rw (← f.stands, h, ← f.calls, ← f.posts, ← f.ends, e)

  pub route_goes_on : is_ended standing ≡ false → same_vmid posted end ≡ false → route_on a b end s ≡ route a b s
  unfolding route
  route_goes_on h e = rw (← f.stands, h, ← f.calls, ← f.posts, ← f.ends, e)
