-- Call, route and part: what each does to the state and answers. Paper 01, "The step log", kinds 02, 03 and 0A.
-- Assumes nothing.
use Rattle.std.specs.Prelude.{cond, set, None}
use Rattle.base.specs.Lists.{tally}
use Rattle.transit.specs.Message.{picks}
use Rattle.transit.specs.Unread.{relabel_all}
use Rattle.transit.specs.declared.Place.TheVariants.{EndList, Channel}
use Rattle.transit.specs.declared.Rank.{Rank}
use Rattle.transit.specs.declared.Selection.{Selection}
use Rattle.transit.specs.declared.Selection.TheVariants.{BetweenAt}
use Rattle.protocol.specs.Done.{Done, done}
use Rattle.broker.specs.Names.{same_vmid, is_ended, endpoint, asks_for, posted_to, posted}
use Rattle.broker.specs.State.{
  State,
  cell,
  status,
  request,
  location,
  messages,
  with_request,
  with_locations,
  with_links,
  with_unread,
  connect,
}
use Rattle.broker.specs.declared.link.Connection.{Connection}
use Rattle.broker.specs.declared.link.Connection.TheVariants.{Closed, Open}
use Rattle.broker.specs.declared.process.Vmid.{Vmid}

-- "opens a's call, posted to a's entry for b. v1 host, v2 number."
unfoldable pub call : Rank → Rank → State → Done
call a b s =
    done (with_request a (posted b (location s a b)) s) (location s a b).0 (location s a b).1 0

-- both lines between a and b
abbrev pub connect_both : Rank → Rank → Connection → State → State
connect_both a b c s = with_links (connect b a c (connect a b c s.links)) s

-- a's call closes if it goes to b
abbrev pub withdraw : Rank → Rank → State → State
withdraw a b s = cond (asks_for b (request s a)) (with_request a None s) s

-- "if b is ended, the call closes, v1 is 2"
abbrev pub route_to_ended : Rank → Rank → State → Done
route_to_ended a b s = done (with_request a None s) 2 0 0

-- "a plain line stands both ways, calls a to b and b to a close, v1 is 0, v2 and v3 host and number"
abbrev pub route_there : Rank → Rank → Vmid → State → Done
route_there a b v s = done (withdraw b a (withdraw a b (connect_both a b Open s))) 0 v.0 v.1

-- "Otherwise v1 is 1, and a's entry and the posted vmid become b's current end, given in v2 and v3."
abbrev pub route_on : Rank → Rank → Vmid → State → Done
route_on a b v s =
    done (with_request a (posted b v) (with_locations (set s.locations (cell a b) v) s)) 1 v.0 v.1

-- "if b is ended ..", "If the posted vmid is b's current end ..", "Otherwise .."
unfoldable pub route : Rank → Rank → State → Done
route a b s =
    cond (is_ended (status s b)) (route_to_ended a b s)
    (cond (same_vmid (posted_to (request s a)) (endpoint (status s b)))
    (route_there a b (endpoint (status s b)) s)
    (route_on a b (endpoint (status s b)) s))

-- the messages from a to b on the lane to b's current end
abbrev pub on_channel : Rank → Rank → Selection
on_channel a b = BetweenAt a b Channel

-- "place 3 goes to 2 for both directions; lines become none. v1 messages moved towards a, v2 towards b."
unfoldable pub part : Rank → Rank → State → Done
part a b s =
    done
    (connect_both a b Closed
    (with_unread (relabel_all (on_channel a b) EndList (relabel_all (on_channel b a) EndList s.unread)) s))
    (tally (picks (on_channel b a)) (messages s))
    (tally (picks (on_channel a b)) (messages s))
    0
