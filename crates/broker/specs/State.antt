-- The abstract state, its parts and their changes, and the fresh state. Paper 01, "Names and places".
-- Assumes nothing.
use Rattle.std.specs.Prelude.{not, List, ℕ, ◌+◌, ◌*◌, get_or, set, replicate, Option, None}
use Rattle.transit.specs.Message.{ranks, cells}
use Rattle.transit.specs.Unread.{Unread, nothing, unread_of}
use Rattle.transit.specs.declared.Message.{Message}
use Rattle.transit.specs.declared.Rank.{Rank}
use Rattle.broker.specs.Names.{unknown, vmid, is_clear, hosts}
use Rattle.broker.specs.Ranks.{count_ranks}
use Rattle.broker.specs.declared.link.Backlog.{Backlog}
use Rattle.broker.specs.declared.link.Backlog.TheVariants.{Clear}
use Rattle.broker.specs.declared.link.Connection.{Connection}
use Rattle.broker.specs.declared.link.Connection.TheVariants.{Closed}
use Rattle.broker.specs.declared.link.Link.{Link}
use Rattle.broker.specs.declared.process.Process.{Process}
use Rattle.broker.specs.declared.process.Request.{Request}
use Rattle.broker.specs.declared.process.Status.{Status}
use Rattle.broker.specs.declared.process.Status.TheVariants.{Unstarted}
use Rattle.broker.specs.declared.process.Vmid.{Vmid}
use Rattle.broker.specs.declared.state.Broker.{Broker}

-- a process for each rank; for each rank and each rank, row after row, the first one's belief about the second, and its link to it;
-- how many numbers are drawn on each host; and the unread messages
pub record State : Type 0 where
  pub processes : List Process
  pub locations : List Vmid
  pub links : List Link
  pub drawn : List ℕ
  pub unread : Unread

-- what a `Broker` holds: all of it but the unused message slots
abbrev pub view : Broker → State
view broker =
    record {
      processes = broker.processes;
      locations = broker.locations;
      links = broker.links;
      drawn = broker.drawn;
      unread = unread_of broker.transit;
    }

abbrev pub idle : Process
idle = record { status = Unstarted; request = None }

abbrev pub apart : Link
apart = record { connection = Closed; backlog = Clear }

-- "A fresh desk has no rank started, no messages, no numbers drawn, and table entries 0.0"
abbrev pub fresh : State
fresh =
    record {
      processes = replicate ranks idle;
      locations = replicate cells unknown;
      links = replicate cells apart;
      drawn = replicate hosts 0;
      unread = nothing;
    }

-- where a's entry for b stands among sixteen rows of sixteen
abbrev pub cell : Rank → Rank → ℕ
cell a b = ranks * a.0 + b.0

abbrev pub link_at : List Link → Rank → Rank → Link
link_at ls a b = get_or ls (cell a b) apart

abbrev pub set_link : List Link → Rank → Rank → Link → List Link
set_link ls a b l = set ls (cell a b) l

abbrev pub process : State → Rank → Process
process s r = get_or s.processes r.0 idle

-- a rank's standing
abbrev pub status : State → Rank → Status
status s r = (process s r).status

-- a rank's call
abbrev pub request : State → Rank → Option Request
request s r = (process s r).request

-- a's table entry for b
abbrev pub location : State → Rank → Rank → Vmid
location s a b = get_or s.locations (cell a b) unknown

-- a's line to b
abbrev pub connection : State → Rank → Rank → Connection
connection s a b = (link_at s.links a b).connection

-- a's await of b
abbrev pub backlog : State → Rank → Rank → Backlog
backlog s a b = (link_at s.links a b).backlog

-- how many numbers are drawn on the host
abbrev pub drawn_on : State → ℕ → ℕ
drawn_on s h = get_or s.drawn h 0

-- the unread messages in order of sending
abbrev pub messages : State → List Message
messages s = s.unread.messages

abbrev pub with_process : Rank → Process → State → State
with_process r p s =
    record {
      processes = set s.processes r.0 p;
      locations = s.locations;
      links = s.links;
      drawn = s.drawn;
      unread = s.unread;
    }

abbrev pub with_status : Rank → Status → State → State
with_status r t s = with_process r (record { status = t; request = request s r }) s

abbrev pub with_request : Rank → Option Request → State → State
with_request r q s = with_process r (record { status = status s r; request = q }) s

abbrev pub with_locations : List Vmid → State → State
with_locations ls s =
    record { processes = s.processes; locations = ls; links = s.links; drawn = s.drawn; unread = s.unread }

abbrev pub with_links : List Link → State → State
with_links ls s =
    record { processes = s.processes; locations = s.locations; links = ls; drawn = s.drawn; unread = s.unread }

abbrev pub with_drawn : ℕ → ℕ → State → State
with_drawn h n s =
    record {
      processes = s.processes;
      locations = s.locations;
      links = s.links;
      drawn = set s.drawn h n;
      unread = s.unread;
    }

abbrev pub with_unread : Unread → State → State
with_unread u s =
    record { processes = s.processes; locations = s.locations; links = s.links; drawn = s.drawn; unread = u }

-- "h's next number"
abbrev pub next_vmid : State → ℕ → Vmid
next_vmid s h = vmid h (drawn_on s h + 1)

-- that number is drawn
abbrev pub draw : ℕ → State → State
draw h s = with_drawn h (drawn_on s h + 1) s

-- a's line to b, and nothing else
abbrev pub connect : Rank → Rank → Connection → List Link → List Link
connect a b c ls = set_link ls a b (record { connection = c; backlog = (link_at ls a b).backlog })

-- r's await of p, and nothing else
abbrev pub await : Rank → Rank → Backlog → List Link → List Link
await r p g ls = set_link ls r p (record { connection = (link_at ls r p).connection; backlog = g })

-- how many awaits of r are not none
abbrev pub awaits_of : Rank → List Link → ℕ
awaits_of r ls = count_ranks (λ p. not (is_clear (link_at ls r p).backlog))
