-- The state that a roster holds: five columns, one behind the other, of standings (16), calls (16), table entries (256), links (256)
-- and numbers drawn (8). Paper 01, "Names and places". Assumes nothing.
use Rattle.std.specs.Prelude.{◌≡◌, List, ℕ, ◌+◌, length, get_or}
use Rattle.base.specs.Lists.{tabulate}
use Rattle.broker.specs.Names.{hosts}
use Rattle.transit.specs.Message.{ranks, cells}
use Rattle.transit.specs.Unread.{nothing}
use Rattle.broker.specs.State.{State}
use Rattle.broker.specs.declared.link.Link.{Link}
use Rattle.broker.specs.declared.process.Process.{Process}
use Rattle.broker.specs.declared.process.Vmid.{Vmid}
use Rattle.roster.specs.Numbers.{vmid_of, status_of, request_of, link_of, drawn_of}

-- Where each column behind the standings starts, and how long all five are.
abbrev pub REQUESTS : ℕ
REQUESTS = 16

abbrev pub LOCATIONS : ℕ
LOCATIONS = 32

abbrev pub LINKS : ℕ
LINKS = 288

abbrev pub DRAWN : ℕ
DRAWN = 544

abbrev pub roster_length : ℕ
roster_length = 552

-- a rank's process: its standing and its call
abbrev pub process_in : List ℕ → ℕ → Process
process_in l k = record { status = status_of (get_or l k 0); request = request_of (get_or l (REQUESTS + k) 0) }

-- a table entry, by its cell
abbrev pub location_in : List ℕ → ℕ → Vmid
location_in l k = vmid_of (get_or l (LOCATIONS + k) 0)

-- a link, by its cell
abbrev pub link_in : List ℕ → ℕ → Link
link_in l k = link_of (get_or l (LINKS + k) 0)

-- how many numbers are drawn on a host
abbrev pub drawn_in : List ℕ → ℕ → ℕ
drawn_in l k = drawn_of (get_or l (DRAWN + k) 0)

-- the state that a roster holds, without messages
unfoldable pub ranks_of : List ℕ → State
ranks_of l =
    record {
      processes = tabulate ranks (process_in l);
      locations = tabulate cells (location_in l);
      links = tabulate cells (link_in l);
      drawn = tabulate hosts (drawn_in l);
      unread = nothing;
    }

-- all five columns are there
abbrev pub Whole : List ℕ → Type 0
Whole roster = length roster ≡ roster_length

-- the roster is whole, and holds the state
pub record Holds (roster : List ℕ) (s : State) : Type 0 where
  pub long : Whole roster
  pub same : ranks_of roster ≡ s
