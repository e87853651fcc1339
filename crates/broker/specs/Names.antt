-- Vmids, standings, requests, connections and backlogs: the tests on them that paper 01 words. Paper 01, "Names and places".
-- Assumes nothing.
use Rattle.std.specs.Prelude.{Bool, true, false, ◌&&◌, ◌||◌, List, [], ◌∷◌, ℕ, eqb, Option, None, Some}
use Rattle.transit.specs.Message.{is_same_rank}
use Rattle.transit.specs.declared.Rank.{Rank}
use Rattle.broker.specs.declared.link.Backlog.{Backlog}
use Rattle.broker.specs.declared.link.Backlog.TheVariants.{Clear, Unheeded, Marked}
use Rattle.broker.specs.declared.link.Connection.{Connection}
use Rattle.broker.specs.declared.link.Connection.TheVariants.{Closed, Open, Closing}
use Rattle.broker.specs.declared.process.Request.{Request}
use Rattle.broker.specs.declared.process.Status.{Status}
use Rattle.broker.specs.declared.process.Status.TheVariants.{Unstarted, Running, Migrating, Ended}
use Rattle.broker.specs.declared.process.Vmid.{Vmid}

-- "A vmid is a host, 0 to 7, and a number drawn on it, 1, 2, 3 up to 65,535."
abbrev pub hosts : ℕ
hosts = 8

abbrev pub numbers : ℕ
numbers = 65535

abbrev pub vmid : ℕ → ℕ → Vmid
vmid host number = record { 0 = host; 1 = number }

-- "0.0 (host 0, number 0: unknown)"
abbrev pub unknown : Vmid
unknown = vmid 0 0

abbrev pub same_vmid : Vmid → Vmid → Bool
same_vmid v w = eqb v.0 w.0 && eqb v.1 w.1

-- "A rank's standing is unstarted, running, moving or ended; the last three are started"
abbrev pub is_started : Status → Bool
is_started Unstarted = false
is_started (Running v) = true
is_started (Migrating v w) = true
is_started (Ended v) = true

abbrev pub is_running : Status → Bool
is_running Unstarted = false
is_running (Running v) = true
is_running (Migrating v w) = false
is_running (Ended v) = false

abbrev pub is_migrating : Status → Bool
is_migrating Unstarted = false
is_migrating (Running v) = false
is_migrating (Migrating v w) = true
is_migrating (Ended v) = false

abbrev pub is_ended : Status → Bool
is_ended Unstarted = false
is_ended (Running v) = false
is_ended (Migrating v w) = false
is_ended (Ended v) = true

-- running or moving
abbrev pub is_live : Status → Bool
is_live t = is_running t || is_migrating t

-- "Its current end is the arrival; otherwise the running process." "an ended rank keeps its last vmid"
abbrev pub endpoint : Status → Vmid
endpoint Unstarted = unknown
endpoint (Running v) = v
endpoint (Migrating source target) = target
endpoint (Ended v) = v

-- the running process, or the mover and the arrival
abbrev pub processes_of : Status → List Vmid
processes_of Unstarted = []
processes_of (Running v) = v ∷ []
processes_of (Migrating source target) = source ∷ target ∷ []
processes_of (Ended v) = []

-- these, and an ended rank's last vmid
abbrev pub vmids_of : Status → List Vmid
vmids_of Unstarted = []
vmids_of (Running v) = v ∷ []
vmids_of (Migrating source target) = source ∷ target ∷ []
vmids_of (Ended v) = v ∷ []

-- "A rank has at most one open call, with the rank called and the vmid it was posted to."
abbrev pub posted : Rank → Vmid → Option Request
posted b v = Some (record { to = b; vmid = v })

abbrev pub is_open_request : Option Request → Bool
is_open_request None = false
is_open_request (Some q) = true

abbrev pub asks_for : Rank → Option Request → Bool
asks_for b None = false
asks_for b (Some q) = is_same_rank q.to b

abbrev pub posted_to : Option Request → Vmid
posted_to None = unknown
posted_to (Some q) = q.vmid

-- "a line: none, plain, or notice"
abbrev pub is_closed : Connection → Bool
is_closed Closed = true
is_closed Open = false
is_closed Closing = false

abbrev pub is_open : Connection → Bool
is_open Closed = false
is_open Open = true
is_open Closing = false

abbrev pub is_closing : Connection → Bool
is_closing Closed = false
is_closing Open = false
is_closing Closing = true

-- "an await, for a moving rank: none, unheeded .., or marked"
abbrev pub is_clear : Backlog → Bool
is_clear Clear = true
is_clear Unheeded = false
is_clear Marked = false

abbrev pub is_unheeded : Backlog → Bool
is_unheeded Clear = false
is_unheeded Unheeded = true
is_unheeded Marked = false

abbrev pub is_marked : Backlog → Bool
is_marked Clear = false
is_marked Unheeded = false
is_marked Marked = true
