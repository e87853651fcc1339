-- What a number of a roster stands for: every number stands for something, and zero for what a fresh desk has.
-- Paper 01, "Names and places". Assumes nothing.
use Rattle.std.specs.Prelude.{cond, ℕ, ◌/◌, ◌%◌, eqb, Option, None}
use Rattle.broker.specs.Names.{vmid, posted}
use Rattle.transit.specs.Message.{rank}
use Rattle.broker.specs.declared.link.Backlog.{Backlog}
use Rattle.broker.specs.declared.link.Backlog.TheVariants.{Clear, Unheeded, Marked}
use Rattle.broker.specs.declared.link.Connection.{Connection}
use Rattle.broker.specs.declared.link.Connection.TheVariants.{Closed, Open, Closing}
use Rattle.broker.specs.declared.link.Link.{Link}
use Rattle.broker.specs.declared.process.Request.{Request}
use Rattle.broker.specs.declared.process.Status.{Status}
use Rattle.broker.specs.declared.process.Status.TheVariants.{Unstarted, Running, Migrating, Ended}
use Rattle.broker.specs.declared.process.Vmid.{Vmid}

-- "A vmid is a host .. and a number drawn on it": the number in the lowest sixteen bits, the host in the eight above
abbrev pub vmid_of : ℕ → Vmid
vmid_of w = vmid (w / 65536 % 256) (w % 65536)

-- a standing: unstarted, running, ended or moving by the lowest two bits, then a vmid, then the arrival's
unfoldable pub status_of : ℕ → Status
status_of w =
    cond (eqb (w % 4) 0) Unstarted
    (cond (eqb (w % 4) 1) (Running (vmid_of (w / 4)))
    (cond (eqb (w % 4) 2) (Ended (vmid_of (w / 4))) (Migrating (vmid_of (w / 4)) (vmid_of (w / 67108864)))))

-- a call: the rank called in the lowest eight bits, then the vmid that it was posted to
unfoldable pub request_of : ℕ → Option Request
request_of w = cond (eqb w 0) None (posted (rank (w % 256)) (vmid_of (w / 256)))

-- "a line: none, plain, or notice"
abbrev pub line_of : ℕ → Connection
line_of n = cond (eqb n 0) Closed (cond (eqb n 1) Open Closing)

-- "an await, for a moving rank: none, unheeded .., or marked"
abbrev pub await_of : ℕ → Backlog
await_of n = cond (eqb n 0) Clear (cond (eqb n 1) Unheeded Marked)

-- a line in the lowest two bits, then an await
unfoldable pub link_of : ℕ → Link
link_of w = record { connection = line_of (w % 4); backlog = await_of (w / 4) }

-- how many numbers are drawn on a host, in the lowest sixteen bits
abbrev pub drawn_of : ℕ → ℕ
drawn_of w = w % 65536
