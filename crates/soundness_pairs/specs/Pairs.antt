-- What soundness says of each rank and each rank, by their processes and what they hold towards each other.
-- Paper 01, "Sound states". Assumes nothing.
use Rattle.std.specs.Prelude.{Bool, not, cond, ◌&&◌, ◌||◌, List, ℕ, get_or, Option}
use Rattle.std.specs.Bool.{beq}
use Rattle.transit.specs.Message.{is_same_rank}
use Rattle.transit.specs.declared.Rank.{Rank}
use Rattle.broker.specs.Names.{
  unknown,
  same_vmid,
  is_started,
  is_running,
  is_migrating,
  is_live,
  processes_of,
  asks_for,
  is_closed,
  is_open,
  is_closing,
  is_clear,
  is_unheeded,
}
use Rattle.broker.specs.Ranks.{every_pair}
use Rattle.protocol.specs.Sound.{none_shared, distinct}
use Rattle.broker.specs.State.{idle, cell, link_at}
use Rattle.broker.specs.declared.link.Backlog.{Backlog}
use Rattle.broker.specs.declared.link.Connection.{Connection}
use Rattle.broker.specs.declared.link.Link.{Link}
use Rattle.broker.specs.declared.process.Process.{Process}
use Rattle.broker.specs.declared.process.Request.{Request}
use Rattle.broker.specs.declared.process.Status.{Status}
use Rattle.broker.specs.declared.process.Vmid.{Vmid}
use Rattle.soundness_names.specs.Names.{is_drawn_on}

-- "each vmid .. in a table .. has a number already drawn; a table entry is 0.0 exactly when the rank it is for is unstarted"
abbrev pub location_fits : List ℕ → Vmid → Status → Bool
location_fits drawn v u = cond (is_started u) (is_drawn_on drawn v) (same_vmid v unknown)

-- "No two running processes, movers or arrivals share a vmid."
abbrev pub vmids_apart : Rank → Rank → Status → Status → Bool
vmids_apart a b t u = cond (is_same_rank a b) (distinct (processes_of t)) (none_shared (processes_of t) (processes_of u))

-- "Lines belong to running or moving ranks; plain stands on both sides or neither; a notice faces none."
abbrev pub connection_fits : Status → Connection → Connection → Bool
connection_fits t there back =
    (is_closed there || is_live t) && (not (is_open there) || is_open back) && (not (is_closing there) || is_closed back)

-- "Awaits belong to moving ranks, from started ranks; r's await of s is unheeded exactly when s's line to r is notice."
abbrev pub backlog_fits : Status → Status → Backlog → Connection → Bool
backlog_fits t u await back =
    (is_clear await || is_migrating t && is_started u) && beq (is_unheeded await) (is_closing back)

-- "Calls go from a running rank to a started rank to which it has no line."
abbrev pub request_fits : Rank → Option Request → Status → Status → Connection → Bool
request_fits b q t u there = not (asks_for b q) || is_running t && is_started u && is_closed there

-- the first has no line, no await and no call to the second, and faces no notice of it
abbrev pub holds_nothing : Rank → Option Request → Connection → Backlog → Connection → Bool
holds_nothing b q there await back = is_closed there && is_clear await && not (asks_for b q) && not (is_closing back)

-- two ranks with their processes, where the first believes the second to be, and the link of each to the other
abbrev pub pair_sound : List ℕ → Rank → Rank → Process → Process → Vmid → Link → Link → Bool
pair_sound drawn a b p q v there back =
    location_fits drawn v q.status &&
    vmids_apart a b p.status q.status &&
    connection_fits p.status there.connection back.connection &&
    backlog_fits p.status q.status there.backlog back.connection &&
    request_fits b p.request p.status q.status there.connection

-- two ranks by the processes, the locations and the links of all
abbrev pub pair_sound_at : List ℕ → List Process → List Vmid → List Link → Rank → Rank → Bool
pair_sound_at drawn ps vs ls a b =
    pair_sound drawn a b (get_or ps a.0 idle) (get_or ps b.0 idle) (get_or vs (cell a b) unknown) (link_at ls a b) (link_at ls b a)

-- every rank and every rank
unfoldable pub pairs_sound : List ℕ → List Process → List Vmid → List Link → Bool
pairs_sound drawn ps vs ls = every_pair (pair_sound_at drawn ps vs ls)
