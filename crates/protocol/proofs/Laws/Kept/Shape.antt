-- Every record keeps the state's shape: a part for each rank, for each rank and each rank, for each host, and for each pair.
-- Assumes nothing.
use Rattle.std.specs.Prelude.{Option, Some, None, ◌≡◌, List, ℕ, length}
use Rattle.std.proofs.Common.{length-set}
use Rattle.transit.specs.Laws.Operations.{appends, full_stays, relabels, relabels_first, removes}
use Rattle.transit.specs.Unread.{Unread, appended, limit, head, leave, removed}
use Rattle.transit.specs.declared.Message.{Message}
use Rattle.transit.specs.declared.Place.{Place}
use Rattle.transit.specs.declared.Rank.{Rank}
use Rattle.transit.specs.declared.Selection.{Selection}
use Rattle.transit.specs.declared.Selection.TheVariants.{Between}
use Rattle.protocol.specs.Connect.{call, part, connect_both, withdraw}
use Rattle.base.specs.Laws.Tests.{by_less, chosen}
use Rattle.protocol.specs.Laws.Cases.{route_cases, drain_cases}
use Rattle.base.specs.Laws.Stores.{long_set}
use Rattle.transit.specs.Message.{place_order, pair_of, ranks, cells}
use Rattle.protocol.specs.Laws.Each.{announced_long}
use Rattle.protocol.specs.Laws.Leaving.{leave_all_long}
use Rattle.protocol.specs.Laws.Sound.{Shape}
use Rattle.protocol.specs.Life.{start, end}
use Rattle.protocol.specs.Messages.{send, take, look}
use Rattle.protocol.specs.Migrate.{move, heed, land}
use Rattle.broker.specs.Names.{hosts, asks_for}
use Rattle.broker.specs.State.{State, request, with_process, with_locations, with_links, with_drawn, with_unread}
use Rattle.protocol.specs.Step.{apply}
use Rattle.broker.specs.declared.link.Connection.{Connection}
use Rattle.broker.specs.declared.link.Connection.TheVariants.{Closed, Open}
use Rattle.broker.specs.declared.link.Link.{Link}
use Rattle.broker.specs.declared.process.Process.{Process}
use Rattle.broker.specs.declared.process.Vmid.{Vmid}
use Rattle.record.specs.declared.Record.{Record}
use Rattle.record.specs.declared.Record.TheVariants.{Start, Call, Route, Send, Take, Move, Heed, Drain, Land, Part, End, Look}

-- the shape after a change of one part
shape_with_process : {s : State} (r : Rank) (p : Process) → Shape s → Shape (with_process r p s)
shape_with_process {s} r p f =
    let long = long_set ranks s.processes r.0 p f.processes_long in
    record {
      processes_long = long;
      locations_long = f.locations_long;
      links_long = f.links_long;
      drawn_long = f.drawn_long;
      sent_long = f.sent_long;
    }

pub shape_with_locations : {s : State} (ls : List Vmid) → length ls ≡ cells → Shape s → Shape (with_locations ls s)
shape_with_locations ls e f =
    record {
      processes_long = f.processes_long;
      locations_long = e;
      links_long = f.links_long;
      drawn_long = f.drawn_long;
      sent_long = f.sent_long;
    }

shape_with_links : {s : State} (ls : List Link) → length ls ≡ cells → Shape s → Shape (with_links ls s)
shape_with_links ls e f =
    record {
      processes_long = f.processes_long;
      locations_long = f.locations_long;
      links_long = e;
      drawn_long = f.drawn_long;
      sent_long = f.sent_long;
    }

pub shape_with_drawn : {s : State} (h n : ℕ) → Shape s → Shape (with_drawn h n s)
shape_with_drawn {s} h n f =
    let long = long_set hosts s.drawn h n f.drawn_long in
    record {
      processes_long = f.processes_long;
      locations_long = f.locations_long;
      links_long = f.links_long;
      drawn_long = long;
      sent_long = f.sent_long;
    }

shape_with_unread : {s : State} (u : Unread) → length u.sent ≡ cells → Shape s → Shape (with_unread u s)
shape_with_unread u e f =
    record {
      processes_long = f.processes_long;
      locations_long = f.locations_long;
      links_long = f.links_long;
      drawn_long = f.drawn_long;
      sent_long = e;
    }

-- there are as many counts sent after a send and after a take
sends_long : (u : Unread) (a b : Rank) (p : Place) (v : ℕ) → length u.sent ≡ cells
    → length (appended u a b p v).unread.sent ≡ cells
sends_long u a b p v e =
    by_less u.count limit (λ room. rw (appends u a b p v room) (long_set cells u.sent (pair_of a b) _ e))
    (λ full. rw (full_stays u a b p v full) e)

takes_long : (q : Selection) (u : Unread) → length u.sent ≡ cells → length (removed q u).unread.sent ≡ cells
takes_long q u e = rw (removes q u) (left (head (place_order q u.messages)))
  where
    left : (x : Option Message) → length (leave q u x).unread.sent ≡ cells
    left None = e
    left (Some m) = e

pub shape_connect : {s : State} (a b : Rank) (c : Connection) → Shape s → Shape (connect_both a b c s)
shape_connect a b c f = shape_with_links _ (rw (length-set, length-set) f.links_long) f

pub shape_withdraw : {s : State} (a b : Rank) → Shape s → Shape (withdraw a b s)
shape_withdraw {s} a b f = chosen Shape (asks_for b (request s a)) _ s (λ e. shape_with_process a _ f) (λ e. f)

-- every record keeps the shape, accepted or not
pub shape_kept : (s : State) (r : Record) → Shape s → Shape (apply r s).state
unfolding apply start end call part send take look move heed land
shape_kept s (Start r h) f =
    shape_with_locations _ (announced_long r _ s.locations f.locations_long)
    (shape_with_process r _ (shape_with_drawn h _ f))
shape_kept s (Call a b) f = shape_with_process a _ f
shape_kept s (Route a b) f =
    route_cases Shape a b s (shape_with_process a _ f) (shape_withdraw b a (shape_withdraw a b (shape_connect a b Open f)))
    (shape_with_locations _ (rw length-set f.locations_long) (shape_with_process a _ f))
shape_kept s (Send a b v) f = shape_with_unread _ (sends_long s.unread a b _ v f.sent_long) f
shape_kept s (Take b a) f = shape_with_unread _ (takes_long (Between a b) s.unread f.sent_long) f
shape_kept s (Move r h) f =
    shape_with_links _ (leave_all_long r s.links f.links_long)
    (shape_with_unread _ (rw (relabels, relabels) f.sent_long) (shape_with_process r _ (shape_with_drawn h _ f)))
shape_kept s (Heed b r) f =
    shape_with_links _ (rw (length-set, length-set) f.links_long) (shape_with_unread _ (rw relabels f.sent_long) f)
shape_kept s (Drain r p) f =
    drain_cases Shape r p s (shape_with_unread _ (rw relabels_first f.sent_long) f)
    (shape_with_links _ (rw length-set f.links_long) f)
shape_kept s (Land r) f = shape_with_process r _ (shape_with_unread _ (rw relabels f.sent_long) f)
shape_kept s (Part a b) f = shape_connect a b Closed (shape_with_unread _ (rw (relabels, relabels) f.sent_long) f)
shape_kept s (End r) f = shape_with_process r _ f
shape_kept s (Look r) f = f
