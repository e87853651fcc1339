-- Move, heed, drain and land: what each does to the state and answers. Paper 01, "The step log", kinds 06 to 09; paper 02,
-- change 4.
-- Assumes nothing.
use Rattle.std.specs.Prelude.{Option, Some, None, not, List, ℕ, ◌+◌}
use Rattle.base.specs.Lists.{tally}
use Rattle.transit.specs.Message.{picks}
use Rattle.transit.specs.Unread.{Unread, relabel_all, relabel_first, first_sent}
use Rattle.transit.specs.declared.Message.{Message}
use Rattle.transit.specs.declared.Place.TheVariants.{SourceList, SourceChannel, EndList, Channel}
use Rattle.transit.specs.declared.Rank.{Rank}
use Rattle.transit.specs.declared.Selection.{Selection}
use Rattle.transit.specs.declared.Selection.TheVariants.{ToAt, BetweenAt}
use Rattle.broker.specs.State.{
  connect,
  next_vmid,
  draw,
  State,
  link_at,
  set_link,
  status,
  backlog,
  drawn_on,
  messages,
  with_status,
  with_links,
  with_unread,
  await,
}
use Rattle.protocol.specs.Connect.{on_channel}
use Rattle.protocol.specs.Done.{Done, done}
use Rattle.broker.specs.Names.{endpoint, is_clear}
use Rattle.broker.specs.Ranks.{count_ranks, each_rank}
use Rattle.broker.specs.declared.link.Backlog.TheVariants.{Clear, Unheeded, Marked}
use Rattle.broker.specs.declared.link.Connection.{Connection}
use Rattle.broker.specs.declared.link.Connection.TheVariants.{Closed, Open, Closing}
use Rattle.broker.specs.declared.link.Link.{Link}
use Rattle.broker.specs.declared.process.Status.TheVariants.{Running, Migrating}

-- "Messages to r at place 2 go to 0, at 3 to 1."
abbrev pub left_behind : Rank → Unread → Unread
left_behind r u = relabel_all (ToAt r Channel) SourceChannel (relabel_all (ToAt r EndList) SourceList u)

-- "if r's line to s is plain, r's await is unheeded and s's line to r is notice; if it is notice, both r's await of s and s's await
-- of r are marked. r's own lines become none."
abbrev pub leave_over : Connection → Rank → Rank → List Link → List Link
leave_over Closed r p ls = ls
leave_over Open r p ls = connect p r Closing (set_link ls r p (record { connection = Closed; backlog = Unheeded }))
leave_over Closing r p ls = await p r Marked (set_link ls r p (record { connection = Closed; backlog = Marked }))

abbrev pub leave : Rank → Rank → List Link → List Link
leave r p ls = leave_over (link_at ls r p).connection r p ls

-- "For each s: .."
unfoldable pub leave_all : Rank → List Link → List Link
leave_all r ls = each_rank (leave r) ls

-- the state after r's move to h
abbrev pub after_move : Rank → ℕ → State → State
after_move r h s =
    with_links (leave_all r s.links)
    (with_unread (left_behind r s.unread)
    (with_status r (Migrating (endpoint (status s r)) (next_vmid s h)) (draw h s)))

-- "the arrival gets h's next number .. v1 host, v2 number, v3 r's awaits not none."
unfoldable pub move : Rank → ℕ → State → Done
move r h s =
    done
    (after_move r h s)
    h
    (drawn_on s h + 1)
    (count_ranks (λ p. not (is_clear (backlog (after_move r h s) r p))))

-- "messages from r to b at place 3 go to 2; b's line becomes none; r's await of b is marked. v1 messages moved."
unfoldable pub heed : Rank → Rank → State → Done
heed b r s =
    done
    (with_links (await r b Marked (connect b r Closed s.links))
    (with_unread (relabel_all (on_channel r b) EndList s.unread) s))
    (tally (picks (on_channel r b)) (messages s))
    0
    0

-- the messages from p to r on the lane to r's mover
abbrev pub on_source_channel : Rank → Rank → Selection
on_source_channel p r = BetweenAt p r SourceChannel

-- "if s has messages to r at place 1, the first goes to 0, v1 is 0, v2 its value. Else a marked await becomes none, v1 is 1." Paper 02,
-- change 4: "A take gives it as v3, and a drain that moves a message does too."
abbrev pub drain_found : Rank → Rank → State → Option Message → Done
drain_found r p s (Some m) =
    done (with_unread (relabel_first (on_source_channel p r) SourceList s.unread) s) 0 m.value m.sequence
drain_found r p s None = done (with_links (await r p Clear s.links) s) 1 0 0

unfoldable pub drain : Rank → Rank → State → Done
drain r p s = drain_found r p s (first_sent (on_source_channel p r) s.unread)

-- "place 0 goes to 2, the arrival becomes the running process"
abbrev pub after_land : Rank → State → State
after_land r s =
    with_status r (Running (endpoint (status s r))) (with_unread (relabel_all (ToAt r SourceList) EndList s.unread) s)

-- "v1 messages then at place 2."
unfoldable pub land : Rank → State → Done
land r s = done (after_land r s) (tally (picks (ToAt r EndList)) (messages (after_land r s))) 0 0
