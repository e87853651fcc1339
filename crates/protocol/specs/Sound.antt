-- Soundness: named clauses for each sentence of paper 01, "Sound states", and of paper 02, change 4, in three groups, and their
-- conjunction.
-- Assumes nothing.
use Rattle.std.specs.Prelude.{Bool, true, not, cond, ◌&&◌, ◌||◌, List, [], ◌∷◌, map, eqb, leb, ltb, length, Option, None, Some}
use Rattle.std.specs.Bool.{beq}
use Rattle.base.specs.Lists.{select, every, never_falls, rises_within}
use Rattle.transit.specs.Message.{between, at, place_number, is_same_rank, is_rank, ranks, cells}
use Rattle.transit.specs.Unread.{limit}
use Rattle.transit.specs.declared.Place.TheVariants.{SourceList, SourceChannel, Channel}
use Rattle.transit.specs.declared.Rank.{Rank}
use Rattle.protocol.specs.Messages.{sent_between}
use Rattle.broker.specs.Names.{
  hosts,
  numbers,
  unknown,
  same_vmid,
  is_started,
  is_running,
  is_migrating,
  is_live,
  processes_of,
  vmids_of,
  asks_for,
  is_closed,
  is_open,
  is_closing,
  is_clear,
  is_unheeded,
}
use Rattle.broker.specs.Ranks.{every_rank, every_pair}
use Rattle.base.specs.Below.{all_below}
use Rattle.broker.specs.State.{State, status, request, location, connection, backlog, drawn_on, messages}
use Rattle.broker.specs.declared.process.Request.{Request}
use Rattle.broker.specs.declared.process.Vmid.{Vmid}

-- "For each rank and each other rank the state holds ..": a part for each rank, for each rank and each rank, and for each host
unfoldable pub shaped : State → Bool
shaped s =
    eqb (length s.processes) ranks &&
    eqb (length s.locations) cells &&
    eqb (length s.links) cells &&
    eqb (length s.drawn) hosts &&
    eqb (length s.unread.sent) cells

-- The names: vmids, tables and calls.

-- "numbers are in range"
unfoldable pub numbers_in_range : State → Bool
numbers_in_range s = all_below hosts (λ h. leb (drawn_on s h) numbers)

-- "hosts .. are in range, and each vmid .. has a number already drawn", so that it is not 0.0
abbrev pub is_drawn : State → Vmid → Bool
is_drawn s v = ltb v.0 hosts && ltb 0 v.1 && leb v.1 (drawn_on s v.0)

-- a test of the rank that a call goes to and of the vmid that it was posted to
abbrev pub of_call : (Rank → Bool) → (Vmid → Bool) → Option Request → Bool
of_call f g None = true
of_call f g (Some q) = f q.to && g q.vmid

-- "each vmid in use .. has a number already drawn"
unfoldable pub vmids_drawn : State → Bool
vmids_drawn s = every_rank (λ r. every (is_drawn s) (vmids_of (status s r)))

-- "Ranks .. are in range, and each vmid in a .. call has a number already drawn"
unfoldable pub calls_drawn : State → Bool
calls_drawn s = every_rank (λ r. of_call is_rank (is_drawn s) (request s r))

-- "each vmid .. in a table .. has a number already drawn; a table entry is 0.0 exactly when the rank it is for is unstarted"
unfoldable pub tables_drawn : State → Bool
tables_drawn s =
    every_pair (λ a b. cond (is_started (status s b)) (is_drawn s (location s a b)) (same_vmid (location s a b) unknown))

-- no vmid of the one list is in the other
abbrev pub none_shared : List Vmid → List Vmid → Bool
none_shared vs ws = every (λ v. every (λ w. not (same_vmid v w)) ws) vs

-- no vmid stands twice in the list
abbrev pub distinct : List Vmid → Bool
distinct [] = true
distinct (v ∷ vs) = every (λ w. not (same_vmid v w)) vs && distinct vs

-- "No two running processes, movers or arrivals share a vmid."
unfoldable pub vmids_apart : State → Bool
vmids_apart s =
    every_pair
    (λ a b.
    cond (is_same_rank a b)
    (distinct (processes_of (status s a)))
    (none_shared (processes_of (status s a)) (processes_of (status s b))))

unfoldable pub names_sound : State → Bool
names_sound s = numbers_in_range s && vmids_drawn s && calls_drawn s && tables_drawn s && vmids_apart s

-- The pairs of ranks: lines, awaits and calls.

-- "Nobody has a line, await, call .. with itself."
unfoldable pub nothing_with_self : State → Bool
nothing_with_self s =
    every_rank (λ r. is_closed (connection s r r) && is_clear (backlog s r r) && not (asks_for r (request s r)))

-- "Lines belong to running or moving ranks"
unfoldable pub lines_belong : State → Bool
lines_belong s = every_pair (λ a b. is_closed (connection s a b) || is_live (status s a))

-- "plain stands on both sides or neither"
unfoldable pub plain_both_sides : State → Bool
plain_both_sides s = every_pair (λ a b. not (is_open (connection s a b)) || is_open (connection s b a))

-- "a notice faces none"
unfoldable pub notice_faces_none : State → Bool
notice_faces_none s = every_pair (λ a b. not (is_closing (connection s a b)) || is_closed (connection s b a))

-- "Awaits belong to moving ranks, from started ranks"
unfoldable pub awaits_belong : State → Bool
awaits_belong s = every_pair (λ r p. is_clear (backlog s r p) || is_migrating (status s r) && is_started (status s p))

-- "r's await of s is unheeded exactly when s's line to r is notice"
unfoldable pub unheeded_is_notice : State → Bool
unheeded_is_notice s = every_pair (λ r p. beq (is_unheeded (backlog s r p)) (is_closing (connection s p r)))

-- "Calls go from a running rank to a started rank to which it has no line."
unfoldable pub calls_fit : State → Bool
calls_fit s =
    every_pair
    (λ a b.
    not (asks_for b (request s a)) ||
    is_running (status s a) && is_started (status s b) && is_closed (connection s a b))

unfoldable pub pairs_sound : State → Bool
pairs_sound s =
    nothing_with_self s &&
    lines_belong s &&
    plain_both_sides s &&
    notice_faces_none s &&
    awaits_belong s &&
    unheeded_is_notice s &&
    calls_fit s

-- The unread messages.

-- "At most 1,024 messages stand."
unfoldable pub few_unread : State → Bool
few_unread s = leb s.unread.count limit && eqb (length (messages s)) s.unread.count

-- "Ranks .. are in range"; "Nobody has a .. message with itself."
unfoldable pub messages_named : State → Bool
messages_named s =
    every
    (λ m. is_rank m.sender && is_rank m.receiver && not (is_same_rank m.sender m.receiver))
    (messages s)

-- "Senders are started, receivers running or moving."
unfoldable pub ends_fit : State → Bool
ends_fit s = every (λ m. is_started (status s m.sender) && is_live (status s m.receiver)) (messages s)

-- "While r's await of s is unheeded, messages from s to r are at places 0 and 1 only."
unfoldable pub unheeded_places : State → Bool
unheeded_places s =
    every
    (λ m. not (is_unheeded (backlog s m.receiver m.sender)) || at SourceList m || at SourceChannel m)
    (messages s)

-- "Places 0 and 1 occur only for a moving receiver, place 1 only with an await, place 3 only with a line from receiver to sender."
unfoldable pub places_fit : State → Bool
places_fit s =
    every
    (λ m.
    (not (at SourceList m || at SourceChannel m) || is_migrating (status s m.receiver)) &&
    (not (at SourceChannel m) || not (is_clear (backlog s m.receiver m.sender))) &&
    (not (at Channel m) || not (is_closed (connection s m.receiver m.sender))))
    (messages s)

-- "Within a pair, places never fall along the order of sending."
unfoldable pub places_rise : State → Bool
places_rise s = every_pair (λ a b. never_falls (map (λ m. place_number m.place) (select (between a b) (messages s))))

-- Paper 02, change 4: "Sound pairs have unread numbers rising within 1 to the count sent."
unfoldable pub numbers_rise : State → Bool
numbers_rise s =
    every_pair (λ a b. rises_within 0 (sent_between a b s) (map (λ m. m.sequence) (select (between a b) (messages s))))

unfoldable pub messages_sound : State → Bool
messages_sound s =
    few_unread s && messages_named s && ends_fit s && unheeded_places s && places_fit s && places_rise s && numbers_rise s

-- "A state is sound when all of these hold."
unfoldable pub sound : State → Bool
sound s = shaped s && names_sound s && pairs_sound s && messages_sound s
