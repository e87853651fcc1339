-- What each kind of step answers: worked runs from the fresh state, with v1, v2 and v3 of the steps that they show and what must hold at
-- the end. Paper 01, "The step log"; paper 02, changes 4 and 6. That they answer so is `Laws/Values`. Assumes nothing.
use Rattle.std.specs.Prelude.{◌≡◌, Bool, true, not, ◌&&◌, List, [], ◌∷◌, ◌++◌, ℕ, eqb}
use Rattle.base.specs.Lists.{tally}
use Rattle.transit.specs.Message.{rank, picks}
use Rattle.transit.specs.declared.Place.TheVariants.{SourceChannel, EndList, Channel}
use Rattle.transit.specs.declared.Selection.{Selection}
use Rattle.transit.specs.declared.Selection.TheVariants.{ToAt, BetweenAt}
use Rattle.protocol.specs.Edges.{Try, accepts, refuses, answers, Edge, holds, answered}
use Rattle.record.specs.Kind
use Rattle.broker.specs.Names.{vmid, same_vmid, is_ended, is_open_request, asks_for, is_closed, is_open, is_unheeded, is_marked}
use Rattle.broker.specs.State.{State, status, request, location, connection, backlog, messages}

-- so many unread messages are selected
abbrev unread_are : ℕ → Selection → State → Bool
unread_are n f s = eqb (tally (picks f) (messages s)) n

-- ranks 0 and 1 run as 5.1 and 5.2, and rank 2 as 6.1
abbrev opening : List Try
opening =
    accepts (Kind.start ∷ 0 ∷ 5 ∷ []) ∷ accepts (Kind.start ∷ 1 ∷ 5 ∷ []) ∷ accepts (Kind.start ∷ 2 ∷ 6 ∷ []) ∷ []

-- a calls b where b is, and a plain line stands between them
abbrev joining : ℕ → ℕ → List Try
joining a b = accepts (Kind.call ∷ a ∷ b ∷ []) ∷ accepts (Kind.route ∷ a ∷ b ∷ []) ∷ []

-- a sends b a value below 256
abbrev sending : ℕ → ℕ → ℕ → Try
sending a b v = accepts (Kind.send ∷ a ∷ b ∷ v ∷ 0 ∷ 0 ∷ 0 ∷ [])

-- 01: "v1 host, v2 number"; "h's next number"
abbrev pub start : Edge
start =
    record {
      steps =
          answers (Kind.start ∷ 0 ∷ 5 ∷ []) 5 1 0 ∷
          answers (Kind.start ∷ 1 ∷ 5 ∷ []) 5 2 0 ∷
          answers (Kind.start ∷ 2 ∷ 6 ∷ []) 6 1 0 ∷ [];
      then = λ s. same_vmid (location s (rank 9) (rank 1)) (vmid 5 2);
    }

-- 02: "opens a's call, posted to a's entry for b. v1 host, v2 number."
abbrev pub call : Edge
call =
    record {
      steps = opening ++ answers (Kind.call ∷ 0 ∷ 1 ∷ []) 5 2 0 ∷ [];
      then = λ s. asks_for (rank 1) (request s (rank 0));
    }

-- 03: "If the posted vmid is b's current end, a plain line stands both ways, .. v1 is 0, v2 and v3 host and number."
abbrev pub route_there_lem : Edge
route_there_lem =
    record {
      steps = opening ++ accepts (Kind.call ∷ 0 ∷ 1 ∷ []) ∷ answers (Kind.route ∷ 0 ∷ 1 ∷ []) 0 5 2 ∷ [];
      then = λ s. is_open (connection s (rank 0) (rank 1)) && is_open (connection s (rank 1) (rank 0));
    }

-- "Otherwise v1 is 1, and a's entry and the posted vmid become b's current end, given in v2 and v3."
abbrev pub route_on_lem : Edge
route_on_lem =
    record {
      steps =
          opening ++
          answers (Kind.move ∷ 1 ∷ 6 ∷ []) 6 2 0 ∷
          answers (Kind.call ∷ 0 ∷ 1 ∷ []) 5 2 0 ∷
          answers (Kind.route ∷ 0 ∷ 1 ∷ []) 1 6 2 ∷
          answers (Kind.route ∷ 0 ∷ 1 ∷ []) 0 6 2 ∷ [];
      then = λ s. same_vmid (location s (rank 0) (rank 1)) (vmid 6 2);
    }

-- "if b is ended, the call closes, v1 is 2"; "After a route v1 of 2, table entries stay", here at where rank 1 was before it moved
abbrev pub route_to_ended_lem : Edge
route_to_ended_lem =
    record {
      steps =
          opening ++
          accepts (Kind.move ∷ 1 ∷ 6 ∷ []) ∷
          accepts (Kind.land ∷ 1 ∷ []) ∷
          accepts (Kind.call ∷ 0 ∷ 1 ∷ []) ∷
          accepts (Kind.end ∷ 1 ∷ []) ∷
          answers (Kind.route ∷ 0 ∷ 1 ∷ []) 2 0 0 ∷ [];
      then =
          λ s.
          not (is_open_request (request s (rank 0))) &&
          is_closed (connection s (rank 0) (rank 1)) &&
          same_vmid (location s (rank 0) (rank 1)) (vmid 5 2);
    }

-- 04: "v1 unread of the pair afterwards", over a plain line and over a notice
abbrev pub send : Edge
send =
    record {
      steps =
          opening ++
          joining 0 1 ++
          answers (Kind.send ∷ 0 ∷ 1 ∷ 10 ∷ 0 ∷ 0 ∷ 0 ∷ []) 1 0 0 ∷
          answers (Kind.send ∷ 1 ∷ 0 ∷ 20 ∷ 0 ∷ 0 ∷ 0 ∷ []) 1 0 0 ∷
          answers (Kind.send ∷ 0 ∷ 1 ∷ 11 ∷ 0 ∷ 0 ∷ 0 ∷ []) 2 0 0 ∷
          accepts (Kind.move ∷ 1 ∷ 6 ∷ []) ∷
          answers (Kind.send ∷ 0 ∷ 1 ∷ 12 ∷ 0 ∷ 0 ∷ 0 ∷ []) 3 0 0 ∷ [];
      then = unread_are 3 (BetweenAt (rank 0) (rank 1) SourceChannel);
    }

-- 05: "v1 value, v2 unread of the pair afterwards"; "the value is four bytes, least significant first". Paper 02, change 4: "The number of
-- a message within its ordered pair, from 1 in order of sending .. A take gives it as v3"
abbrev pub take : Edge
take =
    record {
      steps =
          opening ++
          joining 0 1 ++
          accepts (Kind.send ∷ 0 ∷ 1 ∷ 1 ∷ 2 ∷ 3 ∷ 4 ∷ []) ∷
          sending 1 0 20 ∷
          sending 0 1 11 ∷
          sending 0 1 12 ∷
          answers (Kind.take ∷ 1 ∷ 0 ∷ []) 0x04030201 2 1 ∷
          answers (Kind.take ∷ 1 ∷ 0 ∷ []) 11 1 2 ∷
          answers (Kind.take ∷ 1 ∷ 0 ∷ []) 12 0 3 ∷
          refuses (Kind.take ∷ 1 ∷ 0 ∷ []) 22 ∷
          answers (Kind.take ∷ 0 ∷ 1 ∷ []) 20 0 1 ∷ [];
      then = answered;
    }

-- 06: "v1 host, v2 number, v3 r's awaits not none": of rank 1, a marked one across the notice of rank 0, and an unheeded one of rank 2
abbrev pub move : Edge
move =
    record {
      steps =
          opening ++
          joining 0 1 ++
          joining 1 2 ++
          answers (Kind.move ∷ 0 ∷ 7 ∷ []) 7 1 1 ∷
          answers (Kind.move ∷ 1 ∷ 6 ∷ []) 6 2 2 ∷ [];
      then = λ s. is_marked (backlog s (rank 1) (rank 0)) && is_unheeded (backlog s (rank 1) (rank 2));
    }

-- Paper 02, change 2: "A move to the rank's present host is accepted and draws a number like any other.": rank 1 runs as 5.2 and restarts
-- as 5.3; rank 0, which has 5.2 in its table, is led on by a route
abbrev pub restart : Edge
restart =
    record {
      steps =
          opening ++
          answers (Kind.move ∷ 1 ∷ 5 ∷ []) 5 3 0 ∷
          refuses (Kind.move ∷ 1 ∷ 5 ∷ []) 10 ∷
          answers (Kind.call ∷ 0 ∷ 1 ∷ []) 5 2 0 ∷
          answers (Kind.route ∷ 0 ∷ 1 ∷ []) 1 5 3 ∷
          answers (Kind.route ∷ 0 ∷ 1 ∷ []) 0 5 3 ∷
          answers (Kind.land ∷ 1 ∷ []) 0 0 0 ∷
          answers (Kind.start ∷ 3 ∷ 5 ∷ []) 5 4 0 ∷
          answers (Kind.move ∷ 1 ∷ 5 ∷ []) 5 5 1 ∷ [];
      then = λ s. is_unheeded (backlog s (rank 1) (rank 0)) && same_vmid (location s (rank 0) (rank 1)) (vmid 5 3);
    }

-- 07: "v1 messages moved"
abbrev pub heed : Edge
heed =
    record {
      steps =
          opening ++
          joining 0 1 ++
          sending 1 0 20 ∷
          sending 1 0 21 ∷
          sending 0 1 10 ∷
          accepts (Kind.move ∷ 1 ∷ 6 ∷ []) ∷
          answers (Kind.heed ∷ 0 ∷ 1 ∷ []) 2 0 0 ∷ [];
      then = unread_are 2 (BetweenAt (rank 1) (rank 0) EndList);
    }

-- 08: "the first goes to 0, v1 is 0, v2 its value. Else a marked await becomes none, v1 is 1." Paper 02, change 4, of the running number:
-- "a drain that moves a message does too", and one that finds the end marker gives 0
abbrev pub drain : Edge
drain =
    record {
      steps =
          opening ++
          joining 0 1 ++
          sending 0 1 10 ∷
          sending 0 1 11 ∷
          accepts (Kind.move ∷ 1 ∷ 6 ∷ []) ∷
          accepts (Kind.heed ∷ 0 ∷ 1 ∷ []) ∷
          answers (Kind.drain ∷ 1 ∷ 0 ∷ []) 0 10 1 ∷
          answers (Kind.drain ∷ 1 ∷ 0 ∷ []) 0 11 2 ∷
          answers (Kind.drain ∷ 1 ∷ 0 ∷ []) 1 0 0 ∷ [];
      then = answered;
    }

-- 09: "v1 messages then at place 2": the one drained and the two that were in the arrival's list, and not the one on its lane
abbrev pub land : Edge
land =
    record {
      steps =
          opening ++
          joining 0 1 ++
          sending 0 1 10 ∷
          accepts (Kind.move ∷ 1 ∷ 6 ∷ []) ∷
          accepts (Kind.heed ∷ 0 ∷ 1 ∷ []) ∷
          joining 0 1 ++
          accepts (Kind.route ∷ 0 ∷ 1 ∷ []) ∷
          sending 0 1 11 ∷
          sending 0 1 12 ∷
          accepts (Kind.part ∷ 0 ∷ 1 ∷ []) ∷
          joining 0 1 ++
          sending 0 1 13 ∷
          accepts (Kind.drain ∷ 1 ∷ 0 ∷ []) ∷
          accepts (Kind.drain ∷ 1 ∷ 0 ∷ []) ∷
          answers (Kind.land ∷ 1 ∷ []) 3 0 0 ∷ [];
      then = unread_are 1 (ToAt (rank 1) Channel);
    }

-- 0A: "v1 messages moved towards a, v2 towards b": not the one that an earlier part moved
abbrev pub part : Edge
part =
    record {
      steps =
          opening ++
          joining 0 1 ++
          sending 0 1 10 ∷
          answers (Kind.part ∷ 0 ∷ 1 ∷ []) 0 1 0 ∷
          joining 0 1 ++
          sending 0 1 11 ∷
          sending 1 0 20 ∷
          sending 1 0 21 ∷
          answers (Kind.part ∷ 0 ∷ 1 ∷ []) 2 1 0 ∷ [];
      then = unread_are 2 (ToAt (rank 1) EndList);
    }

-- 0B: "an unnamed one is 0"
abbrev pub end : Edge
end = record { steps = opening ++ answers (Kind.end ∷ 2 ∷ []) 0 0 0 ∷ []; then = λ s. is_ended (status s (rank 2)) }

-- 0C: paper 02, change 6: "Look now names the sender of the message sent first of all those unread by r, whatever its place.": rank 2,
-- though rank 1 is lower and its younger message in the list, and though rank 1 has an older message unread; and then rank 1
abbrev pub look : Edge
look =
    record {
      steps =
          opening ++
          joining 0 1 ++
          joining 2 0 ++
          sending 0 1 5 ∷
          sending 2 0 10 ∷
          sending 1 0 20 ∷
          accepts (Kind.part ∷ 0 ∷ 1 ∷ []) ∷
          answers (Kind.look ∷ 0 ∷ []) 2 0 0 ∷
          accepts (Kind.take ∷ 0 ∷ 2 ∷ []) ∷
          answers (Kind.look ∷ 0 ∷ []) 1 0 0 ∷ [];
      then = answered;
    }

pub record ValuesHold : Type 0 where
  pub of_start : holds start ≡ true
  pub of_call_lem : holds call ≡ true
  pub of_route_there : holds route_there_lem ≡ true
  pub of_route_on : holds route_on_lem ≡ true
  pub of_route_to_ended : holds route_to_ended_lem ≡ true
  pub of_send : holds send ≡ true
  pub of_take : holds take ≡ true
  pub of_move : holds move ≡ true
  pub of_restart : holds restart ≡ true
  pub of_heed : holds heed ≡ true
  pub of_drain : holds drain ≡ true
  pub of_land : holds land ≡ true
  pub of_part : holds part ≡ true
  pub of_end : holds end ≡ true
  pub of_look : holds look ≡ true
