-- What a receiver takes that goes by its looks. Paper 02, change 6; the last definition is the claim. Assumes nothing.
use Rattle.std.specs.Prelude.{◌≡◌, Bool, true, false, cond, ◌&&◌, List, [], ◌∷◌, ◌++◌, map, ℕ, ◌≤◌, eqb, ltb, length, take}
use Rattle.std.proofs.Math.Option.{Option, none, some}
use Rattle.base.specs.Lists.{select, tally, every}
use Rattle.transit.specs.Message.{message, is_same_rank, to}
use Rattle.transit.specs.declared.Message.{Message}
use Rattle.transit.specs.declared.Place.TheVariants.{EndList}
use Rattle.transit.specs.declared.Rank.{Rank}
use Rattle.record.specs.Parts.{is}
use Rattle.record.specs.Kind
use Rattle.broker.specs.State.{State, messages}
use Rattle.protocol.specs.Messages.{sent_between}
use Rattle.ordering.specs.Claim.{Entry}
use Rattle.fairness.specs.Sending.{first_in, second_in, letters, letters_sent}

-- a look of r, and a take of r
abbrev pub is_look_of : Rank → Entry → Bool
is_look_of r e = is (Kind.look ∷ []) e.read && is_same_rank (first_in e.read) r

abbrev pub is_take_of : Rank → Entry → Bool
is_take_of r e = is (Kind.take ∷ []) e.read && is_same_rank (first_in e.read) r

-- the rank is the one that a look named
abbrev pub was_named : Option ℕ → Rank → Bool
was_named none a = false
was_named (some v1) a = eqb a.0 v1

-- The archive that served "whichever rank look named", and nobody else: each take of r is from the rank that the last look of r named, and
-- no other take of r is between. What others do is free. `named` is the rank that a look named which no take of r has followed yet
abbrev pub goes_by_looks : Rank → Option ℕ → List Entry → Bool
goes_by_looks r named [] = true
goes_by_looks r named (e ∷ es) =
    cond (is_look_of r e) (goes_by_looks r (some e.v1) es)
    (cond (is_take_of r e) (was_named named (second_in e.read) && goes_by_looks r none es) (goes_by_looks r named es))

-- what r takes: of each accepted take the sender, v1 as the value and v3 as the running number
abbrev pub letters_taken : Rank → List Entry → List Message
letters_taken r es =
    map (λ (e : Entry). message (second_in e.read) (first_in e.read) EndList e.v1 e.v3) (select (is_take_of r) es)

-- a message to r has a number that its pair had not sent in a state
abbrev pub sent_since : Rank → State → Message → Bool
sent_since r s m = ltb (sent_between m.sender r s) m.sequence

-- what is claimed of such a receiver over accepted steps from one state to another
pub record Served (r : Rank) (s : State) (es : List Entry) (end : State) : Type 0 where
  -- It takes its messages in the order in which they were sent over all senders: what it took, and behind it what is unread by it, is what
  -- was unread by it, and behind it what was sent to it.
  pub in_order :
      letters_taken r es ++ select (to r) (letters end) ≡
      select (to r) (letters s) ++ select (to r) (letters_sent s.unread.sent es)
  -- When it has taken as many as were unread by it at the start, those are what it took first,
  pub all_taken : tally (to r) (messages s) ≤ length (letters_taken r es) →
      take (tally (to r) (messages s)) (letters_taken r es) ≡ select (to r) (letters s)
  -- and none of those is left: all that is unread by it was sent since.
  pub none_left : tally (to r) (messages s) ≤ length (letters_taken r es) →
      every (sent_since r s) (select (to r) (messages end)) ≡ true
