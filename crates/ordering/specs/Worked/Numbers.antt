-- Two moves that overlap, with messages sent and taken before, between and behind them: the running numbers of a worked run from the fresh
-- state. Paper 02, change 4. Computed from the definitions. Assumes nothing.
use Rattle.std.specs.Prelude.{◌≡◌, refl, List, [], ◌∷◌, ◌++◌, map, ℕ, replicate, take}
use Rattle.std.proofs.Common.{ap, ◌∙◌}
use Rattle.base.specs.Lists.{up_from}
use Rattle.transit.specs.Message.{message, rank}
use Rattle.transit.specs.declared.Message.{Message}
use Rattle.transit.specs.declared.Place.{Place}
use Rattle.transit.specs.declared.Place.TheVariants.{SourceList, SourceChannel, EndList}
use Rattle.transit.specs.declared.Rank.{Rank}
use Rattle.protocol.specs.Messages.{sent_between}
use Rattle.broker.specs.Names.{vmid}
use Rattle.broker.specs.State.{idle, fresh}
use Rattle.broker.specs.declared.process.Status.TheVariants.{Running, Migrating}
use Rattle.record.specs.declared.Record.TheVariants.{Start, Call, Route, Send, Take, Move, Drain, Land, Part}
use Rattle.ordering.specs.Claim.{Reading, Entry, after, accepted}
use Rattle.ordering.specs.Numbered.{numbers_taken, numbers_unread}
use Rattle.ordering.specs.Worked.Account.{Account, computed, from_fresh}
use Rattle.ordering.specs.Worked.Result.{brief, result, whole, did, process, written, readings}

-- Rank 0 sends three messages to rank 1: the first is taken before rank 1 moves, the second is on the lane then, and the third follows on
-- the notice. Rank 0 moves before rank 1 has landed, with a message on the lane to it.
abbrev until_both_move : List Entry
until_both_move =
    did (Start (rank 0) 0) 0 0 ∷
    did (Start (rank 1) 1) 1 0 ∷
    did (Call (rank 0) (rank 1)) 1 0 ∷
    did (Route (rank 0) (rank 1)) 0 1 ∷
    did (Send (rank 0) (rank 1) 10) 1 0 ∷
    did (Send (rank 0) (rank 1) 11) 2 0 ∷
    did (Send (rank 1) (rank 0) 20) 1 0 ∷
    did (Take (rank 1) (rank 0)) 10 1 ∷
    did (Move (rank 1) 2) 2 1 ∷
    did (Send (rank 0) (rank 1) 12) 2 0 ∷
    did (Move (rank 0) 3) 3 1 ∷ []

-- Both are drained and land, and rank 1 takes the second message. Then rank 0 finds it again and sends a fourth, rank 1 takes the third,
-- and the two part with the fourth on the lane.
abbrev until_they_part : List Entry
until_they_part =
    did (Drain (rank 1) (rank 0)) 0 2 ∷
    did (Drain (rank 0) (rank 1)) 0 1 ∷
    did (Drain (rank 1) (rank 0)) 0 3 ∷
    did (Drain (rank 1) (rank 0)) 1 0 ∷
    did (Land (rank 1)) 2 0 ∷
    did (Drain (rank 0) (rank 1)) 1 0 ∷
    did (Land (rank 0)) 1 0 ∷
    did (Take (rank 1) (rank 0)) 11 2 ∷
    did (Call (rank 0) (rank 1)) 1 0 ∷
    did (Route (rank 0) (rank 1)) 1 1 ∷
    did (Route (rank 0) (rank 1)) 0 1 ∷
    did (Send (rank 0) (rank 1) 13) 2 0 ∷
    did (Take (rank 1) (rank 0)) 12 3 ∷
    did (Part (rank 0) (rank 1)) 0 0 ∷ []

abbrev numbered : List Entry
numbered = until_both_move ++ until_they_part

-- While both move, a take, a send, a landing, a kind that is none and a log that is empty are refused.
abbrev refused : List Reading
refused =
    map whole
    (written (Take (rank 1) (rank 0)) ∷ written (Send (rank 0) (rank 1) 99) ∷ written (Land (rank 1)) ∷ (0xFF ∷ []) ∷ [] ∷ [])

abbrev run : List Reading
run = readings until_both_move ++ refused ++ readings until_they_part

abbrev letter : ℕ → ℕ → ℕ → ℕ → Place → Message
letter a b v k p = message (rank a) (rank b) p v k

-- when both moves are open: the messages on the lanes keep the numbers with which they were sent
pub both_are_open :
    result (readings until_both_move) ≡
    record {
      steps = until_both_move;
      processes = process (Migrating (vmid 0 1) (vmid 3 1)) ∷ process (Migrating (vmid 1 1) (vmid 2 1)) ∷ replicate 14 idle;
      holds = letter 0 1 11 2 SourceChannel ∷ letter 1 0 20 1 SourceChannel ∷ letter 0 1 12 3 SourceChannel ∷ [];
    }
unfolding computed
both_are_open = ap brief (from_fresh (readings until_both_move))

-- when the three messages are drained: in the movers' lists they keep them too
pub both_are_drained :
    result (take 19 run) ≡
    record {
      steps = take 14 numbered;
      processes = process (Migrating (vmid 0 1) (vmid 3 1)) ∷ process (Migrating (vmid 1 1) (vmid 2 1)) ∷ replicate 14 idle;
      holds = letter 0 1 11 2 SourceList ∷ letter 1 0 20 1 SourceList ∷ letter 0 1 12 3 SourceList ∷ [];
    }
unfolding computed
both_are_drained = ap brief (from_fresh (take 19 run))

-- at the end
pub comes_to :
    result run ≡
    record {
      steps = numbered;
      processes = process (Running (vmid 3 1)) ∷ process (Running (vmid 2 1)) ∷ replicate 14 idle;
      holds = letter 1 0 20 1 EndList ∷ letter 0 1 13 4 EndList ∷ [];
    }
unfolding computed
comes_to = ap brief (from_fresh run)

-- from a to b: the numbers taken and unread, and the count sent; the first two are 1 to the third
pub record Reckoning (xs : List Reading) (a b : Rank) (t u : List ℕ) (n : ℕ) : Type 0 where
  pub taken_are : numbers_taken a b (accepted fresh xs) ≡ t
  pub unread_are_lem : numbers_unread a b (after fresh xs) ≡ u
  pub sent_are : sent_between a b (after fresh xs) ≡ n
  pub adds_up : t ++ u ≡ up_from 1 n

-- They are read from the account of the run.
reckoned : (xs : List Reading) (a b : Rank) (t u : List ℕ) (n : ℕ) → let c = computed xs in
    numbers_taken a b c.steps ≡ t → numbers_unread a b c.end ≡ u → sent_between a b c.end ≡ n → t ++ u ≡ up_from 1 n
    → Reckoning xs a b t u n
reckoned xs a b t u n et eu en sum =
    record {
      taken_are = ap (λ (c : Account). numbers_taken a b c.steps) (from_fresh xs) ∙ et;
      unread_are_lem = ap (λ (c : Account). numbers_unread a b c.end) (from_fresh xs) ∙ eu;
      sent_are = ap (λ (c : Account). sent_between a b c.end) (from_fresh xs) ∙ en;
      adds_up = sum;
    }

pub numbers_there : Reckoning run (rank 0) (rank 1) (1 ∷ 2 ∷ 3 ∷ []) (4 ∷ []) 4
unfolding computed up_from
numbers_there = reckoned run (rank 0) (rank 1) (1 ∷ 2 ∷ 3 ∷ []) (4 ∷ []) 4 refl refl refl refl

pub numbers_back : Reckoning run (rank 1) (rank 0) [] (1 ∷ []) 1
unfolding computed up_from
numbers_back = reckoned run (rank 1) (rank 0) [] (1 ∷ []) 1 refl refl refl refl
