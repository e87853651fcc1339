-- Restarts: worked runs from the fresh state, computed from the definitions. Paper 02, change 2: "Overlapping moves to one host are covered
-- by the ordering claim too." Assumes nothing.
use Rattle.std.specs.Prelude.{◌≡◌, refl, true, List, [], ◌∷◌, replicate, take}
use Rattle.std.proofs.Common.{ap}
use Rattle.transit.specs.Message.{message, rank}
use Rattle.transit.specs.declared.Place.TheVariants.{SourceChannel, EndList, Channel}
use Rattle.broker.specs.Names.{vmid}
use Rattle.broker.specs.State.{idle, fresh}
use Rattle.broker.specs.declared.process.Status.TheVariants.{Running, Migrating}
use Rattle.record.specs.declared.Record.TheVariants.{Start, Call, Route, Send, Take, Move, Heed, Drain, Land, Part}
use Rattle.ordering.specs.Claim.{Entry, every_accepted, SecondList}
use Rattle.ordering.specs.Worked.Account.{Account, computed, from_fresh}
use Rattle.ordering.specs.Worked.Overlapping.{overlapping, apart, Overlaps, overlaps}
use Rattle.ordering.specs.Worked.Result.{Result, brief, result, Balance, balance, second, did, process, readings}

-- Two joined ranks restart at once on host 0, where both run: the run of two moves that overlap.
pub restarting_at_once : Overlaps 0 0 0 0 2 3 (vmid 0 3) (vmid 0 4)
unfolding computed
restarting_at_once =
    overlaps 0 0 0 0 2 3 (vmid 0 3) (vmid 0 4)
    (ap brief (from_fresh (readings (overlapping 0 0 0 0 2 3))))
    (ap brief (from_fresh (readings (apart 0 0 0 0 2 3))))
    (ap (λ (t : Account). t.all) (from_fresh (readings (apart 0 0 0 0 2 3))))
    refl
    refl

-- when both moves are open: messages on both lanes, and four processes on the host
abbrev both_open : Result
both_open =
    record {
      steps = take 9 (overlapping 0 0 0 0 2 3);
      processes =
          process (Migrating (vmid 0 1) (vmid 0 3)) ∷ process (Migrating (vmid 0 2) (vmid 0 4)) ∷ replicate 14 idle;
      holds =
          message (rank 0) (rank 1) SourceChannel 10 1 ∷
          message (rank 1) (rank 0) SourceChannel 20 1 ∷
          message (rank 1) (rank 0) SourceChannel 21 2 ∷ [];
    }

pub both_are_open : result (readings (take 9 (overlapping 0 0 0 0 2 3))) ≡ both_open
unfolding computed
both_are_open = ap brief (from_fresh (readings (take 9 (overlapping 0 0 0 0 2 3))))

-- One rank restarts twice: rank 1, which runs on host 1. A message is on the lane to it at its first restart, and one follows on the
-- notice. A third is on the lane at its second restart, when the first two are in its list, and a fourth goes to the arrival.
abbrev twice : List Entry
twice =
    did (Start (rank 0) 0) 0 0 ∷
    did (Start (rank 1) 1) 1 0 ∷
    did (Call (rank 0) (rank 1)) 1 0 ∷
    did (Route (rank 0) (rank 1)) 0 1 ∷
    did (Send (rank 0) (rank 1) 50) 1 0 ∷
    did (Move (rank 1) 1) 1 1 ∷
    did (Send (rank 0) (rank 1) 51) 2 0 ∷
    did (Heed (rank 0) (rank 1)) 0 0 ∷
    did (Drain (rank 1) (rank 0)) 0 1 ∷
    did (Drain (rank 1) (rank 0)) 0 2 ∷
    did (Drain (rank 1) (rank 0)) 1 0 ∷
    did (Land (rank 1)) 2 0 ∷
    did (Call (rank 0) (rank 1)) 1 0 ∷
    did (Route (rank 0) (rank 1)) 1 2 ∷
    did (Route (rank 0) (rank 1)) 0 2 ∷
    did (Send (rank 0) (rank 1) 52) 3 0 ∷
    did (Move (rank 1) 1) 1 1 ∷
    did (Heed (rank 0) (rank 1)) 0 0 ∷
    did (Call (rank 0) (rank 1)) 1 0 ∷
    did (Route (rank 0) (rank 1)) 1 3 ∷
    did (Route (rank 0) (rank 1)) 0 3 ∷
    did (Send (rank 0) (rank 1) 53) 4 0 ∷
    did (Drain (rank 1) (rank 0)) 0 3 ∷
    did (Drain (rank 1) (rank 0)) 1 0 ∷
    did (Land (rank 1)) 3 0 ∷
    did (Take (rank 1) (rank 0)) 50 1 ∷
    did (Take (rank 1) (rank 0)) 51 2 ∷ []

-- rank 1 runs with its third number; the message of the second restart is in its list, the last one on the lane to it
abbrev thrice_started : List Entry → Result
thrice_started es =
    record {
      steps = es;
      processes = process (Running (vmid 0 1)) ∷ process (Running (vmid 1 3)) ∷ replicate 14 idle;
      holds =
          message (rank 0) (rank 1) EndList 52 3 ∷
          message (rank 0) (rank 1) Channel 53 4 ∷ [];
    }

pub twice_comes_to : result (readings twice) ≡ thrice_started twice
unfolding computed
twice_comes_to = ap brief (from_fresh (readings twice))

pub twice_there : Balance (readings twice) (rank 0) (rank 1) (50 ∷ 51 ∷ []) (52 ∷ 53 ∷ []) (50 ∷ 51 ∷ 52 ∷ 53 ∷ [])
twice_there =
    balance (readings twice) (thrice_started twice) twice_comes_to (rank 0) (rank 1) (50 ∷ 51 ∷ []) (52 ∷ 53 ∷ [])
    (50 ∷ 51 ∷ 52 ∷ 53 ∷ []) refl refl refl refl

-- A second list for it: each restart lands at once.
abbrev one_by_one : List Entry
one_by_one =
    did (Start (rank 0) 0) 0 0 ∷
    did (Start (rank 1) 1) 1 0 ∷
    did (Call (rank 0) (rank 1)) 1 0 ∷
    did (Route (rank 0) (rank 1)) 0 1 ∷
    did (Send (rank 0) (rank 1) 50) 1 0 ∷
    did (Part (rank 0) (rank 1)) 0 0 ∷
    did (Move (rank 1) 1) 1 0 ∷
    did (Land (rank 1)) 1 0 ∷
    did (Call (rank 0) (rank 1)) 1 0 ∷
    did (Route (rank 0) (rank 1)) 1 2 ∷
    did (Route (rank 0) (rank 1)) 0 2 ∷
    did (Send (rank 0) (rank 1) 51) 2 0 ∷
    did (Send (rank 0) (rank 1) 52) 3 0 ∷
    did (Part (rank 0) (rank 1)) 0 0 ∷
    did (Move (rank 1) 1) 1 0 ∷
    did (Land (rank 1)) 3 0 ∷
    did (Call (rank 0) (rank 1)) 1 0 ∷
    did (Route (rank 0) (rank 1)) 1 3 ∷
    did (Route (rank 0) (rank 1)) 0 3 ∷
    did (Send (rank 0) (rank 1) 53) 4 0 ∷
    did (Take (rank 1) (rank 0)) 50 1 ∷
    did (Take (rank 1) (rank 0)) 51 2 ∷ []

pub one_by_one_comes_to : result (readings one_by_one) ≡ thrice_started one_by_one
unfolding computed
one_by_one_comes_to = ap brief (from_fresh (readings one_by_one))

pub one_by_one_accepted : every_accepted fresh (readings one_by_one) ≡ true
unfolding computed
one_by_one_accepted = ap (λ (t : Account). t.all) (from_fresh (readings one_by_one))

-- Each part of what the second half claims, computed.
pub twice_second : SecondList (readings twice)
twice_second =
    second
    (readings twice)
    (readings one_by_one)
    (thrice_started twice)
    (thrice_started one_by_one)
    twice_comes_to
    one_by_one_comes_to
    refl
    one_by_one_accepted
    refl
    refl
    refl
    refl
    refl
