-- Two moves of joined ranks that overlap, and a second list for them, for any hosts; and for hosts that all differ, computed from the
-- definitions. Assumes nothing.
use Rattle.std.specs.Prelude.{◌≡◌, refl, true, List, [], ◌∷◌, ℕ, replicate}
use Rattle.std.proofs.Common.{ap}
use Rattle.std.proofs.Math.Option.{none}
use Rattle.transit.specs.Message.{message, rank}
use Rattle.transit.specs.declared.Place.TheVariants.{EndList}
use Rattle.broker.specs.Names.{vmid}
use Rattle.broker.specs.State.{idle, fresh}
use Rattle.broker.specs.declared.process.Status.TheVariants.{Running}
use Rattle.broker.specs.declared.process.Vmid.{Vmid}
use Rattle.record.specs.declared.Record.TheVariants.{Start, Call, Route, Send, Take, Move, Drain, Land, Part}
use Rattle.ordering.specs.Claim.{Entry, every_accepted, are_bytes, records, unbroken, SecondList}
use Rattle.ordering.specs.Worked.Account.{Account, computed, from_fresh}
use Rattle.ordering.specs.Worked.Result.{Result, brief, result, Balance, balance, second, did, process, readings}

-- Ranks 0 and 1 start on hosts g and h, rank 1 with number n, and move to hosts k and l, rank 0 with number m.
module _ (g h k l n m : ℕ) where
  -- Two moves that overlap. Ranks 0 and 1 are joined, and each has a message on the lane to the other. Rank 0 moves, and a message follows
  -- it on the lane to its mover; rank 1 moves before rank 0 has landed. All is drained, both land, and each takes one message.
  abbrev pub overlapping : List Entry
  overlapping =
      did (Start (rank 0) g) g 0 ∷
      did (Start (rank 1) h) h 0 ∷
      did (Call (rank 0) (rank 1)) h 0 ∷
      did (Route (rank 0) (rank 1)) 0 n ∷
      did (Send (rank 0) (rank 1) 10) 1 0 ∷
      did (Send (rank 1) (rank 0) 20) 1 0 ∷
      did (Move (rank 0) k) k 1 ∷
      did (Send (rank 1) (rank 0) 21) 2 0 ∷
      did (Move (rank 1) l) l 1 ∷
      did (Drain (rank 0) (rank 1)) 0 1 ∷
      did (Drain (rank 1) (rank 0)) 0 1 ∷
      did (Drain (rank 0) (rank 1)) 0 2 ∷
      did (Drain (rank 0) (rank 1)) 1 0 ∷
      did (Land (rank 0)) 2 0 ∷
      did (Drain (rank 1) (rank 0)) 1 0 ∷
      did (Land (rank 1)) 1 0 ∷
      did (Take (rank 1) (rank 0)) 10 1 ∷
      did (Take (rank 0) (rank 1)) 20 1 ∷ []

  -- A second list for it: no line stands when a rank moves, and each move lands at once.
  abbrev pub apart : List Entry
  apart =
      did (Start (rank 0) g) g 0 ∷
      did (Start (rank 1) h) h 0 ∷
      did (Call (rank 0) (rank 1)) h 0 ∷
      did (Route (rank 0) (rank 1)) 0 n ∷
      did (Send (rank 0) (rank 1) 10) 1 0 ∷
      did (Part (rank 0) (rank 1)) 0 0 ∷
      did (Call (rank 1) (rank 0)) g 0 ∷
      did (Route (rank 1) (rank 0)) 0 1 ∷
      did (Send (rank 1) (rank 0) 20) 1 0 ∷
      did (Part (rank 1) (rank 0)) 0 0 ∷
      did (Move (rank 0) k) k 0 ∷
      did (Land (rank 0)) 1 0 ∷
      did (Call (rank 1) (rank 0)) g 0 ∷
      did (Route (rank 1) (rank 0)) 1 m ∷
      did (Route (rank 1) (rank 0)) 0 m ∷
      did (Send (rank 1) (rank 0) 21) 2 0 ∷
      did (Part (rank 1) (rank 0)) 0 0 ∷
      did (Move (rank 1) l) l 0 ∷
      did (Land (rank 1)) 1 0 ∷
      did (Take (rank 1) (rank 0)) 10 1 ∷
      did (Take (rank 0) (rank 1)) 20 1 ∷ []

-- both run, each with its new vmid, and the last message is unread
abbrev pub landed : Vmid → Vmid → List Entry → Result
landed v w es =
    record {
      steps = es;
      processes = process (Running v) ∷ process (Running w) ∷ replicate 14 idle;
      holds = message (rank 1) (rank 0) EndList 21 2 ∷ [];
    }

-- what the moves come to, where ranks 0 and 1 then run as v and w: the claim's two equations, and a second list
pub record Overlaps (g h k l n m : ℕ) (v w : Vmid) : Type 0 where
  pub comes_to : result (readings (overlapping g h k l n m)) ≡ landed v w (overlapping g h k l n m)
  pub there : Balance (readings (overlapping g h k l n m)) (rank 0) (rank 1) (10 ∷ []) [] (10 ∷ [])
  pub back : Balance (readings (overlapping g h k l n m)) (rank 1) (rank 0) (20 ∷ []) (21 ∷ []) (20 ∷ 21 ∷ [])
  pub second_list : SecondList (readings (overlapping g h k l n m))

-- All of it is read from what the two lists come to.
pub overlaps :
    (g h k l n m : ℕ) (v w : Vmid) →
    result (readings (overlapping g h k l n m)) ≡ landed v w (overlapping g h k l n m) →
    result (readings (apart g h k l n m)) ≡ landed v w (apart g h k l n m) →
    every_accepted fresh (readings (apart g h k l n m)) ≡ true →
    are_bytes (readings (apart g h k l n m)) ≡ true →
    unbroken none (records (apart g h k l n m)) ≡ true →
    Overlaps g h k l n m v w
overlaps g h k l n m v w here there all bytes moves =
    let xs = readings (overlapping g h k l n m) in
    let first = landed v w (overlapping g h k l n m) in
    let other = landed v w (apart g h k l n m) in
    record {
      comes_to = here;
      there = balance xs first here (rank 0) (rank 1) (10 ∷ []) [] (10 ∷ []) refl refl refl refl;
      back = balance xs first here (rank 1) (rank 0) (20 ∷ []) (21 ∷ []) (20 ∷ 21 ∷ []) refl refl refl refl;
      second_list = second xs (readings (apart g h k l n m)) first other here there bytes all moves refl refl refl refl;
    }

-- to hosts where no rank has been
pub to_other_hosts : Overlaps 0 1 2 3 1 1 (vmid 2 1) (vmid 3 1)
unfolding computed
to_other_hosts =
    overlaps 0 1 2 3 1 1 (vmid 2 1) (vmid 3 1)
    (ap brief (from_fresh (readings (overlapping 0 1 2 3 1 1))))
    (ap brief (from_fresh (readings (apart 0 1 2 3 1 1))))
    (ap (λ (t : Account). t.all) (from_fresh (readings (apart 0 1 2 3 1 1))))
    refl
    refl
