-- The listing of paper 01, "The printed run": its log, what its eighteen steps come to, and what the ordering claim says of them.
-- Computed from the definitions. Assumes nothing.
use Rattle.std.specs.Prelude.{◌≡◌, refl, List, [], ◌∷◌, map, ℕ, replicate}
use Rattle.std.proofs.Common.{ap}
use Rattle.transit.specs.declared.Place.TheVariants.{EndList, Channel}
use Rattle.record.specs.Kind
use Rattle.broker.specs.Names.{vmid}
use Rattle.transit.specs.Message.{message, rank}
use Rattle.broker.specs.State.{idle}
use Rattle.broker.specs.declared.process.Status.TheVariants.{Running}
use Rattle.record.specs.declared.Record.TheVariants.{Start, Call, Route, Send, Take, Move, Heed, Drain, Land}
use Rattle.ordering.specs.Worked.Account.{computed, from_fresh}
use Rattle.ordering.specs.Claim.{Reading}
use Rattle.ordering.specs.Worked.Result.{Result, result, brief, Balance, balance, did, process}

-- "start 0 0, start 1 1, call 0 1, route 0 1, send 0 1 500, move 1 2, send 0 1 501, heed 0 1, call 0 1, route 0 1 twice, send 0 1 502,
-- land 1, drain 1 0 three times, land 1, take 1 0"
abbrev pub log : List ℕ
log =
    Kind.start ∷ 0 ∷ 0 ∷
    Kind.start ∷ 1 ∷ 1 ∷
    Kind.call ∷ 0 ∷ 1 ∷
    Kind.route ∷ 0 ∷ 1 ∷
    Kind.send ∷ 0 ∷ 1 ∷ 244 ∷ 1 ∷ 0 ∷ 0 ∷
    Kind.move ∷ 1 ∷ 2 ∷
    Kind.send ∷ 0 ∷ 1 ∷ 245 ∷ 1 ∷ 0 ∷ 0 ∷
    Kind.heed ∷ 0 ∷ 1 ∷
    Kind.call ∷ 0 ∷ 1 ∷
    Kind.route ∷ 0 ∷ 1 ∷
    Kind.route ∷ 0 ∷ 1 ∷
    Kind.send ∷ 0 ∷ 1 ∷ 246 ∷ 1 ∷ 0 ∷ 0 ∷
    Kind.land ∷ 1 ∷
    Kind.drain ∷ 1 ∷ 0 ∷
    Kind.drain ∷ 1 ∷ 0 ∷
    Kind.drain ∷ 1 ∷ 0 ∷
    Kind.land ∷ 1 ∷
    Kind.take ∷ 1 ∷ 0 ∷ []

-- a record at each position
abbrev pub listing : List Reading
listing =
    map (λ (n : ℕ). record { log = log; at = n })
    (0 ∷ 3 ∷ 6 ∷ 9 ∷ 12 ∷ 19 ∷ 22 ∷ 29 ∷ 32 ∷ 35 ∷ 38 ∷ 41 ∷ 48 ∷ 50 ∷ 53 ∷ 56 ∷ 59 ∷ 61 ∷ [])

-- What the list comes to: rank 1 runs where it moved to, and the two messages that it has not taken are in its list and on its lane.
abbrev listing_result : Result
listing_result =
    record {
      steps =
          did (Start (rank 0) 0) 0 0 ∷
          did (Start (rank 1) 1) 1 0 ∷
          did (Call (rank 0) (rank 1)) 1 0 ∷
          did (Route (rank 0) (rank 1)) 0 1 ∷
          did (Send (rank 0) (rank 1) 500) 1 0 ∷
          did (Move (rank 1) 2) 2 1 ∷
          did (Send (rank 0) (rank 1) 501) 2 0 ∷
          did (Heed (rank 0) (rank 1)) 0 0 ∷
          did (Call (rank 0) (rank 1)) 1 0 ∷
          did (Route (rank 0) (rank 1)) 1 1 ∷
          did (Route (rank 0) (rank 1)) 0 1 ∷
          did (Send (rank 0) (rank 1) 502) 3 0 ∷
          did (Drain (rank 1) (rank 0)) 0 1 ∷
          did (Drain (rank 1) (rank 0)) 0 2 ∷
          did (Drain (rank 1) (rank 0)) 1 0 ∷
          did (Land (rank 1)) 2 0 ∷
          did (Take (rank 1) (rank 0)) 500 1 ∷ [];
      processes = process (Running (vmid 0 1)) ∷ process (Running (vmid 2 1)) ∷ replicate 14 idle;
      holds =
          message (rank 0) (rank 1) EndList 501 2 ∷
          message (rank 0) (rank 1) Channel 502 3 ∷ [];
    }

pub listing_comes_to : result listing ≡ listing_result
unfolding computed
listing_comes_to = ap brief (from_fresh listing)

pub listing_balance : Balance listing (rank 0) (rank 1) (500 ∷ []) (501 ∷ 502 ∷ []) (500 ∷ 501 ∷ 502 ∷ [])
listing_balance =
    balance listing listing_result listing_comes_to (rank 0) (rank 1) (500 ∷ []) (501 ∷ 502 ∷ []) (500 ∷ 501 ∷ 502 ∷ [])
    refl refl refl refl
