-- A list from the fresh state that leaves a move open, computed from the definitions. Assumes nothing.
use Rattle.std.specs.Prelude.{◌≡◌, refl, false, not, List, [], ◌∷◌, map, get_or, replicate}
use Rattle.std.proofs.Common.{ap}
use Rattle.transit.specs.declared.Place.TheVariants.{SourceChannel}
use Rattle.record.specs.Kind
use Rattle.broker.specs.Names.{vmid, is_migrating}
use Rattle.transit.specs.Message.{message, rank}
use Rattle.broker.specs.Ranks.{every_rank}
use Rattle.broker.specs.State.{idle, fresh}
use Rattle.broker.specs.declared.process.Status.TheVariants.{Running, Migrating}
use Rattle.record.specs.declared.Record.TheVariants.{Start, Call, Route, Send, Take, Move}
use Rattle.ordering.specs.Worked.Account.{computed, from_fresh}
use Rattle.ordering.specs.Claim.{Reading, Entry, after, no_move_open}
use Rattle.ordering.specs.Worked.Result.{Result, brief, result, Balance, balance, whole, did, process}

-- A list that leaves a move open: rank 1 moves when it has taken one of two messages, and a third follows it on the lane to its mover. An
-- unknown kind, an empty log, a take of nothing and a landing too early are refused on the way.
abbrev unlanded : List Reading
unlanded =
    map whole
    ((Kind.start ∷ 0 ∷ 0 ∷ []) ∷
    (Kind.start ∷ 1 ∷ 1 ∷ []) ∷
    (Kind.call ∷ 0 ∷ 1 ∷ []) ∷
    (Kind.route ∷ 0 ∷ 1 ∷ []) ∷
    (Kind.send ∷ 0 ∷ 1 ∷ 244 ∷ 1 ∷ 0 ∷ 0 ∷ []) ∷
    (Kind.send ∷ 0 ∷ 1 ∷ 245 ∷ 1 ∷ 0 ∷ 0 ∷ []) ∷
    (Kind.take ∷ 1 ∷ 0 ∷ []) ∷
    (13 ∷ []) ∷
    [] ∷
    (Kind.take ∷ 0 ∷ 1 ∷ []) ∷
    (Kind.move ∷ 1 ∷ 2 ∷ []) ∷
    (Kind.send ∷ 0 ∷ 1 ∷ 246 ∷ 1 ∷ 0 ∷ 0 ∷ []) ∷
    (Kind.land ∷ 1 ∷ []) ∷ [])

abbrev unlanded_steps : List Entry
unlanded_steps =
    did (Start (rank 0) 0) 0 0 ∷
    did (Start (rank 1) 1) 1 0 ∷
    did (Call (rank 0) (rank 1)) 1 0 ∷
    did (Route (rank 0) (rank 1)) 0 1 ∷
    did (Send (rank 0) (rank 1) 500) 1 0 ∷
    did (Send (rank 0) (rank 1) 501) 2 0 ∷
    did (Take (rank 1) (rank 0)) 500 1 ∷
    did (Move (rank 1) 2) 2 1 ∷
    did (Send (rank 0) (rank 1) 502) 2 0 ∷ []

abbrev open_move : Result
open_move =
    record {
      steps = unlanded_steps;
      processes = process (Running (vmid 0 1)) ∷ process (Migrating (vmid 1 1) (vmid 2 1)) ∷ replicate 14 idle;
      holds =
          message (rank 0) (rank 1) SourceChannel 501 2 ∷
          message (rank 0) (rank 1) SourceChannel 502 3 ∷ [];
    }

pub unlanded_comes_to : result unlanded ≡ open_move
unfolding computed
unlanded_comes_to = ap brief (from_fresh unlanded)

pub unlanded_there : Balance unlanded (rank 0) (rank 1) (500 ∷ []) (501 ∷ 502 ∷ []) (500 ∷ 501 ∷ 502 ∷ [])
unlanded_there =
    balance unlanded open_move unlanded_comes_to (rank 0) (rank 1) (500 ∷ []) (501 ∷ 502 ∷ []) (500 ∷ 501 ∷ 502 ∷ []) refl refl refl refl

-- The premise of the second half does not hold of it.
pub unlanded_is_open : no_move_open (after fresh unlanded) ≡ false
unfolding every_rank
unlanded_is_open =
    ap (λ (r : Result). every_rank (λ q. not (is_migrating (get_or r.processes q.0 idle).status))) unlanded_comes_to
